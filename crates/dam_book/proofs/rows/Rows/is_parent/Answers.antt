-- No gap counts.
use Rattle.dam_book.proofs.Common.{List, Row, ap, list_any, names_parent, ◌∙◌}
use Rattle.dam_book.proofs.GapFacts.{any-rows_of}
use Rattle.dam_book.proofs.rows.Rows.is_parent.Goals as goal

pub returns : goal.returns
returns g c = c.has_child.ensures ∙ any-rows_of (c.args.who.now, c.args.name.now) c.self.inside.map.entries
    ∙ ap (λ (rs : List Row). list_any (names_parent (c.args.who.now, c.args.name.now)) rs) c.self.view_is
