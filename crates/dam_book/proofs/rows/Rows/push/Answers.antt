-- The row that is put last.
use Rattle.dam_book.proofs.Common.{AreNumbered, Key, Label, List, MapPlace, Order, Row, Some, [], ap, ap₂, gap_count, insert_entry-new, rows_of}
use Rattle.dam_book.proofs.Common.{same_label, subst, sym, ◌++◌, ◌∙◌, ◌∷◌}
use Rattle.dam_book.proofs.GapFacts.{rows_of-push, numbered-push}
use Rattle.dam_book.proofs.rows.Rows.push.Goals as goal

pub invariant_of-self-2 : goal.invariant_of-self-2
invariant_of-self-2 g c =
    let last = c.in_ok-insert.ensures.entries ∙ insert_entry-new same_label c.release_label.new.map c.row_label-label.result
    (Some c.in_ok-boxed.boxed) c.in_ok-release_label.ensures.absent in
    let count = ap (λ (ps : List MapPlace). gap_count ps) last
    ∙ (rows_of-push c.release_label.new.map.entries c.row_label-label.result c.in_ok-boxed.boxed).1 in
    let row = ap (λ (l : Label). l.1) c.row_label-label.ensures in (
      c.self.invariant.0 ∙ sym c.release_label.ensures.count ∙ sym count,
      subst (λ (ps : List MapPlace). AreNumbered 1 ps) (sym last)
          (numbered-push 1 c.release_label.new.map.entries c.row_label-label.result c.in_ok-boxed.boxed row c.release_label.ensures.numbered),
      c.in_ok-insert.ensures.unique,
    )

pub returns-clause-entries : goal.returns-clause-entries
returns-clause-entries g c =
    let last = c.in_ok-insert.ensures.entries ∙ insert_entry-new same_label c.release_label.new.map c.row_label-label.result
    (Some c.in_ok-boxed.boxed) c.in_ok-release_label.ensures.absent in
    ap (λ (ps : List MapPlace). rows_of ps) last ∙ (rows_of-push c.release_label.new.map.entries c.row_label-label.result c.in_ok-boxed.boxed).0
    ∙ ap (λ (rs : List Row). rs ++ (c.row_label-label.result.0, c.in_ok-boxed.boxed) ∷ []) (c.release_label.ensures.rows ∙ c.self.view_is)
    ∙ ap₂ (λ (k : Key) (o : Order). c.args.self.now ++ (k, o) ∷ []) (ap (λ (l : Label). l.0) c.row_label-label.ensures) c.in_ok-boxed.ensures
