-- A place in common is a needed block that is rejected, or an excluded one that is accepted.
use Rattle.dam_search.proofs.Common.{List, Bool, ap, ◌∙◌, rules, slice_get_read, accepts}
use Rattle.dam_search.proofs.RulingOut.{lacks_one, beside_one}
use Rattle.dam_search.proofs.conflicts.Conflicts.forbids_accepting.Goals as goal

pub returns-then-meets : goal.returns-then-meets
returns-then-meets c e problem selection welfare are eligible all none =
    let row = c.index-self-place in let meets = c.meets.ensures.0 e in
    lacks_one problem c.args.self.now c.args.place meets.0 row.result c.args.rejected selection welfare are
    (slice_get_read _ _ c.args.place _ (search rules) c.requires row.is)
    (ap (λ (r : List Bool). accepts r meets.0) row.is ∙ meets.1) meets.2 eligible none

pub returns-else-meets : goal.returns-else-meets
returns-else-meets c e problem selection welfare are eligible all none =
    let row = c.index-self-place-else-meets in let meets = c.meets-else-meets.ensures.0 e in
    beside_one problem c.args.self.now c.args.place meets.0 row.result c.args.accepted selection welfare are
    (slice_get_read _ _ c.args.place _ (search rules) c.requires row.is)
    (ap (λ (r : List Bool). accepts r meets.0) row.is ∙ meets.1) meets.2 eligible all
