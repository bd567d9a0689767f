-- A place in common is a accepted block that needs this one.
use Rattle.dam_search.proofs.Common.{List, Bool, ap, ◌∙◌, rules, slice_get_read, accepts}
use Rattle.dam_search.proofs.RulingOut.{needed_by_one}
use Rattle.dam_search.proofs.conflicts.Conflicts.forbids_rejecting.Goals as goal

pub returns : goal.returns
returns c e problem selection welfare are eligible all =
    let row = c.index-self-place in let meets = c.meets.ensures.0 e in
    needed_by_one problem c.args.self.now c.args.place meets.0 row.result c.args.accepted selection welfare are
    (slice_get_read _ _ c.args.place _ (search rules) c.requires row.is)
    (ap (λ (r : List Bool). accepts r meets.0) row.is ∙ meets.1) meets.2 eligible all
