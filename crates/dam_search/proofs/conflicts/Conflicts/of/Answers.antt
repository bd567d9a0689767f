-- Before the loop there are no rows; each block adds its own.
use Rattle.std.proofs.Common.{refl, rules, arith}
use Rattle.dam_search.proofs.RulingOut.{no_conflicts, conflicts_more, group_excluded, excludes_with_rows, excludes_without_rows, as_many_blocks}
use Rattle.dam_search.proofs.conflicts.Conflicts.of.Goals as goal

pub loop-place-init : goal.loop-place-init
loop-place-init g c = no_conflicts c.args.problem.now _ (search rules) (search rules) (search rules)

pub with_rivals-requires-clause-count : goal.with_rivals-requires-clause-count
with_rivals-requires-clause-count g c =
    let many = as_many_blocks c.args.problem.now _ _ c.requires c.blocks-blocks.ensures.value in omega (arith, many)

pub with_rivals-requires-clause-place : goal.with_rivals-requires-clause-place
with_rivals-requires-clause-place g c =
    let many = as_many_blocks c.args.problem.now _ _ c.requires c.blocks-blocks.ensures.value in
    let inside = c.loop-place-test.true in omega (arith, many, inside)

pub with_rivals-requires-clause-others : goal.with_rivals-requires-clause-others
with_rivals-requires-clause-others g c =
    excludes_without_rows c.args.problem.now _ c.loop-place.place _ c.requires
    (group_excluded (record { ancestors = c.admissible_keeps_ancestors_and_groups.ensures.ancestors; group = c.admissible_keeps_ancestors_and_groups.ensures.group }) c.args.problem.now _
    c.loop-place.place _ c.blocks-blocks.ensures.value c.others_of_group.ensures)

pub loop-place-preserved : goal.loop-place-preserved
loop-place-preserved g c =
    conflicts_more (record { ancestors = c.admissible_keeps_ancestors_and_groups.ensures.ancestors; group = c.admissible_keeps_ancestors_and_groups.ensures.group }) c.args.problem.now _ _ _ c.loop-place.place
    _ _ _ c.blocks-blocks.ensures.valid c.blocks-blocks.ensures.value c.ancestors_of.ensures c.descendants_of.ensures
    (excludes_with_rows c.args.problem.now _ c.loop-place.place _ c.requires c.with_rivals.ensures)
    refl refl refl c.loop-place.invariant
