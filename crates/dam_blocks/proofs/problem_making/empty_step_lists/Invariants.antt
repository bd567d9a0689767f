-- The lists so far, and those that are left.
use Rattle.dam_blocks.proofs.Common.{◌≡◌, ◌+◌, ◌-◌, ◌++◌, [], map, hours_from}
use Rattle.dam_blocks.proofs.problem_making.empty_step_lists.Given as goal

abbrev pub invariant-loop : goal.invariant-loop
invariant-loop g l =
    map (λ steps. steps.items) l.hourly.items ++ hours_from (l.counter + 1) (l.periods - l.counter) [] ≡ hours_from 1 l.periods []
