-- The hours so far are those of the first lists.
use Rattle.std.proofs.Common.{◌≡◌, take, map}
use Rattle.dam_blocks.proofs.problem_making.hours_of.Given as goal

abbrev pub invariant-loop-steps : goal.invariant-loop-steps
invariant-loop-steps g l = l.hours.items ≡ take l.steps-index (map (λ steps. steps.items) l.hourly)
