-- The periods so far have their levels.
use Rattle.dam_bound.proofs.DayLevels.{AreDaySoFar}
use Rattle.dam_bound.proofs.relaxed.build_all_levels.Given as goal

abbrev pub invariant-loop-place : goal.invariant-loop-place
invariant-loop-place g l = AreDaySoFar l.problem.blocks l.problem.hours l.place l.periods.items
