-- The periods so far are cleared.
use Rattle.dam_blocks.proofs.PeriodByPeriod.{IsClearedSoFar}
use Rattle.dam_blocks.proofs.scoring.priced_day.Given as goal

abbrev pub invariant-loop-place : goal.invariant-loop-place
invariant-loop-place g l = IsClearedSoFar l.problem.blocks l.selection l.hours l.place l.welfare l.prices
