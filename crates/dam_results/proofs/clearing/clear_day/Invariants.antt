-- The periods so far are cleared.
use Rattle.std.proofs.Common.{take, map}
use Rattle.dam_results.specs.inside.Cleared.{AreCleared}
use Rattle.dam_results.proofs.clearing.clear_day.Given as goal

abbrev pub invariant-loop-place : goal.invariant-loop-place
invariant-loop-place g l =
    AreCleared l.problem.blocks l.best.selection (take l.place l.problem.hours) l.periods.items l.prices.items
    (map (λ v. v.items) l.executions.items)
