-- The volumes so far, and those of the steps that are left.
use Rattle.dam_hour.proofs.Common.{◌≡◌, ◌++◌, drop, volumes_in_turn, total_on}
use Rattle.dam_hour.proofs.execution.volumes_in_turn.Given as goal

abbrev pub invariant-loop-step : goal.invariant-loop-step
invariant-loop-step g l =
    l.volumes.items ++ volumes_in_turn l.price (drop l.step-index l.steps) (λ side. total_on side l.left.buys l.left.sells)
    ≡ volumes_in_turn l.price l.steps (λ side. total_on side l.initial.left.buys l.initial.left.sells)
