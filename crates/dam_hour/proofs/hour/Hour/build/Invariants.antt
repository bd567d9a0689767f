-- The steps so far, each in range.
use Rattle.dam_hour.proofs.Common.{◌≡◌, take, AreInRange}
use Rattle.dam_hour.proofs.hour.Hour.build.Given as goal

abbrev pub invariant-loop-step : goal.invariant-loop-step
invariant-loop-step g l = record {
  items : l.in_range_steps.items ≡ take l.step-index l.steps;
  in_range : AreInRange l.in_range_steps.items;
}
