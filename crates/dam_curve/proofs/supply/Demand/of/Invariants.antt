-- The demand of the steps so far.
use Rattle.std.proofs.Common.{◌≡◌, ◌+◌, ◌*◌, ◌≤◌, drop}
use Rattle.dam_book.specs.Limits.{greatest_volume}
use Rattle.dam_book.specs.declared.order.Side.TheVariants.{Buy}
use Rattle.dam_hour.specs.Limits.{price_span}
use Rattle.dam_hour.specs.Execution.{offered_volume}
use Rattle.dam_curve.specs.inside.Supply.{worth_of}
use Rattle.dam_curve.proofs.supply.Demand.of.Given as goal

abbrev pub invariant-loop-step : goal.invariant-loop-step
invariant-loop-step l = record {
  volume : l.demand.volume + offered_volume Buy (drop l.step-index l.steps) ≡ offered_volume Buy l.steps;
  worth : l.demand.worth + worth_of (drop l.step-index l.steps) ≡ worth_of l.steps;
  volume_small : l.demand.volume ≤ l.step-index * greatest_volume;
  worth_small : l.demand.worth ≤ l.step-index * (price_span * greatest_volume);
}
