-- The segments so far, and the volume and the cost under the next one.
use Rattle.std.proofs.Common.{◌≡◌, ◌*◌, ◌≤◌, ◌++◌, drop}
use Rattle.dam_book.specs.Limits.{lowest_price, greatest_volume}
use Rattle.dam_hour.specs.Limits.{price_span}
use Rattle.dam_curve.specs.inside.Segments.{segments_from}
use Rattle.dam_curve.proofs.sum.fill_period_segments.Given as goal

abbrev pub invariant-loop-step : goal.invariant-loop-step
invariant-loop-step g l = record {
  segments : l.segments.items ++ segments_from l.demand.volume l.demand.worth l.previous l.before l.cost (drop l.step-index l.steps)
      ≡ segments_from l.demand.volume l.demand.worth lowest_price 0 0 l.steps;
  before_small : l.before ≤ l.step-index * greatest_volume;
  cost_small : l.cost ≤ l.step-index * (price_span * greatest_volume);
}
