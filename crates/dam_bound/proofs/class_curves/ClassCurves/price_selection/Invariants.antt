-- The bound is lowered by the classes so far, and they have their prices.
use Rattle.dam_bound.proofs.ClassPricing.{ArePricedSoFar}
use Rattle.dam_bound.proofs.Lowering.{IsLowered}
use Rattle.dam_bound.proofs.class_curves.ClassCurves.price_selection.Given as goal

abbrev pub invariant-loop-class : goal.invariant-loop-class
invariant-loop-class g l = record {
  lowered : IsLowered l.self l.pricing.lines l.fn.selection l.class-index l.total;
  priced : ArePricedSoFar l.self l.fn.selection l.class-index l.prices.prices;
}
