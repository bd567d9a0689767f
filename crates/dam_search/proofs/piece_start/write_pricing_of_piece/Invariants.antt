-- The bound so far, and what it is for the selections of the piece.
use Rattle.std.proofs.Common.{◌≡◌}
use Rattle.dam_bound.specs.Prices.{bound_of, IsPricing}
use Rattle.dam_search.proofs.piece_start.write_pricing_of_piece.Given as goal

abbrev pub invariant-loop-place : goal.invariant-loop-place
invariant-loop-place g l = record {
  is_pricing : IsPricing (g.P.PriceOracle.problem l.oracle) l.pricing;
  bound_is : l.bound ≡ bound_of l.pricing l.accepted l.decision_order;
}
