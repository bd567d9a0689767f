-- The gains of the places so far.
use Rattle.dam_bound.proofs.Common.{◌≡◌, ◌+◌, ◌*◌, ◌+ℤ◌, drop, most_blocks, IsWithin, over_gains, over_open, greatest_priced_gain}
use Rattle.dam_bound.specs.Prices.{greatest_base}
use Rattle.dam_bound.proofs.pricing.Pricing.bound.Given as goal

abbrev pub invariant-loop-place : goal.invariant-loop-place
invariant-loop-place l = record {
  size : IsWithin (greatest_base + l.place * greatest_priced_gain) l.total;
  so_far : l.total +ℤ over_gains (drop l.place l.self.gains) (drop l.place l.accepted) ≡ l.self.base +ℤ over_gains l.self.gains l.accepted;
}

abbrev pub invariant-loop-place-2 : goal.invariant-loop-place-2
invariant-loop-place-2 l = record {
  size : IsWithin (greatest_base + (most_blocks + l.place-index) * greatest_priced_gain) l.total;
  so_far : l.total +ℤ over_open l.self.gains (drop l.place-index l.undecided)
      ≡ (l.self.base +ℤ over_gains l.self.gains l.fn.accepted) +ℤ over_open l.self.gains l.undecided;
}
