-- The places so far.
use Rattle.dam_bound.proofs.Common.{◌≡◌, ◌*◌, ◌+ℤ◌, drop, greatest_volume, IsWithin, weighted_sum}
use Rattle.dam_bound.proofs.block_numbers.weighted_sum.Given as goal

abbrev pub invariant-loop-place : goal.invariant-loop-place
invariant-loop-place l = record {
  size : IsWithin (l.place * (2 * greatest_volume)) l.total;
  so_far : l.total +ℤ weighted_sum (drop l.place l.weights) (drop l.place l.nets) ≡ weighted_sum l.weights l.nets;
}
