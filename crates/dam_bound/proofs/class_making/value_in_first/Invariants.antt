-- The value in the periods so far.
use Rattle.dam_bound.proofs.Common.{◌≡◌, suc, ◌-◌, ◌*◌, ◌+ℤ◌, greatest_value, IsWithin, value_in, over_periods}
use Rattle.dam_bound.proofs.class_making.value_in_first.Given as goal

abbrev pub invariant-loop-at : goal.invariant-loop-at
invariant-loop-at l = record {
  size : IsWithin (l.at * greatest_value) l.total;
  so_far : l.total +ℤ over_periods (λ t. value_in t l.order) (suc l.at) (l.count - l.at) ≡ over_periods (λ t. value_in t l.order) 1 l.count;
}
