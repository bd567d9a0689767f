-- One for each block so far.
use Rattle.dam_bound.proofs.Common.{◌≡◌, ℕ, Bool, Option, Some, List, length, slice_get, IsFamily}
use Rattle.dam_bound.proofs.families.descendants_of_each.Given as goal

abbrev pub invariant-loop-place : goal.invariant-loop-place
invariant-loop-place g l = record {
  as_many : length l.families.items ≡ l.place;
  each : (i : ℕ) (family : Option (List Bool)) → slice_get l.families.items i ≡ Some family → IsFamily l.blocks i family;
}
