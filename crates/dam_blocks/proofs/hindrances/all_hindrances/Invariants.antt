-- Those of each block so far.
use Rattle.dam_blocks.proofs.Common.{◌≡◌, ℕ, Some, length, Hindrances, AreHindrances}
use Rattle.std.specs.List.{slice_get}
use Rattle.dam_blocks.proofs.hindrances.all_hindrances.Given as goal

abbrev pub invariant-loop-place : goal.invariant-loop-place
invariant-loop-place g l = record {
  as_many : length l.all.items ≡ l.place;
  each : (i : ℕ) (a : Hindrances) → slice_get l.all.items i ≡ Some a → AreHindrances l.blocks i a;
}
