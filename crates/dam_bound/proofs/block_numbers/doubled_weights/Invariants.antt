-- The weights so far.
use Rattle.std.proofs.Common.{◌≡◌, ℕ, ◌<◌, ℤ, pos, ◌≤ℤ◌, length, get_or}
use Rattle.dam_book.specs.Limits.{most_blocks}
use Rattle.dam_bound.specs.inside.BlockNumbers.{AreWeights}
use Rattle.dam_bound.proofs.block_numbers.doubled_weights.Given as goal

abbrev pub invariant-loop-place : goal.invariant-loop-place
invariant-loop-place l = record {
  long : length l.weights ≡ most_blocks;
  at_least : (i : ℕ) (d : ℤ) → i < l.place → pos 0 ≤ℤ get_or l.weights i d;
  at_most : (i : ℕ) (d : ℤ) → i < l.place → get_or l.weights i d ≤ℤ pos 2;
}

abbrev pub invariant-loop-place-2 : goal.invariant-loop-place-2
invariant-loop-place-2 l = AreWeights l.weights
