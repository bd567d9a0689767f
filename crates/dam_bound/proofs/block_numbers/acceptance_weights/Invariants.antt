-- The counts of the places so far.
use Rattle.dam_bound.proofs.Common.{◌≡◌, ℕ, ◌<◌, ℤ, cond, length, get_or, most_blocks, accepts}
use Rattle.std.proofs.Common.{pos}
use Rattle.dam_bound.proofs.block_numbers.acceptance_weights.Given as goal

abbrev pub invariant-loop-place : goal.invariant-loop-place
invariant-loop-place l = record {
  long : length l.counts ≡ most_blocks;
  so_far : (i : ℕ) (d : ℤ) → i < l.place → get_or l.counts i d ≡ cond (accepts l.selection i) (pos 1) (pos 0);
}
