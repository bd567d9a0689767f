-- The gains of the places so far are raised, and the others are as they were.
use Rattle.dam_bound.proofs.Common.{◌≡◌, ℕ, ◌<◌, ◌≤◌, ℤ, ◌+ℤ◌, ◌*ℤ◌, length, get_or, most_blocks}
use Rattle.dam_bound.proofs.block_numbers.add_priced_nets.Given as goal

abbrev pub invariant-loop-place : goal.invariant-loop-place
invariant-loop-place l = record {
  long : length l.gains ≡ most_blocks;
  raised : (i : ℕ) (d : ℤ) → i < l.place → get_or l.gains i d ≡ get_or l.fn.gains i d +ℤ l.price *ℤ get_or l.nets i d;
  rest : (i : ℕ) (d : ℤ) → l.place ≤ i → get_or l.gains i d ≡ get_or l.fn.gains i d;
}
