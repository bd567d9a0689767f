-- The ancestors so far.
use Rattle.dam_bound.proofs.Common.{◌≡◌, ℕ, ◌&&◌, length, most_blocks, accepts, descends}
use Rattle.std.proofs.Common.{nat_lt}
use Rattle.dam_bound.proofs.families.ancestors_of.Given as goal

abbrev pub invariant-loop-at : goal.invariant-loop-at
invariant-loop-at l = record {
  long : length l.ancestors ≡ most_blocks;
  are : (at : ℕ) → accepts l.ancestors at ≡ (nat_lt at l.at && descends l.blocks at l.place);
}
