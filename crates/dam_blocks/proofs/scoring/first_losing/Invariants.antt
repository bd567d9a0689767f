-- No accepted block so far loses.
use Rattle.dam_blocks.proofs.Common.{◌≡◌, ℕ, ◌<◌, pos, ◌≤ℤ◌, true, accepts, family_surplus}
use Rattle.dam_blocks.proofs.scoring.first_losing.Given as goal

abbrev pub invariant-loop-place : goal.invariant-loop-place
invariant-loop-place g l = (j : ℕ) → j < l.place → accepts l.selection j ≡ true → pos 0 ≤ℤ family_surplus l.blocks l.selection l.prices j
