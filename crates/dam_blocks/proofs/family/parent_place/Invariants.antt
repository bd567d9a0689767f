-- No block so far is named.
use Rattle.dam_blocks.proofs.Common.{◌≡◌, ℕ, ◌<◌, false, get_or, names}
use Rattle.dam_blocks.proofs.family.parent_place.Given as goal

abbrev pub invariant-loop-at : goal.invariant-loop-at
invariant-loop-at l = (k : ℕ) → k < l.at → names (get_or l.blocks k l.child) l.child ≡ false
