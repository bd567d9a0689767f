-- For each block those that descend from it, as they are kept.
use Rattle.std.specs.Prelude.{◌≡◌, ℕ, ◌<◌, Bool, false, Option, Some, None, List, length, slice_get}
use Rattle.dam_blocks.specs.declared.problem.Block.{Block}
use Rattle.dam_blocks.specs.Selection.{accepts}
use Rattle.dam_blocks.specs.Family.{descends}

-- the blocks that descend from the one at the place; None if none does
abbrev pub IsFamily : List Block → ℕ → Option (List Bool) → Type 0
IsFamily blocks i None = (j : ℕ) → j < length blocks → descends blocks i j ≡ false
IsFamily blocks i (Some family) =
    (j : ℕ) → j < length blocks → accepts family j ≡ descends blocks i j

-- one for each block
pub record AreFamilies (blocks : List Block) (families : List (Option (List Bool))) : Type 0 where
  pub as_many : length families ≡ length blocks
  pub each : (i : ℕ) (family : Option (List Bool)) → slice_get families i ≡ Some family
      → IsFamily blocks i family
