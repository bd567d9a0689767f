-- The places of the blocks that may keep another from being accepted, as a problem keeps them.
use Rattle.std.specs.Prelude.{◌≡◌, ℕ, ◌+◌, Bool, Some, List, [], ◌∷◌, length, slice_get, if◌then◌else◌}
use Rattle.dam_blocks.specs.declared.problem.Block.{Block}
use Rattle.dam_blocks.specs.declared.hindrances.Hindrances.{Hindrances}
use Rattle.dam_blocks.specs.Family.{names}
use Rattle.dam_blocks.specs.Selection.{accepts, are_of_one_group}

-- the places, counted from this one, of the blocks that pass the test
abbrev pub places_where : (Block → Bool) → ℕ → List Block → List ℕ
places_where test at [] = []
places_where test at (b ∷ bs) =
    if test b then at ∷ places_where test (at + 1) bs else places_where test (at + 1) bs

-- the place of the block's parent, if it has one
abbrev pub parent_places : Block → List Block → List ℕ
parent_places block blocks = places_where (λ b. names b block) 0 blocks

-- the places of the blocks of its group, its own among them
abbrev pub group_places : Block → List Block → List ℕ
group_places block blocks = places_where (λ b. are_of_one_group block b) 0 blocks

-- how many of the places the selection accepts
abbrev pub count_accepted : List Bool → List ℕ → ℕ
count_accepted selection [] = 0
count_accepted selection (j ∷ places) =
    (if accepts selection j then 1 else 0) + count_accepted selection places

-- the hindrances of the block
pub record AreHindrancesOf (block : Block) (blocks : List Block) (own : Hindrances) : Type 0 where
  pub parents : own.parent_places.items ≡ parent_places block blocks
  pub group : own.group_places.items ≡ group_places block blocks

-- the hindrances of the block at place i
pub record AreHindrances (blocks : List Block) (i : ℕ) (own : Hindrances) : Type 0 where
  pub block : Block
  pub stands : slice_get blocks i ≡ Some block
  pub are : AreHindrancesOf block blocks own

-- the hindrances of each block
pub record AreAllHindrances (blocks : List Block) (all : List Hindrances) : Type 0 where
  pub as_many : length all ≡ length blocks
  pub each : (i : ℕ) (own : Hindrances) → slice_get all i ≡ Some own → AreHindrances blocks i own
