-- One problem that becomes another by one change.
use Rattle.std.specs.Prelude.{◌≡◌, ℕ, ℤ, Bool, false, Some, List, [], ◌∷◌, ◌++◌, slice_get, slice_set, remove, true, IsPermutation}
use Rattle.dam_book.specs.Price.{IsPrice}
use Rattle.dam_hour.specs.Price.{IsWorse}
use Rattle.dam_hour.specs.declared.step.Step.{Step}
use Rattle.dam_blocks.specs.declared.problem.Block.{Block}
use Rattle.dam_blocks.specs.Problem.{ProblemState}
use Rattle.dam_blocks.specs.Selection.{accepts}
use Rattle.dam_blocks.specs.Result.{IsResult}

-- the selection without the place; a place is added at the end, which is rejected
abbrev pub without_place : List Bool → ℕ → List Bool
without_place selection place = remove selection place ++ false ∷ []

-- the other problem has the same hourly orders and, without the block at the place, the same blocks
pub record IsWithoutBlock (problem other : ProblemState) (place : ℕ) (block : Block) : Type 0 where
  pub stands : slice_get problem.blocks place ≡ Some block
  pub hours : other.hours ≡ problem.hours
  pub blocks : other.blocks ≡ remove problem.blocks place

-- the block with another limit
abbrev pub with_limit : Block → ℤ → Block
with_limit block limit = record block { order = record block.order { price = limit } }

-- the other problem has the same hourly orders and, with this limit for the block at the place, the same blocks
pub record IsWithLimit (problem other : ProblemState) (place : ℕ) (block : Block) (limit : ℤ)
    : Type 0 where
  pub stands : slice_get problem.blocks place ≡ Some block
  pub hours : other.hours ≡ problem.hours
  pub blocks : other.blocks ≡ slice_set problem.blocks place (with_limit block limit)

-- the problem with this limit for the block at the place
abbrev pub with_limit_at : ProblemState → ℕ → Block → ℤ → ProblemState
with_limit_at problem place block limit =
    record problem { blocks = slice_set problem.blocks place (with_limit block limit) }

-- with this limit for the block at the place, there is a result, which accepts it
abbrev pub IsAcceptedAt : ProblemState → ℕ → Block → ℤ → Type 0
IsAcceptedAt problem place block limit =
    (selection : List Bool) × (welfare : ℤ)
    × IsResult (with_limit_at problem place block limit) selection welfare
    × (accepts selection place ≡ true)

-- with this limit for the block at the place, there is a result, which rejects it
abbrev pub IsRejectedAt : ProblemState → ℕ → Block → ℤ → Type 0
IsRejectedAt problem place block limit =
    (selection : List Bool) × (welfare : ℤ)
    × IsResult (with_limit_at problem place block limit) selection welfare
    × (accepts selection place ≡ false)

-- with each limit of the range, the result rejects the block at the place
abbrev pub IsNeverAccepted : ProblemState → ℕ → Block → Type 0
IsNeverAccepted problem place block =
    (limit : ℤ) → IsPrice limit → IsRejectedAt problem place block limit

-- of the limits of the range, the result accepts the block at the place with this one and each that isn't worse, and
-- rejects it with each that is
pub record IsWorstLimit (problem : ProblemState) (place : ℕ) (block : Block) (worst : ℤ) : Type 0 where
  pub in_range : IsPrice worst
  pub accepted : (limit : ℤ) → IsPrice limit → ¬ (IsWorse block.order.side limit worst)
      → IsAcceptedAt problem place block limit
  pub rejected : (limit : ℤ) → IsPrice limit → IsWorse block.order.side limit worst
      → IsRejectedAt problem place block limit

-- each period has the same hourly orders, perhaps in another order
abbrev pub AreReordered : List (List Step) → List (List Step) → Type 0
AreReordered [] [] = Unit {0}
AreReordered (steps ∷ hours) (others ∷ more) = IsPermutation steps others × AreReordered hours more
AreReordered [] (others ∷ more) = ⊥
AreReordered (steps ∷ hours) [] = ⊥

-- the other problem has the same blocks and, in each period, the same hourly orders, perhaps in another order
pub record IsReordered (problem other : ProblemState) : Type 0 where
  pub hours : AreReordered problem.hours other.hours
  pub blocks : other.blocks ≡ problem.blocks

-- the other problem has the same hourly orders and the same blocks, perhaps in another order
pub record HasBlocksReordered (problem other : ProblemState) : Type 0 where
  pub hours : other.hours ≡ problem.hours
  pub blocks : IsPermutation problem.blocks other.blocks

-- the two selections accept the same blocks among those that stand in both lists
abbrev pub AcceptTheSame : List Block → List Block → List Bool → List Bool → Type 0
AcceptTheSame blocks others selection counterpart =
    (i j : ℕ) (block : Block) → slice_get blocks i ≡ Some block → slice_get others j ≡ Some block
    → accepts selection i ≡ accepts counterpart j
