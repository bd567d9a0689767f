-- Families of linked blocks: which blocks descend from another one by their chain of parents.
use Rattle.std.specs.Prelude.{◌≡◌, ℕ, zero, suc, Bool, false, ◌==◌, ◌&&◌, ◌||◌, Option, Some, None, List, [], ◌∷◌, length, slice_get}
use Rattle.std.specs.Prelude.{position}
use Rattle.dam_book.specs.Name.{same_text}
use Rattle.dam_book.specs.Order.{is_parent}
use Rattle.dam_blocks.specs.declared.problem.Block.{Block}
use Rattle.dam_blocks.specs.Problem.{IsParent}

-- whether p is the block that b names as its parent, a name of the same participant
abbrev pub names : Block → Block → Bool
names p b = same_text p.who b.who && is_parent p.name b.order.parent

-- the place of a block's parent, if it has one
abbrev pub parent_among : List Block → Option Block → Option ℕ
parent_among blocks None = None
parent_among blocks (Some b) = position (λ p. names p b) blocks

-- the place of the parent of the block at a place, if it has one
abbrev pub parent_place : List Block → ℕ → Option ℕ
parent_place blocks j = parent_among blocks (slice_get blocks j)

-- whether the chain of parents that begins at a block's parent leads to place i, in n steps at most
abbrev pub leads_to : ℕ → List Block → ℕ → Option ℕ → Bool
leads_to n blocks i None = false
leads_to zero blocks i (Some p) = false
leads_to (suc n) blocks i (Some p) = (p == i) || leads_to n blocks i (parent_place blocks p)

-- whether the block at place j descends from the one at place i: its parent is that one or descends
-- from it; without a cycle no chain is longer than the list
abbrev pub descends : List Block → ℕ → ℕ → Bool
descends blocks i j = leads_to (length blocks) blocks i (parent_place blocks j)

-- of the selection from place j on, the accepted places that pass the test
abbrev pub accepted_where : (ℕ → Bool) → ℕ → List Bool → List Bool
accepted_where test j [] = []
accepted_where test j (a ∷ selection) = (a && test j) ∷ accepted_where test (suc j) selection

-- the accepted blocks that descend from the one at place i
abbrev pub accepted_descendants : List Block → List Bool → ℕ → List Bool
accepted_descendants blocks selection i = accepted_where (descends blocks i) 0 selection

-- the block at place j is a child of the one at place i: in a problem exactly if `parent_place` gives i for j (the law
-- `descent_follows_parents` of the crate)
pub record IsChildAt (blocks : List Block) (i j : ℕ) : Type 0 where
  pub parent : Block
  pub child : Block
  pub parent_stands : slice_get blocks i ≡ Some parent
  pub child_stands : slice_get blocks j ≡ Some child
  pub is_parent : IsParent parent child

-- the block at a place descends from the one at place i: it is its child, or the child of a block that descends from it. In
-- a problem this holds exactly if `descends` says so (the same law)
pub data Descends (blocks : List Block) (i : ℕ) : ℕ → Type 0 where
  Child : (j : ℕ) → IsChildAt blocks i j → Descends blocks i j
  OfChild : (k j : ℕ) → Descends blocks i k → IsChildAt blocks k j → Descends blocks i j
