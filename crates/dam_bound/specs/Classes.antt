-- The classes of a day's periods: two periods are in one class if every block has the same volume in both. So the net
-- volume of a selection is the same in all periods of a class, and their welfare is a function of one number.
use Rattle.std.specs.Prelude.{◌≡◌, ℕ, zero, suc, ◌<◌, ◌==◌, Bool, true, ◌&&◌, if◌then◌else◌, List, [], ◌∷◌, length, slice_index_or}
use Rattle.dam_book.specs.Limits.{last_period}
use Rattle.dam_hour.specs.declared.step.Step.{Step}
use Rattle.dam_blocks.specs.declared.problem.Block.{Block}
use Rattle.dam_blocks.specs.Problem.{ProblemState}
use Rattle.dam_blocks.specs.Selection.{volume_in}

-- whether every block has the same volume in the periods at both places
abbrev pub are_alike : List Block → ℕ → ℕ → Bool
are_alike [] i j = true
are_alike (b ∷ bs) i j = (volume_in b.order.volumes (suc i) == volume_in b.order.volumes (suc j)) && are_alike bs i j

-- the first of `left` places from j on whose period is like the one at i; the place after them if there is
-- none
abbrev pub first_from : List Block → ℕ → ℕ → ℕ → ℕ
first_from blocks i j zero = j
first_from blocks i j (suc left) = if are_alike blocks j i then j else first_from blocks i (suc j) left

-- the place of the first period of the class of the one at i
unfoldable pub first_of_class : List Block → ℕ → ℕ
first_of_class blocks i = first_from blocks i 0 i

-- of the periods from the place i on, those whose class begins at c
abbrev pub members : List Block → ℕ → ℕ → List (List Step) → List (List Step)
members blocks c i [] = []
members blocks c i (steps ∷ hours) =
    if first_of_class blocks i == c then steps ∷ members blocks c (suc i) hours else members blocks c (suc i) hours

-- the first period of each class
pub record AreFirsts (problem : ProblemState) (firsts : List ℕ) : Type 0 where
  pub long : length firsts ≡ last_period
  pub each : (i d : ℕ) → i < length problem.hours → slice_index_or firsts i d ≡ first_of_class problem.blocks i
