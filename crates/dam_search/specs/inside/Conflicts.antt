-- Which decisions on blocks rule each other out.
use Rattle.std.specs.Prelude.{◌≡◌, ℕ, nat_lt, ◌==◌, ◌&&◌, not, ℤ, Bool, true, false, Option, Some, List, slice_get}
use Rattle.dam_blocks.specs.declared.problem.Block.{Block}
use Rattle.dam_blocks.specs.Problem.{ProblemState}
use Rattle.dam_blocks.specs.Selection.{accepts, are_of_one_group}
use Rattle.dam_blocks.specs.Eligible.{IsEligible}
use Rattle.dam_search.specs.declared.conflicts.Conflicts.{Conflicts}

-- the selection accepts all of these places
abbrev pub AcceptsAll : List Bool → List Bool → Type 0
AcceptsAll places selection = (j : ℕ) → accepts places j ≡ true → accepts selection j ≡ true

-- the selection accepts none of these places
abbrev pub AcceptsNone : List Bool → List Bool → Type 0
AcceptsNone places selection = (j : ℕ) → accepts places j ≡ true → accepts selection j ≡ false

-- the set is that of the places below n that pass the test
abbrev pub IsSetOf : ℕ → (ℕ → Bool) → List Bool → Type 0
IsSetOf n test places = (at : ℕ) → accepts places at ≡ (nat_lt at n && test at)

-- whether there are two blocks, and of one exclusive group
abbrev pub are_two_of_group : Option Block → Option Block → Bool
are_two_of_group (Some a) (Some b) = are_of_one_group a b
are_two_of_group _ _ = false

-- whether another block of the exclusive group of the one at the place stands there
abbrev pub is_other_of_group : List Block → ℕ → ℕ → Bool
is_other_of_group blocks place at = not (at == place) && are_two_of_group (slice_get blocks place) (slice_get blocks at)

-- if an eligible selection accepts the place, it accepts all of these
abbrev pub Needs : ProblemState → ℕ → List Bool → Type 0
Needs problem place places = (selection : List Bool) (welfare : ℤ) → IsEligible problem selection welfare
    → accepts selection place ≡ true → AcceptsAll places selection

-- if an eligible selection accepts one of these, it accepts the place
abbrev pub IsNeededBy : ProblemState → ℕ → List Bool → Type 0
IsNeededBy problem place places = (selection : List Bool) (welfare : ℤ) → IsEligible problem selection welfare
    → (j : ℕ) → accepts places j ≡ true → accepts selection j ≡ true → accepts selection place ≡ true

-- if an eligible selection accepts the place, it accepts none of these
abbrev pub Excludes : ProblemState → ℕ → List Bool → Type 0
Excludes problem place places = (selection : List Bool) (welfare : ℤ) → IsEligible problem selection welfare
    → accepts selection place ≡ true → AcceptsNone places selection

-- what each place needs, is needed by and excludes
pub record AreConflicts (problem : ProblemState) (conflicts : Conflicts) : Type 0 where
  pub needs : (place : ℕ) (places : List Bool) → slice_get conflicts.needs place ≡ Some places
      → Needs problem place places
  pub needed_by : (place : ℕ) (places : List Bool) → slice_get conflicts.needed_by place ≡ Some places
      → IsNeededBy problem place places
  pub excludes : (place : ℕ) (places : List Bool) → slice_get conflicts.excludes place ≡ Some places
      → Excludes problem place places
