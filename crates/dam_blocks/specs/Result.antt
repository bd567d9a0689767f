-- The order of selections, and the result of a problem.
use Rattle.std.specs.Prelude.{◌≡◌, ℤ, ◌≤ℤ◌, Bool, true, false, List, ◌∷◌}
use Rattle.dam_blocks.specs.Problem.{ProblemState}
use Rattle.dam_blocks.specs.Eligible.{IsEligible}

-- whether the first accepts at the first place where they differ; false if they differ nowhere
abbrev pub accepts_first : List Bool → List Bool → Bool
accepts_first (true ∷ xs) (true ∷ ys) = accepts_first xs ys
accepts_first (false ∷ xs) (false ∷ ys) = accepts_first xs ys
accepts_first (true ∷ xs) (false ∷ ys) = true
accepts_first (false ∷ xs) (true ∷ ys) = false
accepts_first _ _ = false

-- the greater welfare; or the same welfare, and it accepts where they first differ
pub record RanksAbove (v : ℤ) (xs : List Bool) (w : ℤ) (ys : List Bool) : Type 0 where
  pub by_welfare : w ≤ℤ v
  pub by_order : v ≡ w → accepts_first xs ys ≡ true

-- the opposite of the one above: the lesser welfare; or the same welfare, and it doesn't accept where
-- they first differ, or they differ nowhere
pub record RanksAtOrBelow (v : ℤ) (xs : List Bool) (w : ℤ) (ys : List Bool) : Type 0 where
  pub by_welfare : v ≤ℤ w
  pub by_order : v ≡ w → accepts_first xs ys ≡ false

-- the eligible selection that no eligible one ranks above, and its welfare; so each other eligible one has
-- less welfare, or the same, and then this one accepts where they first differ (a law of the crate)
pub record IsResult (problem : ProblemState) (selection : List Bool) (welfare : ℤ) : Type 0 where
  pub eligible : IsEligible problem selection welfare
  pub others : (ys : List Bool) (v : ℤ) → IsEligible problem ys v
      → RanksAtOrBelow v ys welfare selection
