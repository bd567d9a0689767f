-- The steps of a period as one stack of supply: the sells, and the buys, whose units are supply if they aren't served.
-- Prices are heights: the cents from the least price up.
use Rattle.std.specs.Prelude.{◌≡◌, ℕ, ◌+◌, ℤ, ◌-ℤ◌, nat_abs, List, [], ◌∷◌}
use Rattle.std.specs.List.Sorted.{IsNonDecreasingBy}
use Rattle.dam_book.specs.Limits.{lowest_price}
use Rattle.dam_hour.specs.Execution.{IsHour}
use Rattle.dam_hour.specs.declared.step.Step.{Step}

-- the cents from the least price up to a price
abbrev pub height_of : ℤ → ℕ
height_of p = nat_abs (p -ℤ lowest_price)

-- a number of each step, added up
abbrev pub total_of : (Step → ℕ) → List Step → ℕ
total_of f [] = 0
total_of f (step ∷ steps) = f step + total_of f steps

-- the same steps in any order: for every number that steps may have, the totals are equal. That is no weaker than a
-- permutation, since the number may be 1 for one step and 0 for all others
abbrev pub AreAlike : List Step → List Step → Type 0
AreAlike steps ts = (f : Step → ℕ) → total_of f ts ≡ total_of f steps

-- the steps of an hour by rising limit
pub record IsSupplyOf (steps rising : List Step) : Type 0 where
  pub is_hour : IsHour steps
  pub same : AreAlike steps rising
  pub rises : IsNonDecreasingBy (λ step. height_of step.price) rising
