-- The welfare of an execution, the best execution, and the greatest welfare at a net volume.
use Rattle.std.specs.Prelude.{◌≡◌, ℕ, ◌*◌, ◌≤◌, ℤ, pos, neg_ℤ, ◌+ℤ◌, ◌-ℤ◌, ◌*ℤ◌, ◌≤ℤ◌, zero, suc, Bool, Option, Some, None, List, [], ◌∷◌}
use Rattle.std.specs.Prelude.{◌++◌, map, filter, fold}
use Rattle.std.specs.Int.{int_max}
use Rattle.std.specs.List.{flat_map}
use Rattle.std.specs.Ordering.{int_eq}
use Rattle.dam_book.specs.Limits.{greatest_volume}
use Rattle.dam_book.specs.declared.order.Side.{Side}
use Rattle.dam_book.specs.declared.order.Side.TheVariants.{Buy, Sell}
use Rattle.dam_hour.specs.declared.step.Step.{Step}
use Rattle.dam_hour.specs.Limits.{greatest_value}
use Rattle.dam_hour.specs.Execution.{IsExecution, executed_volume, Balances}

-- a buy counts as it is, and a sell with the other sign
abbrev pub signed : Side → ℤ → ℤ
signed Buy z = z
signed Sell z = neg_ℤ z

-- limit times executed volume over buys, less the same over sells, in cents per MWh times tenths of a MW
abbrev pub welfare_of : List Step → List ℕ → ℤ
welfare_of (step ∷ steps) (x ∷ xs) = signed step.side (step.price *ℤ pos x) +ℤ welfare_of steps xs
welfare_of _ _ = pos 0

-- the surplus of an execution at a price: limit less price, times executed volume, over buys, less the same over sells
abbrev pub execution_surplus : ℤ → List Step → List ℕ → ℤ
execution_surplus price (step ∷ steps) (x ∷ xs) = signed step.side ((step.price -ℤ price) *ℤ pos x) +ℤ execution_surplus price steps xs
execution_surplus price _ _ = pos 0

-- at the first place where they differ the second has the greater volume, or they differ nowhere
abbrev pub AtMostInOrder : List ℕ → List ℕ → Type 0
AtMostInOrder (x ∷ xs) (y ∷ ys) = (x ≤ y) × (x ≡ y → AtMostInOrder xs ys)
AtMostInOrder _ _ = Unit {0}

-- ys is no better than xs: by welfare, then by bought volume, then by the volumes in book order
pub record IsNoBetter (steps : List Step) (ys xs : List ℕ) : Type 0 where
  pub by_welfare : welfare_of steps ys ≤ℤ welfare_of steps xs
  pub by_bought : welfare_of steps ys ≡ welfare_of steps xs → executed_volume Buy steps ys ≤ executed_volume Buy steps xs
  pub by_order : welfare_of steps ys ≡ welfare_of steps xs → executed_volume Buy steps ys ≡ executed_volume Buy steps xs
      → AtMostInOrder ys xs

-- a balanced execution: no other is better
pub record IsBest (steps : List Step) (net : ℤ) (xs : List ℕ) : Type 0 where
  pub execution : IsExecution steps xs
  pub balance : Balances steps net xs
  pub greatest : (ys : List ℕ) → IsExecution steps ys → Balances steps net ys → IsNoBetter steps ys xs

-- the bought and the sold volume and the welfare of the best execution
pub record AreBestTotals (steps : List Step) (net : ℤ) (bought sold : ℕ) (welfare : ℤ) : Type 0 where
  pub volumes : List ℕ
  pub best : IsBest steps net volumes
  pub bought_is : bought ≡ executed_volume Buy steps volumes
  pub sold_is : sold ≡ executed_volume Sell steps volumes
  pub welfare_is : welfare ≡ welfare_of steps volumes

-- bounds on the volumes and the welfare of that number of steps
pub record AreSmall (steps bought sold : ℕ) (welfare : ℤ) : Type 0 where
  pub bought_at_most : bought ≤ steps * greatest_volume
  pub sold_at_most : sold ≤ steps * greatest_volume
  pub welfare_at_least : neg_ℤ (pos (steps * greatest_value)) ≤ℤ welfare
  pub welfare_at_most : welfare ≤ℤ pos (steps * greatest_value)

-- the numbers from 0 to n
abbrev pub up_to : ℕ → List ℕ
up_to zero = 0 ∷ []
up_to (suc n) = up_to n ++ suc n ∷ []

-- every execution of the steps
abbrev pub executions : List Step → List (List ℕ)
executions [] = [] ∷ []
executions (step ∷ steps) = flat_map (λ x. map (λ xs. x ∷ xs) (executions steps)) (up_to step.qty)

-- whether an execution balances
abbrev pub does_balance : List Step → ℤ → List ℕ → Bool
does_balance steps net xs = int_eq (pos (executed_volume Sell steps xs) +ℤ net) (pos (executed_volume Buy steps xs))

-- the greatest number of a list, or None if there is none
abbrev pub greatest_of : List ℤ → Option ℤ
greatest_of [] = None
greatest_of (z ∷ zs) = Some (fold int_max z zs)

-- the greatest welfare of the executions that balance with the net volume, or None if none does
unfoldable pub greatest_welfare : List Step → ℤ → Option ℤ
greatest_welfare steps net = greatest_of (map (welfare_of steps) (filter (does_balance steps net) (executions steps)))
