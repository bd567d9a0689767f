-- The prices that support a balanced execution, their ends, and the price of the period.
use Rattle.std.specs.Prelude.{◌≡◌, ℕ, ℤ, pos, ◌+ℤ◌, ◌≤ℤ◌, ◌<ℤ◌, int_lt, ◌&&◌, if◌then◌else◌, List, ◌∷◌}
use Rattle.std.specs.Int.{int_div_euclid}
use Rattle.std.specs.Ordering.{int_eq}
use Rattle.dam_book.specs.Price.{IsPrice}
use Rattle.dam_book.specs.Limits.{lowest_price, highest_price}
use Rattle.dam_book.specs.declared.order.Side.{Side}
use Rattle.dam_book.specs.declared.order.Side.TheVariants.{Buy, Sell}
use Rattle.dam_hour.specs.declared.step.Step.{Step}
use Rattle.dam_hour.specs.Execution.{IsExecution, Balances}

-- a buy's limit is better than a price, or another limit, that is under it, and a sell's than one that is over it
abbrev pub IsBetter : Side → ℤ → ℤ → Type 0
IsBetter Buy limit price = price <ℤ limit
IsBetter Sell limit price = limit <ℤ price

-- a buy's limit is worse than a price, or another limit, that is over it, and a sell's than one that is under it
abbrev pub IsWorse : Side → ℤ → ℤ → Type 0
IsWorse Buy limit price = limit <ℤ price
IsWorse Sell limit price = price <ℤ limit

-- a step that is better than the price has its whole volume, and one that is worse has none
abbrev pub Supports : ℤ → List Step → List ℕ → Type 0
Supports price (step ∷ steps) (x ∷ xs) =
    (IsBetter step.side step.price price → x ≡ step.qty) × (IsWorse step.side step.price price → x ≡ 0) × Supports price steps xs
Supports price _ _ = Unit {0}

-- a price, in whole cents and within the limits, that supports some balanced execution
pub record IsSupporting (steps : List Step) (net price : ℤ) : Type 0 where
  pub in_range : IsPrice price
  pub volumes : List ℕ
  pub execution : IsExecution steps volumes
  pub balance : Balances steps net volumes
  pub support : Supports price steps volumes

-- the least and the greatest supporting price
pub record AreEnds (steps : List Step) (net low high : ℤ) : Type 0 where
  pub low_supports : IsSupporting steps net low
  pub high_supports : IsSupporting steps net high
  pub least : (price : ℤ) → IsSupporting steps net price → low ≤ℤ price
  pub greatest : (price : ℤ) → IsSupporting steps net price → price ≤ℤ high

-- if just one of the two is an end of the range of prices, the other one; else the middle, a half cent rounded down,
-- also below zero, as `int_div_euclid` by 2 rounds
abbrev pub price_between : ℤ → ℤ → ℤ
price_between low high =
    if int_eq low lowest_price && int_lt high highest_price then high
    else (if int_lt lowest_price low && int_eq high highest_price then low else int_div_euclid (low +ℤ high) (pos 2))
