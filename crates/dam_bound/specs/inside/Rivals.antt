-- Two blocks and the prices of the classes.
use Rattle.std.specs.Prelude.{ℕ, ℤ, pos, ◌+ℤ◌, ◌*ℤ◌, ◌≤ℤ◌, Bool, List}
use Rattle.dam_book.specs.Limits.{greatest_volume}
use Rattle.dam_blocks.specs.Problem.{ProblemState}
use Rattle.dam_blocks.specs.Eligible.{ArePrices, surplus_at}
use Rattle.dam_bound.specs.declared.rivals.Weights.{Weights}

-- both weights are above 0, and no greater than a volume
pub record AreVolumes (weights : Weights) : Type 0 where
  pub sell_at_least : pos 1 ≤ℤ weights.sell
  pub sell_at_most : weights.sell ≤ℤ pos greatest_volume
  pub buy_at_least : pos 1 ≤ℤ weights.buy
  pub buy_at_most : weights.buy ≤ℤ pos greatest_volume

-- two numbers, each times its weight, added up
abbrev pub weigh : Weights → ℤ → ℤ → ℤ
weigh weights x y = weights.sell *ℤ x +ℤ weights.buy *ℤ y

-- at no prices of a selection is the surplus of the two blocks, each times its weight, greater
abbrev pub IsMost : ProblemState → ℕ → ℕ → Weights → ℤ → Type 0
IsMost problem sell buy weights most = (selection : List Bool) (prices : List ℤ) → ArePrices problem.blocks selection 1 problem.hours prices
    → weigh weights (surplus_at problem.blocks prices sell) (surplus_at problem.blocks prices buy) ≤ℤ most
