-- The clearing of a period.
use Rattle.std.specs.Prelude.{◌≡◌, ℤ, List, length}
use Rattle.dam_hour.specs.declared.hour.Cleared.{Cleared}
use Rattle.dam_hour.specs.declared.step.Step.{Step}
use Rattle.dam_hour.specs.Price.{AreEnds, price_between}
use Rattle.dam_hour.specs.Best.{AreBestTotals, AreSmall}

-- the ends of the supporting prices, the price between them, and the totals of the best execution
pub record IsClearedAt (steps : List Step) (net : ℤ) (cleared : Cleared) : Type 0 where
  pub ends : AreEnds steps net cleared.low cleared.high
  pub price_is : cleared.price ≡ price_between cleared.low cleared.high
  pub totals : AreBestTotals steps net cleared.bought cleared.sold cleared.welfare
  pub small : AreSmall (length steps) cleared.bought cleared.sold cleared.welfare
