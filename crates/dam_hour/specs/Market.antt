-- The result of one hourly order, and its gain.
use Rattle.std.specs.Prelude.{◌≡◌, ℕ, ℤ, pos, ◌-ℤ◌, ◌*ℤ◌, Some, List, slice_get}
use Rattle.dam_hour.specs.declared.step.Step.{Step}
use Rattle.dam_hour.specs.Price.{AreEnds, price_between}
use Rattle.dam_hour.specs.Best.{signed, IsBest}

-- the surplus of an order at a price if this much of it is executed: limit less price, times volume, if it buys, and
-- the same with the other sign if it sells
abbrev pub order_surplus : ℤ → Step → ℕ → ℤ
order_surplus price step volume = signed step.side ((step.price -ℤ price) *ℤ pos volume)

-- at this price of the period, the best execution gives the order at the place this volume
pub record IsExecutedAt (steps : List Step) (net price : ℤ) (place : ℕ) (step : Step) (volume : ℕ)
    : Type 0 where
  pub low : ℤ
  pub high : ℤ
  pub ends : AreEnds steps net low high
  pub price_is : price ≡ price_between low high
  pub volumes : List ℕ
  pub best : IsBest steps net volumes
  pub stands : slice_get steps place ≡ Some step
  pub volume_is : slice_get volumes place ≡ Some volume
