-- Where the best execution ends among the buys, and the limit of the sell that holds a unit: from these two the ends
-- of the supporting prices are read.
use Rattle.std.specs.Prelude.{◌≡◌, ◌⊎◌, ℕ, ◌+◌, ◌≤◌, ◌<◌, ℤ, pos, ◌+ℤ◌, ◌≤ℤ◌, ◌<ℤ◌, List}
use Rattle.dam_book.specs.Limits.{lowest_price, highest_price}
use Rattle.dam_book.specs.Price.{IsPrice}
use Rattle.dam_book.specs.declared.order.Side.{Side}
use Rattle.dam_book.specs.declared.order.Side.TheVariants.{Buy, Sell}
use Rattle.dam_hour.specs.declared.step.Step.{Step}
use Rattle.dam_hour.specs.Execution.{offered_volume}
use Rattle.dam_hour.specs.inside.Volumes.{better_volume, at_volume}

-- the volume of one side that is not worse than the price
abbrev pub not_worse_volume : Side → ℤ → List Step → ℕ
not_worse_volume side price steps = better_volume side price steps + at_volume side price steps

-- the volume before a buy is less than the net volume and the sells that are not worse than its limit,
-- together
pub record IsServed (steps : List Step) (net limit : ℤ) (before : ℕ) : Type 0 where
  pub left : pos before <ℤ (pos (not_worse_volume Sell limit steps) +ℤ net)

-- the last buy that is served and the first one that is not, and the volume of the served ones
pub record IsEdge (steps : List Step) (net last next : ℤ) (volume : ℕ) : Type 0 where
  pub last_in_range : IsPrice last
  pub next_in_range : IsPrice next
  pub whole : volume ≤ not_worse_volume Buy last steps
  pub rest : better_volume Buy next steps ≤ volume
  pub served : (last ≡ highest_price) ⊎ IsServed steps net last (better_volume Buy last steps)
  pub unserved : ((next ≡ lowest_price) × (volume ≡ offered_volume Buy steps))
      ⊎ (((pos (not_worse_volume Sell next steps) +ℤ net) ≤ℤ pos volume) × (volume < not_worse_volume Buy next steps))

-- the limit at which the sells reach the unit, counted from 1, or the end of the range on the side where no sell stands
pub record IsLimitOfSell (steps : List Step) (unit limit : ℤ) : Type 0 where
  pub in_range : IsPrice limit
  pub under : (limit ≡ lowest_price) ⊎ (pos (better_volume Sell limit steps) <ℤ unit)
  pub up_to : (limit ≡ highest_price) ⊎ (unit ≤ℤ pos (not_worse_volume Sell limit steps))
