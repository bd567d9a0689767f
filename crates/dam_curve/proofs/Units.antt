-- The units of a stack of supply under a height and up to it.
use Rattle.std.proofs.Common.{◌≡◌, ℕ, zero, suc, ◌+◌, ◌-◌, ◌*◌, ◌≤◌, ℤ, pos, ◌+ℤ◌, List}
use Rattle.dam_book.specs.Price.{IsPrice}
use Rattle.dam_book.specs.declared.order.Side.TheVariants.{Buy}
use Rattle.dam_hour.specs.declared.step.Step.{Step}
use Rattle.dam_hour.specs.Execution.{offered_volume}
use Rattle.dam_curve.specs.Supply.{height_of, total_of}

-- the volume, if the number is not 0
abbrev pub if_any : ℕ → ℕ → ℕ
if_any zero q = 0
if_any (suc n) q = q

-- the whole volume of the steps, of both sides
abbrev pub all_units : List Step → ℕ
all_units steps = total_of (λ step. step.qty) steps

-- the volume of the steps whose limit is under the height
abbrev pub units_under : ℕ → List Step → ℕ
units_under h steps = total_of (λ step. if_any (h - height_of step.price) step.qty) steps

-- the volume of the steps whose limit is not above the height
abbrev pub units_up_to : ℕ → List Step → ℕ
units_up_to h steps = total_of (λ step. if_any (suc h - height_of step.price) step.qty) steps

-- the gain at the height of the steps under it, as supply
abbrev pub gain_under : ℕ → List Step → ℕ
gain_under h steps = total_of (λ step. (h - height_of step.price) * step.qty) steps

-- all buys less the net volume are taken of the supply, if there is as much
pub record AreUnitsAt (steps : List Step) (net : ℤ) (units : ℕ) : Type 0 where
  pub balance : pos units +ℤ net ≡ pos (offered_volume Buy steps)
  pub within : units ≤ all_units steps

-- this number of units from the bottom reaches up to the height: all that stands under it, and nothing above it
pub record Reaches (steps : List Step) (units height : ℕ) : Type 0 where
  pub under : units_under height steps ≤ units
  pub up_to : units ≤ units_up_to height steps

-- the heights of this number of units from the bottom add up to the cost
pub record IsCostOf (steps : List Step) (units cost : ℕ) : Type 0 where
  pub price : ℤ
  pub in_range : IsPrice price
  pub reaches : Reaches steps units (height_of price)
  pub cost_is : cost + gain_under (height_of price) steps ≡ height_of price * units
