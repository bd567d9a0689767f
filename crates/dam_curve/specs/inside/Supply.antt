-- The demand of a period's buys.
use Rattle.std.specs.Prelude.{◌≡◌, ℕ, ◌*◌, ◌≤◌, List}
use Rattle.dam_book.specs.Limits.{greatest_volume}
use Rattle.dam_book.specs.declared.order.Side.TheVariants.{Buy}
use Rattle.dam_hour.specs.declared.step.Step.{Step}
use Rattle.dam_hour.specs.Limits.{most_steps, price_span}
use Rattle.dam_hour.specs.Execution.{volume_on, offered_volume}
use Rattle.dam_curve.specs.Supply.{height_of, total_of}

-- the heights of the buys, each times its volume
abbrev pub worth_of : List Step → ℕ
worth_of steps = total_of (λ step. volume_on Buy step.side (height_of step.price * step.qty)) steps

-- the volume of all buys, and their heights times volumes
pub record IsDemand (steps : List Step) (volume worth : ℕ) : Type 0 where
  pub volume_is : volume ≡ offered_volume Buy steps
  pub worth_is : worth ≡ worth_of steps
  pub volume_small : volume ≤ most_steps * greatest_volume
  pub worth_small : worth ≤ most_steps * (price_span * greatest_volume)

-- a step's part of the demand
pub record IsDemandOfStep (step : Step) (volume worth : ℕ) : Type 0 where
  pub volume_is : volume ≡ volume_on Buy step.side step.qty
  pub worth_is : worth ≡ volume_on Buy step.side (height_of step.price * step.qty)
  pub volume_small : volume ≤ greatest_volume
  pub worth_small : worth ≤ price_span * greatest_volume
