-- The executions of a period's steps, their bought and sold volumes, and their balance with a net
-- volume.
use Rattle.std.specs.Prelude.{◌≡◌, ℕ, ◌+◌, ◌≤◌, ℤ, pos, neg_ℤ, ◌+ℤ◌, ◌≤ℤ◌, List, [], ◌∷◌, length}
use Rattle.dam_book.specs.Price.{IsPrice}
use Rattle.dam_book.specs.Quantity.{IsQuantity}
use Rattle.dam_book.specs.declared.order.Side.{Side}
use Rattle.dam_book.specs.declared.order.Side.TheVariants.{Buy, Sell}
use Rattle.dam_hour.specs.Limits.{most_steps, greatest_net}
use Rattle.dam_hour.specs.declared.step.Step.{Step}

-- each step has a limit and a volume that an order may have
abbrev pub AreInRange : List Step → Type 0
AreInRange [] = Unit {0}
AreInRange (step ∷ steps) = IsPrice step.price × IsQuantity step.qty × AreInRange steps

-- the steps of an hour: few enough, and each in range
pub record IsHour (steps : List Step) : Type 0 where
  pub few : length steps ≤ most_steps
  pub in_range : AreInRange steps

-- a net volume that the blocks of a book can have in a period: the volume of the accepted sell blocks there less the
-- volume of the accepted buy blocks, in tenths of a MW
pub record IsNetVolume (net : ℤ) : Type 0 where
  pub at_least : neg_ℤ (pos greatest_net) ≤ℤ net
  pub at_most : net ≤ℤ pos greatest_net

-- a whole volume for each step, in tenths of a MW, from 0 to the step's own
abbrev pub IsExecution : List Step → List ℕ → Type 0
IsExecution [] [] = Unit {0}
IsExecution (step ∷ steps) (x ∷ xs) = (x ≤ step.qty) × IsExecution steps xs
IsExecution [] (x ∷ xs) = ⊥
IsExecution (step ∷ steps) [] = ⊥

-- the volume, if it is of the side that is asked for
abbrev pub volume_on : Side → Side → ℕ → ℕ
volume_on Buy Buy x = x
volume_on Sell Sell x = x
volume_on Buy Sell x = 0
volume_on Sell Buy x = 0

-- the executed volume of one side
abbrev pub executed_volume : Side → List Step → List ℕ → ℕ
executed_volume side (step ∷ steps) (x ∷ xs) = volume_on side step.side x + executed_volume side steps xs
executed_volume side _ _ = 0

-- the whole volume of one side
abbrev pub offered_volume : Side → List Step → ℕ
offered_volume side [] = 0
offered_volume side (step ∷ steps) = volume_on side step.side step.qty + offered_volume side steps

-- executed sells and the net volume equal executed buys
abbrev pub Balances : List Step → ℤ → List ℕ → Type 0
Balances steps net xs = pos (executed_volume Sell steps xs) +ℤ net ≡ pos (executed_volume Buy steps xs)

-- some execution balances
abbrev pub IsBalanced : List Step → ℤ → Type 0
IsBalanced steps net = (xs : List ℕ) × IsExecution steps xs × Balances steps net xs

-- no execution balances
abbrev pub IsUnbalanced : List Step → ℤ → Type 0
IsUnbalanced steps net = (xs : List ℕ) → IsExecution steps xs → ¬ (Balances steps net xs)

-- the net volume is no greater than all buys, and takes no more than all sells
pub record IsWithinOffers (steps : List Step) (net : ℤ) : Type 0 where
  pub at_least : neg_ℤ (pos (offered_volume Sell steps)) ≤ℤ net
  pub at_most : net ≤ℤ pos (offered_volume Buy steps)
