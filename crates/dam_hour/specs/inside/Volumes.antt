-- The sums of a scan of the steps at a price, how the steps are filled in book order, and the two tests by which the
-- ends of the supporting prices are found.
use Rattle.std.specs.Prelude.{◌≡◌, ℕ, zero, suc, min, ◌+◌, ◌-◌, ◌*◌, ◌≤◌, ◌<◌, ℤ, pos, negsuc, ◌+ℤ◌, ◌-ℤ◌, ◌≤ℤ◌, List, [], ◌∷◌}
use Rattle.dam_book.specs.Price.{IsPrice}
use Rattle.dam_book.specs.declared.order.Side.{Side}
use Rattle.dam_book.specs.declared.order.Side.TheVariants.{Buy, Sell}
use Rattle.dam_hour.specs.declared.step.Step.{Step}
use Rattle.dam_hour.specs.Execution.{volume_on}
use Rattle.dam_hour.specs.Best.{signed}

-- how much better than the price a limit is: 0 at the price, and below 0 if it is worse
abbrev pub margin_of : Side → ℤ → ℤ → ℤ
margin_of side limit price = signed side (limit -ℤ price)

-- a step's margin
abbrev pub margin_at : Step → ℤ → ℤ
margin_at step price = margin_of step.side step.price price

-- the volume, if the margin is above 0
abbrev pub if_better : ℤ → ℕ → ℕ
if_better (pos zero) q = 0
if_better (pos (suc n)) q = q
if_better (negsuc n) q = 0

-- the volume, if the margin is 0
abbrev pub if_at : ℤ → ℕ → ℕ
if_at (pos zero) q = q
if_at (pos (suc n)) q = 0
if_at (negsuc n) q = 0

-- the margin, if it is above 0
abbrev pub above_zero : ℤ → ℕ
above_zero (pos n) = n
above_zero (negsuc n) = 0

-- the part of a step in the volume of one side that is better than the price
abbrev pub better_part : Side → ℤ → Step → ℕ
better_part side price step = volume_on side step.side (if_better (margin_of step.side step.price price) step.qty)

-- the part of a step in the volume of one side whose limit is the price
abbrev pub at_part : Side → ℤ → Step → ℕ
at_part side price step = volume_on side step.side (if_at (margin_of step.side step.price price) step.qty)

-- the volume of one side that is better than the price
abbrev pub better_volume : Side → ℤ → List Step → ℕ
better_volume side price [] = 0
better_volume side price (step ∷ steps) = better_part side price step + better_volume side price steps

-- the volume of one side whose limit is the price
abbrev pub at_volume : Side → ℤ → List Step → ℕ
at_volume side price [] = 0
at_volume side price (step ∷ steps) = at_part side price step + at_volume side price steps

-- the surplus of the steps at the price if the better ones have their whole volume
abbrev pub full_surplus : ℤ → List Step → ℕ
full_surplus price [] = 0
full_surplus price (step ∷ steps) = above_zero (margin_of step.side step.price price) * step.qty + full_surplus price steps

-- a step's volume by its margin, if this much is left at the price
abbrev pub share : ℤ → ℕ → ℕ → ℕ
share (pos zero) q left = min q left
share (pos (suc n)) q left = q
share (negsuc n) q left = 0

-- the volumes of the steps in book order: one whose limit is the price leaves the later ones of its side that much less
abbrev pub volumes_in_turn : ℤ → List Step → (Side → ℕ) → List ℕ
volumes_in_turn price [] left = []
volumes_in_turn price (step ∷ steps) left =
    share (margin_of step.side step.price price) step.qty (left step.side)
    ∷ volumes_in_turn price steps (λ side. left side - volume_on side step.side (if_at (margin_of step.side step.price price) step.qty))

-- the total of the side
abbrev pub total_on : Side → ℕ → ℕ → ℕ
total_on Buy bought sold = bought
total_on Sell bought sold = sold

-- the buys that are better than the price find sells that are not worse, with the net volume
pub record IsHighEnough (steps : List Step) (net price : ℤ) : Type 0 where
  pub enough : pos (better_volume Buy price steps) ≤ℤ (pos (better_volume Sell price steps + at_volume Sell price steps) +ℤ net)

-- the sells that are better than the price, with the net volume, find buys that are not worse
pub record IsLowEnough (steps : List Step) (net price : ℤ) : Type 0 where
  pub enough : (pos (better_volume Sell price steps) +ℤ net) ≤ℤ pos (better_volume Buy price steps + at_volume Buy price steps)

-- the greatest bought volume at the price, and the sold volume that balances it
pub record AreTotals (steps : List Step) (net price : ℤ) (bought sold : ℕ) : Type 0 where
  pub balance : pos sold +ℤ net ≡ pos bought
  pub buys_at_least : better_volume Buy price steps ≤ bought
  pub buys_at_most : bought ≤ better_volume Buy price steps + at_volume Buy price steps
  pub sells_at_least : better_volume Sell price steps ≤ sold
  pub sells_at_most : sold ≤ better_volume Sell price steps + at_volume Sell price steps
  pub full : bought < better_volume Buy price steps + at_volume Buy price steps
      → sold ≡ better_volume Sell price steps + at_volume Sell price steps

-- the least price of the range that is high enough
pub record IsLeastHighEnough (steps : List Step) (net price : ℤ) : Type 0 where
  pub in_range : IsPrice price
  pub enough : IsHighEnough steps net price
  pub least : (q : ℤ) → IsPrice q → IsHighEnough steps net q → price ≤ℤ q

-- the greatest price of the range that is low enough
pub record IsGreatestLowEnough (steps : List Step) (net price : ℤ) : Type 0 where
  pub in_range : IsPrice price
  pub enough : IsLowEnough steps net price
  pub greatest : (q : ℤ) → IsPrice q → IsLowEnough steps net q → q ≤ℤ price
