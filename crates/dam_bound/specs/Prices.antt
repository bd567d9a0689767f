-- Prices, and the bound that they give.
use Rattle.std.specs.Prelude.{◌≡◌, ℕ, ◌+◌, ◌*◌, ◌<◌, ◌≤◌, ℤ, pos, ◌+ℤ◌, ◌*ℤ◌, ◌≤ℤ◌, Bool, true, false, Some, List, [], ◌∷◌, length, slice_index_or}
use Rattle.std.specs.Int.{int_max}
use Rattle.dam_book.specs.Terms.{BlockTerms}
use Rattle.dam_book.specs.Limits.{last_period, most_blocks}
use Rattle.dam_hour.specs.Limits.{greatest_value}
use Rattle.dam_curve.specs.Curve.{greatest_segment_surplus}
use Rattle.dam_curve.specs.Line.{IsAbove, IsSmallLine}
use Rattle.dam_curve.specs.declared.line.Line.{Line}
use Rattle.dam_blocks.specs.Problem.{ProblemState}
use Rattle.dam_blocks.specs.Magnitude.{IsWithin}
use Rattle.dam_blocks.specs.Selection.{net_volume_of_block}
use Rattle.dam_blocks.specs.Eligible.{selection_welfare}
use Rattle.dam_bound.specs.Classes.{first_of_class}
use Rattle.dam_bound.specs.ClassCurves.{class_orders, least_net_in, most_net_in, day_value}
use Rattle.dam_bound.specs.Sums.{class_places, over_places, at_places}
use Rattle.dam_bound.specs.declared.pricing.Pricing.{Pricing}

-- the gains of the accepted places, added up
abbrev pub over_gains : List ℤ → List Bool → ℤ
over_gains (gain ∷ gains) (true ∷ selection) = gain +ℤ over_gains gains selection
over_gains (gain ∷ gains) (false ∷ selection) = over_gains gains selection
over_gains _ _ = pos 0

-- the gains above 0 at these places, added up
abbrev pub over_open : List ℤ → List ℕ → ℤ
over_open gains [] = pos 0
over_open gains (place ∷ places) = int_max (slice_index_or gains place (pos 0)) (pos 0) +ℤ over_open gains places

-- the greatest bound of the selections that accept the accepted places, any of the open places, and no others
abbrev pub bound_of : Pricing → List Bool → List ℕ → ℤ
bound_of pricing accepted undecided = (pricing.base +ℤ over_gains pricing.gains accepted) +ℤ over_open pricing.gains undecided

-- the line of the class that begins at the place
abbrev pub line_in : List Line → ℕ → Line
line_in lines c = slice_index_or lines c (record { price = pos 0; surplus = pos 0 })

-- at no net volume that a selection makes is the welfare of the class above the line
pub record IsClassLine (problem : ProblemState) (c : ℕ) (line : Line) : Type 0 where
  pub above : IsAbove (class_orders problem c) (least_net_in (c + 1) problem.blocks) (most_net_in (c + 1) problem.blocks) line
  pub small : IsSmallLine last_period line

-- the surplus of a block at the prices of the lines: its value, and in each class the price times its net volume
abbrev pub priced_gain : ProblemState → List Line → BlockTerms → ℤ
priced_gain problem lines o =
    day_value problem o +ℤ over_places (λ c. (line_in lines c).price *ℤ net_volume_of_block (c + 1) o) (class_places problem)

-- the bound is by lines over the classes: the base is their surpluses, and the gains are by their prices
pub record IsByLines (problem : ProblemState) (pricing : Pricing) : Type 0 where
  pub few : length problem.blocks ≤ most_blocks
  pub long : length pricing.lines ≡ last_period
  pub lines_are : (c : ℕ) → c < length problem.hours → first_of_class problem.blocks c ≡ c → IsClassLine problem c (line_in pricing.lines c)
  pub base_is : pricing.base ≡ over_places (λ c. (line_in pricing.lines c).surplus) (class_places problem)
  pub gains_are : pricing.gains ≡ at_places most_blocks (priced_gain problem pricing.lines) problem.blocks

-- the size of a block's gain
abbrev pub greatest_priced_gain : ℕ
greatest_priced_gain = (last_period + 1) * (last_period * greatest_value)

-- the size of the surplus of all hourly orders
abbrev pub greatest_base : ℕ
greatest_base = last_period * (last_period * greatest_segment_surplus)

-- the gains and the base bound the welfare of each selection
pub record IsPricing (problem : ProblemState) (pricing : Pricing) : Type 0 where
  pub by_lines : IsByLines problem pricing
  pub many : length pricing.gains ≡ most_blocks
  pub small_gains : (place : ℕ) (d : ℤ) → place < most_blocks → IsWithin greatest_priced_gain (slice_index_or pricing.gains place d)
  pub small_base : IsWithin greatest_base pricing.base
  pub above : (selection : List Bool) (w : ℤ) → selection_welfare problem selection ≡ Some w
      → w ≤ℤ (pricing.base +ℤ over_gains pricing.gains selection)
