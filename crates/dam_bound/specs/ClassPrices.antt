-- The prices of the classes at the net volumes of a selection.
use Rattle.std.specs.Prelude.{◌≡◌, ℕ, ◌+◌, ◌*◌, ℤ, pos, Some, Bool, List, length, slice_get, slice_index_or}
use Rattle.dam_book.specs.Limits.{last_period}
use Rattle.dam_hour.specs.Limits.{greatest_price}
use Rattle.dam_curve.specs.JointPrice.{IsJointPrice}
use Rattle.dam_blocks.specs.Problem.{ProblemState}
use Rattle.dam_blocks.specs.Magnitude.{IsWithin}
use Rattle.dam_blocks.specs.Selection.{net_volume}
use Rattle.dam_bound.specs.ClassCurves.{class_orders}
use Rattle.dam_bound.specs.Sums.{class_places}

-- the clearing prices of the class's periods at the net volume of the selection, added up
pub record IsClassPrice (problem : ProblemState) (selection : List Bool) (c : ℕ) (price : ℤ) : Type 0 where
  pub small : IsWithin (last_period * greatest_price) price
  pub joint : IsJointPrice (class_orders problem c) (net_volume problem.blocks selection (c + 1)) price

-- the price of each class, at the place of its first period
pub record AreClassPrices (problem : ProblemState) (selection : List Bool) (prices : List ℤ) : Type 0 where
  pub long : length prices ≡ last_period
  pub each : (j c : ℕ) → slice_get (class_places problem) j ≡ Some c → IsClassPrice problem selection c (slice_index_or prices c (pos 0))
