-- The classes of a problem with their curves, which are over the hourly orders alone.
use Rattle.std.specs.Prelude.{◌≡◌, ℕ, ◌+◌, ◌≤◌, ℤ, pos, ◌+ℤ◌, Some, Option, Bool, List, [], ◌∷◌, length, map, slice_get}
use Rattle.std.specs.Int.{int_max, int_min}
use Rattle.dam_book.specs.Terms.{BlockTerms}
use Rattle.dam_book.specs.Limits.{last_period, most_blocks}
use Rattle.dam_hour.specs.declared.step.Step.{Step}
use Rattle.dam_curve.specs.Curve.{CurvesState, IsCurveAt}
use Rattle.dam_blocks.specs.declared.problem.Block.{Block}
use Rattle.dam_blocks.specs.Problem.{ProblemState, AreBlocks}
use Rattle.dam_blocks.specs.Selection.{net_volume_of_block, value_in}
use Rattle.dam_bound.specs.Classes.{members}
use Rattle.dam_bound.specs.Sums.{over_periods, class_places, at_places}
use Rattle.dam_bound.specs.inside.Families.{AreFamilies}
use Rattle.dam_bound.specs.declared.class_curves.Class.{Class}

-- the hourly orders of each period of the class that begins at the place
abbrev pub class_orders : ProblemState → ℕ → List (List Step)
class_orders problem c = members problem.blocks c 0 problem.hours

-- the least net volume that selections make in a period
abbrev pub least_net_in : ℕ → List Block → ℤ
least_net_in t [] = pos 0
least_net_in t (b ∷ bs) = int_min (net_volume_of_block t b.order) (pos 0) +ℤ least_net_in t bs

-- the greatest net volume that they make there
abbrev pub most_net_in : ℕ → List Block → ℤ
most_net_in t [] = pos 0
most_net_in t (b ∷ bs) = int_max (net_volume_of_block t b.order) (pos 0) +ℤ most_net_in t bs

-- the value of a block in all periods of the day
abbrev pub day_value : ProblemState → BlockTerms → ℤ
day_value problem o = over_periods (λ t. value_in t o) 1 (length problem.hours)

-- the class that begins at its place: the curve of its hourly orders, and the net volume of each block
pub record IsClassIn (problem : ProblemState) (curves : CurvesState) (class : Class) : Type 0 where
  pub curve_is : IsCurveAt curves class.curve (class_orders problem class.first_place)
      (least_net_in (class.first_place + 1) problem.blocks) (most_net_in (class.first_place + 1) problem.blocks)
  pub nets_are : class.nets ≡ at_places most_blocks (net_volume_of_block (class.first_place + 1)) problem.blocks

-- the classes of the problem in the order of their first periods
pub record AreClasses (problem : ProblemState) (curves : CurvesState) (classes : List Class) : Type 0 where
  pub places_are : map (λ (class : Class). class.first_place) classes ≡ class_places problem
  pub each : (j : ℕ) (class : Class) → slice_get classes j ≡ Some class → IsClassIn problem curves class

-- the classes of the problem, the value of each block, and the families
pub record AreClassCurves (problem : ProblemState) (curves : CurvesState) (classes : List Class) (values : List ℤ)
    (families : List (Option (List Bool))) : Type 0 where
  pub few_periods : length problem.hours ≤ last_period
  pub few_blocks : length problem.blocks ≤ most_blocks
  pub blocks_are : AreBlocks (length problem.hours) problem.blocks
  pub classes_are : AreClasses problem curves classes
  pub values_are : values ≡ at_places most_blocks (day_value problem) problem.blocks
  pub families_are : AreFamilies problem.blocks families
