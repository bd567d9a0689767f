-- The range of the clearing prices of periods.
use Rattle.std.specs.Prelude.{ℕ, ◌*◌, ℤ, pos, neg_ℤ, ◌≤ℤ◌, List}
use Rattle.dam_hour.specs.Limits.{greatest_price}
use Rattle.dam_hour.specs.declared.step.Step.{Step}
use Rattle.dam_curve.specs.declared.price_range.PriceRange.{PriceRange}
use Rattle.dam_curve.specs.JointPrice.{IsJointPrice}

-- at each net volume from the least to the most, the clearing prices of the periods, added up, lie in the range
abbrev pub ArePricesIn : List (List Step) → ℤ → ℤ → PriceRange → Type 0
ArePricesIn periods least most range = (net price : ℤ) → least ≤ℤ net → net ≤ℤ most → IsJointPrice periods net price
    → (range.lowest ≤ℤ price) × (price ≤ℤ range.highest)

-- a range of prices of this number of periods
pub record IsSmallRange (count : ℕ) (range : PriceRange) : Type 0 where
  pub lowest_at_least : neg_ℤ (pos (count * greatest_price)) ≤ℤ range.lowest
  pub lowest_at_most : range.lowest ≤ℤ pos (count * greatest_price)
  pub highest_at_least : neg_ℤ (pos (count * greatest_price)) ≤ℤ range.highest
  pub highest_at_most : range.highest ≤ℤ pos (count * greatest_price)
