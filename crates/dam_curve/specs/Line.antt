-- Lines over the greatest welfare of periods.
use Rattle.std.specs.Prelude.{◌≡◌, ℕ, ◌*◌, ℤ, pos, neg_ℤ, ◌+ℤ◌, ◌*ℤ◌, ◌≤ℤ◌, Some, List}
use Rattle.dam_hour.specs.Limits.{greatest_price}
use Rattle.dam_hour.specs.declared.step.Step.{Step}
use Rattle.dam_curve.specs.declared.line.Line.{Line}
use Rattle.dam_curve.specs.Curve.{joint_welfare, greatest_segment_surplus}
pub use Rattle.dam_curve.specs.JointPrice.{IsJointPrice}

-- the value of a line at a net volume
abbrev pub line_value : Line → ℤ → ℤ
line_value line net = line.surplus +ℤ line.price *ℤ net

-- at no net volume from the least to the most is the joint welfare of the periods above the line
abbrev pub IsAbove : List (List Step) → ℤ → ℤ → Line → Type 0
IsAbove periods least most line =
    (net w : ℤ) → least ≤ℤ net → net ≤ℤ most → joint_welfare periods net ≡ Some w → w ≤ℤ line_value line net

-- the sizes of a line over this number of periods
pub record IsSmallLine (count : ℕ) (line : Line) : Type 0 where
  pub price_at_least : neg_ℤ (pos (count * greatest_price)) ≤ℤ line.price
  pub price_at_most : line.price ≤ℤ pos (count * greatest_price)
  pub surplus_at_least : neg_ℤ (pos (count * greatest_segment_surplus)) ≤ℤ line.surplus
  pub surplus_at_most : line.surplus ≤ℤ pos (count * greatest_segment_surplus)
