-- The joint welfare and the joint price of periods at a net volume.
use Rattle.std.specs.Prelude.{◌*◌, pos, neg_ℤ, ◌≤ℤ◌}
use Rattle.dam_book.specs.Limits.{last_period}
use Rattle.dam_hour.specs.Limits.{greatest_price}
use Rattle.dam_curve.specs.Curve.{greatest_joint_welfare}
use Rattle.dam_curve.specs.declared.point.Point.{Point}

-- the sizes of a point over the periods of a day
pub record IsSmallPoint (point : Point) : Type 0 where
  pub welfare_at_least : neg_ℤ (pos greatest_joint_welfare) ≤ℤ point.welfare
  pub welfare_at_most : point.welfare ≤ℤ pos greatest_joint_welfare
  pub price_at_least : neg_ℤ (pos (last_period * greatest_price)) ≤ℤ point.price
  pub price_at_most : point.price ≤ℤ pos (last_period * greatest_price)
