-- Numbers of the blocks at their places.
use Rattle.std.specs.Prelude.{◌≡◌, ℕ, ◌+◌, ◌*◌, ◌<◌, ℤ, pos, ◌+ℤ◌, ◌*ℤ◌, ◌≤ℤ◌, Bool, if◌then◌else◌, List, [], ◌∷◌, length, slice_index_or}
use Rattle.std.specs.Int.{int_max, int_min}
use Rattle.dam_book.specs.Limits.{most_blocks, last_period}
use Rattle.dam_hour.specs.Limits.{greatest_net, greatest_price}
use Rattle.dam_curve.specs.Curve.{greatest_segment_surplus}
use Rattle.dam_blocks.specs.Magnitude.{IsWithin}
use Rattle.dam_blocks.specs.Selection.{accepts}

-- a number for each place, of this size at most
pub record AreNumbersWithin (greatest : ℕ) (xs : List ℤ) : Type 0 where
  pub long : length xs ≡ most_blocks
  pub each : (i : ℕ) (d : ℤ) → i < most_blocks → IsWithin greatest (slice_index_or xs i d)

-- from 0 to 2 for each place
pub record AreWeights (weights : List ℤ) : Type 0 where
  pub long : length weights ≡ most_blocks
  pub at_least : (i : ℕ) (d : ℤ) → i < most_blocks → pos 0 ≤ℤ slice_index_or weights i d
  pub at_most : (i : ℕ) (d : ℤ) → i < most_blocks → slice_index_or weights i d ≤ℤ pos 2

-- 1 for each accepted place, and 0 for the others
pub record AreCounts (selection : List Bool) (counts : List ℤ) : Type 0 where
  pub long : length counts ≡ most_blocks
  pub each : (i : ℕ) (d : ℤ) → i < most_blocks → slice_index_or counts i d ≡ (if accepts selection i then pos 1 else pos 0)

-- each number times its weight, added up
abbrev pub weighted_sum : List ℤ → List ℤ → ℤ
weighted_sum (weight ∷ weights) (x ∷ xs) = weight *ℤ x +ℤ weighted_sum weights xs
weighted_sum _ _ = pos 0

-- each gain is raised by the price times the block's net volume
pub record AreRaised (price : ℤ) (nets before after : List ℤ) : Type 0 where
  pub long : length after ≡ most_blocks
  pub each : (i : ℕ) (d : ℤ) → i < most_blocks → slice_index_or after i d ≡ slice_index_or before i d +ℤ price *ℤ slice_index_or nets i d

-- the negative numbers added up, and those above 0
abbrev pub negative_sum : List ℤ → ℤ
negative_sum [] = pos 0
negative_sum (x ∷ xs) = int_min x (pos 0) +ℤ negative_sum xs

abbrev pub positive_sum : List ℤ → ℤ
positive_sum [] = pos 0
positive_sum (x ∷ xs) = int_max x (pos 0) +ℤ positive_sum xs

-- the size of a line's value at a net volume
abbrev pub greatest_line_value : ℕ
greatest_line_value = last_period * greatest_segment_surplus + (last_period * greatest_price) * (2 * greatest_net)
