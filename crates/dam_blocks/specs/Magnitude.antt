-- How large values, surpluses and welfares can be, in cents per MWh times tenths of a MW: sums and
-- products of the auction's limits.
use Rattle.std.specs.Prelude.{ℕ, ◌+◌, ◌*◌, ℤ, pos, neg_ℤ, ◌≤ℤ◌}
use Rattle.dam_book.specs.Limits.{greatest_volume, last_period, most_hourly, most_blocks}
use Rattle.dam_hour.specs.Limits.{price_span, greatest_value}

-- the size is at most this number, above 0 or below
pub record IsWithin (greatest : ℕ) (z : ℤ) : Type 0 where
  pub at_least : neg_ℤ (pos greatest) ≤ℤ z
  pub at_most : z ≤ℤ pos greatest

-- the value of all hourly orders of a book
abbrev pub greatest_hourly_value : ℕ
greatest_hourly_value = most_hourly * greatest_value

-- the value of all blocks of a book in one period
abbrev pub greatest_block_value_in_period : ℕ
greatest_block_value_in_period = most_blocks * greatest_value

-- the value of all blocks of a book over the longest day
abbrev pub greatest_block_value : ℕ
greatest_block_value = last_period * greatest_block_value_in_period

-- the greatest surplus of a block in one period: the greatest difference of two prices, times a volume
abbrev pub greatest_gain : ℕ
greatest_gain = price_span * greatest_volume

-- the greatest surplus of a block over a day
abbrev pub greatest_surplus : ℕ
greatest_surplus = last_period * greatest_gain

-- the welfare of a selection: every hourly order once, and every block in every period of the longest
-- day
abbrev pub greatest_selection_welfare : ℕ
greatest_selection_welfare = greatest_hourly_value + greatest_block_value
