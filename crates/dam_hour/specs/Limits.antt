-- How large the numbers of one period can be, as sums and products of the auction's limits.
use Rattle.std.specs.Prelude.{ℕ, ◌+◌, ◌*◌, max, nat_abs}
use Rattle.dam_book.specs.Limits.{lowest_price, highest_price, greatest_volume, most_hourly, most_blocks}

-- steps of one period: every hourly order of a book, and every block, which may stand as a step too
abbrev pub most_steps : ℕ
most_steps = most_hourly + most_blocks

-- the net volume that the blocks of a book can make in one period, of either sign, in tenths of a MW
abbrev pub greatest_net : ℕ
greatest_net = most_blocks * greatest_volume

-- the size of a limit or clearing price, of either sign, in cents per MWh: the greater distance of the two limits from 0
abbrev pub greatest_price : ℕ
greatest_price = max (nat_abs lowest_price) (nat_abs highest_price)

-- the cents per MWh between the lowest price and the highest
abbrev pub price_span : ℕ
price_span = nat_abs lowest_price + nat_abs highest_price

-- a limit times a volume, of either sign, in cents per MWh times tenths of a MW
abbrev pub greatest_value : ℕ
greatest_value = greatest_price * greatest_volume
