-- The published results, added up over the orders of the book.
use Rattle.std.specs.Prelude.{◌≡◌, ℕ, ◌+◌, ◌-◌, ℤ, pos, ◌+ℤ◌, ◌==◌, if◌then◌else◌, Some, List, ◌∷◌, slice_get, slice_set, slice_index_or, remove}
use Rattle.dam_book.specs.Terms.{BlockTerms}
use Rattle.dam_book.specs.Book.{Key, Row, BookState}
use Rattle.dam_book.specs.declared.order.Side.{Side}
use Rattle.dam_book.specs.declared.order.Order.{Order}
use Rattle.dam_book.specs.declared.order.Order.TheVariants.{Hour as HourOrder, Block as BlockOrder}
use Rattle.dam_hour.specs.Execution.{volume_on}
use Rattle.dam_hour.specs.Market.{order_surplus}
use Rattle.dam_blocks.specs.Selection.{volume_in}
use Rattle.dam_results.specs.declared.published.PeriodResult.{PeriodResult}
use Rattle.dam_results.specs.declared.published.RowResult.{RowResult}
use Rattle.dam_results.specs.declared.published.RowResult.TheVariants.{Hour as HourResult, Block as BlockResult}
use Rattle.dam_results.specs.Published.{prices_of}

-- the published price of a period, counted from 1, or 0 if there is none
abbrev pub price_in : List PeriodResult → ℕ → ℤ
price_in periods t = slice_index_or (prices_of periods) (t - 1) (pos 0)

-- the gain of an order by its published result: of an hourly order, by its executed volume at the price of its period; of a
-- block, its surplus if it is accepted
abbrev pub published_gain : List PeriodResult → Order → RowResult → ℤ
published_gain periods (HourOrder o) (HourResult who name executed) =
    order_surplus (price_in periods o.period) (record { side = o.side; price = o.price; qty = o.qty }) executed
published_gain periods (BlockOrder o) (BlockResult who name accepted surplus) =
    if accepted then surplus else pos 0
published_gain periods _ _ = pos 0

-- the sum over the orders of the book
abbrev pub published_gains : List PeriodResult → List Row → List RowResult → ℤ
published_gains periods (row ∷ rows) (r ∷ results) =
    published_gain periods row.1 r +ℤ published_gains periods rows results
published_gains periods _ _ = pos 0

-- the volume that an order trades on that side in period t by its published result: an hourly order its executed volume, a
-- block its own if it is accepted
abbrev pub published_trade : Side → ℕ → Order → RowResult → ℕ
published_trade side t (HourOrder o) (HourResult who name executed) =
    if o.period == t then volume_on side o.side executed else 0
published_trade side t (BlockOrder o) (BlockResult who name accepted surplus) =
    if accepted then volume_on side o.side (volume_in o.volumes t) else 0
published_trade side t _ _ = 0

-- the sum over the orders of the book
abbrev pub published_trades : Side → ℕ → List Row → List RowResult → ℕ
published_trades side t (row ∷ rows) (r ∷ results) =
    published_trade side t row.1 r + published_trades side t rows results
published_trades side t _ _ = 0

-- the other book is this one without the order at a place
pub record IsWithoutRow (book other : BookState) (place : ℕ) : Type 0 where
  pub periods : other.periods ≡ book.periods
  pub closed : other.closed ≡ book.closed
  pub rows : other.rows ≡ remove book.rows place

-- the other book is this one with another limit for the block at a place
pub record IsWithOtherLimit (book other : BookState) (place : ℕ) (order : BlockTerms) (limit : ℤ)
    : Type 0 where
  pub key : Key
  pub stands : slice_get book.rows place ≡ Some (key, BlockOrder order)
  pub rows : other.rows ≡ slice_set book.rows place (key, BlockOrder (record order { price = limit }))
  pub periods : other.periods ≡ book.periods
  pub closed : other.closed ≡ book.closed
