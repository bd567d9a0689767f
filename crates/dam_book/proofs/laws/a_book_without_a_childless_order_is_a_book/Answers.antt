-- No two rows have one key, so that the row at the place is the one that its key finds.
use Rattle.dam_book.proofs.RowLess.{kept_without}
use Rattle.dam_book.proofs.laws.a_book_without_a_childless_order_is_a_book.Goals as goal

pub returns : goal.returns
returns c = record { book = kept_without }
