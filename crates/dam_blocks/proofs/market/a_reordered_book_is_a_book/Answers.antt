-- By exchanges of two neighbours.
use Rattle.dam_blocks.proofs.OtherOrder.{reordered_book}
use Rattle.dam_blocks.proofs.market.a_reordered_book_is_a_book.Goals as goal

pub returns : goal.returns
returns c = record { book = reordered_book }
