-- The rows before the block and after it stay as they are; an exchange of two rows exchanges their parts of the
-- problem, or nothing.
use Rattle.dam_blocks.proofs.ChangedBooks.{limit_changed, block_gone}
use Rattle.dam_blocks.proofs.ReorderedBooks.{hours_reordered, blocks_reordered}
use Rattle.dam_blocks.proofs.market.a_changed_book_is_a_changed_problem.Goals as goal

pub returns : goal.returns
returns c = record { limit = limit_changed; block = block_gone; hourly_orders = hours_reordered; blocks = blocks_reordered }
