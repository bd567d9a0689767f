-- Row by row.
use Rattle.dam_blocks.proofs.FromBook.{problem_is}
use Rattle.dam_blocks.proofs.market.a_closed_book_is_a_problem.Goals as goal

pub returns : goal.returns
returns c = record { problem = problem_is }
