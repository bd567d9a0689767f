-- The result of the book without the block is the same selection, and each line is about the same order.
use Rattle.dam_results.proofs.Withdrawn.{WithdrawingLaws, cleared_without}
use Rattle.dam_results.proofs.market.a_rejected_block_withdrawn_changes_nothing.Goals as goal

pub returns : goal.returns
returns c =
    let laws : WithdrawingLaws = record {
      problem = c.a_closed_book_is_a_problem.ensures.problem;
      best = c.best_selection_is_result.ensures.best;
      result = c.best_selection_is_result.ensures.result;
      change = c.a_changed_book_is_a_changed_problem.ensures.block;
      without = c.a_rejected_block_withdrawn_changes_nothing.ensures.result;
      sums = c.a_rejected_block_withdrawn_changes_nothing.ensures.sums;
    } in
    record { published = cleared_without laws }
