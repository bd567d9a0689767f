-- The welfare of the result of the problem without the block is no greater.
use Rattle.dam_results.proofs.OtherLimits.{OneMoreLaws, welfare_of_more}
use Rattle.dam_results.proofs.market.a_block_more_never_lowers_welfare.Goals as goal

pub returns : goal.returns
returns c =
    let laws : OneMoreLaws = record {
      problem = c.a_closed_book_is_a_problem.ensures.problem;
      result = c.best_selection_is_result.ensures.result;
      change = c.a_changed_book_is_a_changed_problem.ensures.block;
      more = c.a_block_more_never_lowers_welfare.ensures.welfare;
    } in
    record { welfare = welfare_of_more laws }
