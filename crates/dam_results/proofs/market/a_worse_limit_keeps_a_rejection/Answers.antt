-- The result is the same selection, and only the block's own surplus reads its limit.
use Rattle.dam_results.proofs.OtherLimits.{WorseLaws, published_with_worse}
use Rattle.dam_results.proofs.market.a_worse_limit_keeps_a_rejection.Goals as goal

pub returns : goal.returns
returns c =
    let laws : WorseLaws = record {
      best = c.best_selection_is_result.ensures.best;
      result = c.best_selection_is_result.ensures.result;
      change = c.a_changed_book_is_a_changed_problem.ensures.limit;
      worse = c.a_worse_limit_keeps_a_rejection.ensures.result;
    } in
    record { published = published_with_worse laws }
