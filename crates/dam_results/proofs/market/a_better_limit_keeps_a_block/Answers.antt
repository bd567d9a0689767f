-- Each line says whether the selection accepts its block.
use Rattle.dam_results.proofs.OtherLimits.{LimitLaws, still_accepted}
use Rattle.dam_results.proofs.market.a_better_limit_keeps_a_block.Goals as goal

pub returns : goal.returns
returns c =
    let laws : LimitLaws = record {
      result = c.best_selection_is_result.ensures.result;
      change = c.a_changed_book_is_a_changed_problem.ensures.limit;
      better = c.a_better_limit_keeps_a_block.ensures.accepted;
    } in
    record { accepted = still_accepted laws }
