-- The market's laws are about the published line of each order.
use Rattle.dam_results.proofs.AddingUp.{AddingLaws, welfare_adds_up, volume_adds_up, traded_is}
use Rattle.dam_results.proofs.market.published_results_add_up.Goals as goal

pub returns : goal.returns
returns c =
    let laws : AddingLaws = record {
      problem = c.a_closed_book_is_a_problem.ensures.problem;
      shared = c.welfare_is_shared_out.ensures.orders;
      balance = c.money_balances.ensures.volume;
      best = c.best_execution_is_unique.ensures.best;
    } in
    record { welfare = welfare_adds_up laws; volume = volume_adds_up laws; traded = traded_is laws }
