-- Period by period, the price of the net volume cancels.
use Rattle.dam_blocks.proofs.Sharing.{SharingLaws, shared, length_prices}
use Rattle.dam_blocks.proofs.Orders.{shared_by_orders}
use Rattle.dam_blocks.proofs.Shares.{shared_by_participants}
use Rattle.dam_blocks.proofs.market.welfare_is_shared_out.Goals as goal

pub returns : goal.returns
returns c =
    let laws : SharingLaws = record { best = c.best_has_greatest_welfare.ensures.best; welfare = c.supported_surplus_is_greatest.ensures.welfare } in
    record {
      shared = λ problem selection prices executions is.
          shared laws problem selection prices executions
          (length_prices problem.blocks selection 1 problem.hours prices is.prices_are) is.executions_are;
      any_prices = λ problem selection prices executions long are. shared laws problem selection prices executions long are;
      orders = shared_by_orders laws;
      participants = shared_by_participants laws;
    }
