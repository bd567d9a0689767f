-- Period by period.
use Rattle.dam_blocks.proofs.HourlyOrder.{OrderLaws, same_prices, same_result}
use Rattle.dam_blocks.proofs.market.book_order_of_hourly_orders_decides_only_ties.Goals as goal

pub returns : goal.returns
returns c =
    let laws : OrderLaws = record { welfare = c.book_order_decides_only_ties.ensures.welfare; ends = c.book_order_decides_only_ties.ensures.ends } in
    record { prices = same_prices laws; result = same_result laws }
