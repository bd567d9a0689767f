-- Period by period, then order by order.
use Rattle.dam_blocks.proofs.Executed.{orders_executed}
use Rattle.dam_blocks.proofs.market.hourly_orders_are_executed.Goals as goal

pub returns : goal.returns
returns c = record { executed = orders_executed }
