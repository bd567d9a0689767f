-- Order by order, at the published price of its period.
use Rattle.dam_results.proofs.Executed.{orders_executed}
use Rattle.dam_results.proofs.market.hourly_orders_are_executed.Goals as goal

pub returns : goal.returns
returns c = record { executed = orders_executed }
