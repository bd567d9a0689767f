-- If the welfare is known, an execution balances, and so the price has its ends.
use Rattle.dam_bound.proofs.PeriodPrices.{some_prices}
use Rattle.dam_bound.proofs.laws.balanced_selections_have_prices.Goals as goal

pub returns : goal.returns
returns c problem sel w valid e =
    some_prices (record { reached = c.best_has_greatest_welfare.ensures.reached; within = c.balances_within_offers.ensures.within; ends = c.best_execution_exists.ensures.ends })
    problem.blocks sel 1 problem.hours w valid.hours e
