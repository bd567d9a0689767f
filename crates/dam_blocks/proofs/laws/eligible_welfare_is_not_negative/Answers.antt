-- The laws of one period on its price.
use Rattle.dam_blocks.proofs.WelfareAtLeastZero.{welfare_at_least_zero}
use Rattle.dam_blocks.proofs.laws.eligible_welfare_is_not_negative.Goals as goal

pub returns : goal.returns
returns c = welfare_at_least_zero (record {
  between = c.price_is_between_ends.ensures.between;
  supports = c.prices_between_ends_support.ensures.prices;
  bound = c.best_has_greatest_welfare.ensures.bound;
  welfare = c.supported_surplus_is_greatest.ensures.welfare;
  at_least_zero = c.supported_surplus_is_greatest.ensures.at_least_zero;
})
