-- The supporting prices are those between the ends, and each supports the best execution.
use Rattle.dam_hour.proofs.Supporting.{ends_support_best, between_supports}
use Rattle.dam_hour.proofs.laws.prices_between_ends_support.Goals as goal

pub returns-clause-prices : goal.returns-clause-prices
returns-clause-prices c steps net low high p ends = (
  (λ s. (ends.least p s, ends.greatest p s)),
  λ within. between_supports steps net low high p ends.low_supports ends.high_supports within.0 within.1,
)

pub returns-clause-best : goal.returns-clause-best
returns-clause-best c = ends_support_best
