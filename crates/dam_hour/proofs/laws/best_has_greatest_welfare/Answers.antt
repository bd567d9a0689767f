-- The best execution reaches the greatest welfare, and none surpasses it.
use Rattle.dam_hour.proofs.Enumeration.{best_greatest_welfare, greatest_welfare_reached, greatest_welfare_bound, greatest_welfare_none}
use Rattle.dam_hour.proofs.Enumeration.{greatest_welfare_some, unbalanced_welfare}
use Rattle.dam_hour.proofs.laws.best_has_greatest_welfare.Goals as goal

pub returns-clause-best : goal.returns-clause-best
returns-clause-best c = best_greatest_welfare

pub returns-clause-reached : goal.returns-clause-reached
returns-clause-reached c = greatest_welfare_reached

pub returns-clause-bound : goal.returns-clause-bound
returns-clause-bound c = greatest_welfare_bound

pub returns-clause-some : goal.returns-clause-some
returns-clause-some c = greatest_welfare_some

pub returns-clause-none : goal.returns-clause-none
returns-clause-none c steps net = (greatest_welfare_none steps net, unbalanced_welfare steps net)
