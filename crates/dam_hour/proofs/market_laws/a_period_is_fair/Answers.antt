-- One order at the supporting price and in the best execution.
use Rattle.dam_hour.proofs.Fairness.{filled_at, none_loses, no_better, in_turn}
use Rattle.dam_hour.proofs.market_laws.a_period_is_fair.Goals as goal

pub returns-clause-better : goal.returns-clause-better
returns-clause-better c steps net price place step volume is = (filled_at steps net price place step volume is).0

pub returns-clause-worse : goal.returns-clause-worse
returns-clause-worse c steps net price place step volume is = (filled_at steps net price place step volume is).1

pub returns-clause-no_loss : goal.returns-clause-no_loss
returns-clause-no_loss c = none_loses

pub returns-clause-no_better_volume : goal.returns-clause-no_better_volume
returns-clause-no_better_volume c = no_better

pub returns-clause-in_book_order : goal.returns-clause-in_book_order
returns-clause-in_book_order c = in_turn
