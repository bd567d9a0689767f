-- Each execution of the one list has its counterpart of the other.
use Rattle.dam_hour.proofs.Reordering.{same_welfare, same_ends, same_volume}
use Rattle.dam_hour.proofs.market_laws.book_order_decides_only_ties.Goals as goal

pub returns-clause-welfare : goal.returns-clause-welfare
returns-clause-welfare c = same_welfare

pub returns-clause-ends : goal.returns-clause-ends
returns-clause-ends c = same_ends

pub returns-clause-volume : goal.returns-clause-volume
returns-clause-volume c = same_volume
