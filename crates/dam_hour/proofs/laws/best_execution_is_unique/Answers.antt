-- The ends are one pair, and the best execution is one.
use Rattle.dam_hour.proofs.Existence.{ends_unique, best_unique}
use Rattle.dam_hour.proofs.laws.best_execution_is_unique.Goals as goal

pub returns-clause-ends : goal.returns-clause-ends
returns-clause-ends c = ends_unique

pub returns-clause-best : goal.returns-clause-best
returns-clause-best c = best_unique
