-- Within the offers there are ends and a best execution.
use Rattle.dam_hour.proofs.Existence.{ends_exist, best_exists}
use Rattle.dam_hour.proofs.laws.best_execution_exists.Goals as goal

pub returns-clause-ends : goal.returns-clause-ends
returns-clause-ends c = ends_exist

pub returns-clause-best : goal.returns-clause-best
returns-clause-best c = best_exists
