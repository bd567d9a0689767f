-- Each step adds at most the greatest volume and the greatest value.
use Rattle.dam_hour.proofs.Magnitude.{execution_small}
use Rattle.dam_hour.proofs.laws.executions_are_small.Goals as goal

pub returns : goal.returns
returns c = execution_small
