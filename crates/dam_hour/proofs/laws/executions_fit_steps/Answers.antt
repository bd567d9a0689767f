-- An execution is as long as its steps, and its volumes are at most its steps' own.
use Rattle.dam_hour.proofs.Joining.{execution_length, volume_at_most}
use Rattle.dam_hour.proofs.laws.executions_fit_steps.Goals as goal

pub returns-clause-length : goal.returns-clause-length
returns-clause-length c = execution_length

pub returns-clause-at_most : goal.returns-clause-at_most
returns-clause-at_most c = volume_at_most
