-- An execution of two lists of steps in its two parts.
use Rattle.dam_hour.proofs.Joining.{joined_execution, parted_execution, joined_volume, joined_welfare}
use Rattle.dam_hour.proofs.laws.executions_join.Goals as goal

pub returns-clause-joined : goal.returns-clause-joined
returns-clause-joined c = joined_execution

pub returns-clause-parted : goal.returns-clause-parted
returns-clause-parted c = parted_execution

pub returns-clause-volume : goal.returns-clause-volume
returns-clause-volume c = joined_volume

pub returns-clause-welfare : goal.returns-clause-welfare
returns-clause-welfare c = joined_welfare
