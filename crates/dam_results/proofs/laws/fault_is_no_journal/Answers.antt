-- A journal has no fault.
use Rattle.dam_results.proofs.JournalsHaveNoFault.{only_memory}
use Rattle.dam_results.proofs.laws.fault_is_no_journal.Goals as goal

pub returns : goal.returns
returns c = λ text fault periods commands h r. only_memory text fault periods commands h r
