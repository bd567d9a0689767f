-- A text's first fault is the only one.
use Rattle.dam_results.proofs.OneFault.{faults-alike}
use Rattle.dam_results.proofs.laws.text_has_one_fault.Goals as goal

pub returns : goal.returns
returns c = faults-alike
