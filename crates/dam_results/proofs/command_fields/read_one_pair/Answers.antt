-- One pair is the text of volumes in one period.
use Rattle.dam_results.proofs.command_fields.read_one_pair.Goals as goal

pub returns-in_default : goal.returns-in_default
returns-in_default c = λ k. c.in_default.ensures (k.0, k.1) k.2 k.3 k.4
