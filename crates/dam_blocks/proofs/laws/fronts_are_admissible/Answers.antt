-- A parent stands before its child, so it is in the front with it.
use Rattle.dam_blocks.proofs.Fronts.{front_admissible}
use Rattle.dam_blocks.proofs.laws.fronts_are_admissible.Goals as goal

pub returns : goal.returns
returns c = front_admissible
