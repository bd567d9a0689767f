-- Place by place.
use Rattle.dam_blocks.proofs.Families.{accepts_descendant}
use Rattle.dam_blocks.proofs.laws.accepted_descendants_descend.Goals as goal

pub returns : goal.returns
returns c = accepts_descendant
