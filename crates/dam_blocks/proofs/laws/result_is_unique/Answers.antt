-- Of two results each ranks at or below the other.
use Rattle.dam_blocks.proofs.Ranks.{result_unique}
use Rattle.dam_blocks.proofs.laws.result_is_unique.Goals as goal

pub returns : goal.returns
returns c = result_unique
