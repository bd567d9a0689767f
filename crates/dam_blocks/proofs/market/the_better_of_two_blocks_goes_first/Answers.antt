-- With the better block in place of the worse one, the selection would have more welfare.
use Rattle.dam_blocks.proofs.InPlaceOf.{better_too}
use Rattle.dam_blocks.proofs.market.the_better_of_two_blocks_goes_first.Goals as goal

pub returns : goal.returns
returns c = record { accepted = better_too }
