-- No bit is 1.
use Rattle.dam_book.specs.Limits.{most_blocks}
use Rattle.dam_blocks.proofs.Bits.{flags-none}
use Rattle.dam_blocks.proofs.selection.Selection.none.Goals as goal

pub returns : goal.returns
returns c = flags-none most_blocks
