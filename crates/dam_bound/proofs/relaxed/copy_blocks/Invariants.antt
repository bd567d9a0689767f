-- The blocks so far.
use Rattle.std.proofs.Common.{◌≡◌, take}
use Rattle.dam_bound.proofs.relaxed.copy_blocks.Given as goal

abbrev pub invariant-loop-block : goal.invariant-loop-block
invariant-loop-block g l = l.copies.items ≡ take l.block-index l.blocks
