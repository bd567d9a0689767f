-- The sum so far; each block adds at most a greatest volume.
use Rattle.dam_blocks.proofs.Common.{pos, greatest_volume}
use Rattle.dam_blocks.specs.Selection.{bought_volume_of_block}
use Rattle.dam_blocks.proofs.RunningSums.{IsSumSoFar}
use Rattle.dam_blocks.proofs.block_effects.bought_volume.Given as goal

abbrev pub invariant-loop-place : goal.invariant-loop-place
invariant-loop-place l = IsSumSoFar (bought_volume_of_block l.period) greatest_volume l.blocks l.selection l.place (pos l.total)
