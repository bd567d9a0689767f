-- The sum so far; each block adds at most a greatest volume.
use Rattle.dam_blocks.proofs.Common.{greatest_volume, net_volume_of_block}
use Rattle.dam_blocks.proofs.RunningSums.{IsSumSoFar}
use Rattle.dam_blocks.proofs.block_effects.net_volume.Given as goal

abbrev pub invariant-loop-place : goal.invariant-loop-place
invariant-loop-place l = IsSumSoFar (net_volume_of_block l.period) greatest_volume l.blocks l.selection l.place l.total
