-- The sum so far; each block adds at most a greatest value.
use Rattle.dam_blocks.proofs.Common.{greatest_value, value_in}
use Rattle.dam_blocks.proofs.RunningSums.{IsSumSoFar}
use Rattle.dam_blocks.proofs.block_effects.accepted_value.Given as goal

abbrev pub invariant-loop-place : goal.invariant-loop-place
invariant-loop-place l = IsSumSoFar (value_in l.period) greatest_value l.blocks l.selection l.place l.total
