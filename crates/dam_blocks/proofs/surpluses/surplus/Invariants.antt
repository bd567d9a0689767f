-- The sum over the periods so far.
use Rattle.dam_blocks.proofs.RunningSums.{IsSurplusSoFar}
use Rattle.dam_blocks.proofs.surpluses.surplus.Given as goal

abbrev pub invariant-loop-place : goal.invariant-loop-place
invariant-loop-place l = IsSurplusSoFar l.order l.prices l.place l.total
