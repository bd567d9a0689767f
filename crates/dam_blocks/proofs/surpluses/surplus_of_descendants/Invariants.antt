-- The sum so far over the accepted descendants; each adds at most a greatest surplus.
use Rattle.dam_blocks.proofs.Common.{accepted_descendants, surplus_of}
use Rattle.dam_blocks.specs.Magnitude.{greatest_surplus}
use Rattle.dam_blocks.proofs.RunningSums.{IsSumSoFar}
use Rattle.dam_blocks.proofs.surpluses.surplus_of_descendants.Given as goal

abbrev pub invariant-loop-other : goal.invariant-loop-other
invariant-loop-other l =
    IsSumSoFar (surplus_of l.prices) greatest_surplus l.blocks (accepted_descendants l.blocks l.selection l.place) l.other l.total
