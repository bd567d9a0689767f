-- The descendants so far.
use Rattle.dam_bound.proofs.Members.{AreDescendantsSoFar}
use Rattle.dam_bound.proofs.families.descendants_of.Given as goal

abbrev pub invariant-loop-at : goal.invariant-loop-at
invariant-loop-at l = AreDescendantsSoFar l.blocks l.place l.at l.descendants
