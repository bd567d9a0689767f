-- The sums of the net volumes so far.
use Rattle.dam_bound.proofs.MakingClasses.{IsRangeSoFar}
use Rattle.dam_bound.proofs.class_making.restart_sum.Given as goal

abbrev pub invariant-loop-net : goal.invariant-loop-net
invariant-loop-net g l = IsRangeSoFar l.nets l.net-index l.least l.most
