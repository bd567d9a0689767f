-- The classes so far.
use Rattle.dam_bound.proofs.Rivalry.{IsMostSoFar}
use Rattle.dam_bound.proofs.class_curves.ClassCurves.most_weighed_surplus.Given as goal

abbrev pub invariant-loop-class : goal.invariant-loop-class
invariant-loop-class g l = IsMostSoFar l.self l.class-index l.sell l.buy l.weights l.most
