-- The gain by the classes so far.
use Rattle.dam_bound.proofs.ClassPricing.{IsGainSoFar}
use Rattle.dam_bound.proofs.class_curves.ClassCurves.gain_at.Given as goal

abbrev pub invariant-loop-class : goal.invariant-loop-class
invariant-loop-class g l = IsGainSoFar l.self l.prices.prices l.class-index l.place l.gain
