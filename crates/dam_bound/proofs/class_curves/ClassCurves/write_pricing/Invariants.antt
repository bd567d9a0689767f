-- The lines of the classes so far.
use Rattle.dam_bound.proofs.LineByLine.{IsLinedSoFar}
use Rattle.dam_bound.proofs.class_curves.ClassCurves.write_pricing.Given as goal

abbrev pub invariant-loop-class : goal.invariant-loop-class
invariant-loop-class g l = IsLinedSoFar l.self l.class-index l.pricing.base l.pricing.gains l.pricing.lines
