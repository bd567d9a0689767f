-- The places so far.
use Rattle.dam_bound.proofs.ClassPricing.{IsFamilySum}
use Rattle.dam_bound.proofs.class_curves.ClassCurves.family_gain.Given as goal

abbrev pub invariant-loop-at : goal.invariant-loop-at
invariant-loop-at g l = IsFamilySum l.self l.selection l.place l.at l.total
