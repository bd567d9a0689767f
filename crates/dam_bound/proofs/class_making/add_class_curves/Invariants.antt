-- The classes so far.
use Rattle.dam_bound.specs.Relaxed.{without_rows}
use Rattle.dam_bound.proofs.MakingClasses.{AreClassesSoFar}
use Rattle.dam_bound.proofs.class_making.add_class_curves.Given as goal

abbrev pub invariant-loop-at : goal.invariant-loop-at
invariant-loop-at g l = AreClassesSoFar (without_rows l.problem) l.curves l.at l.classes.items
