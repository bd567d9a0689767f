-- The curve of the members of the class among the periods so far.
use Rattle.std.proofs.Common.{◌≡◌, ◌≤◌, length}
use Rattle.dam_bound.proofs.MakingClasses.{IsCurveFrom}
use Rattle.dam_bound.proofs.class_making.add_curve.Given as goal

abbrev pub invariant-loop-at : goal.invariant-loop-at
invariant-loop-at g l = record {
  inside : l.at ≤ length l.problem.hours;
  same : l.curves ≡ l.fn.curves;
  curve : IsCurveFrom l.problem l.first_place l.nets l.at l.sum;
}

abbrev pub decreases-loop-at : goal.decreases-loop-at
decreases-loop-at g l = l.at
