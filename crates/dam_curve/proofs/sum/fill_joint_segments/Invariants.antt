-- The segments of the sum hold down to `net`, and the segments at the two places hold there.
use Rattle.std.proofs.Common.{◌+◌, ◌-◌, length}
use Rattle.dam_curve.proofs.Adding.{IsAdded}
use Rattle.dam_curve.proofs.sum.fill_joint_segments.Given as goal

abbrev pub invariant-loop-place_in_a : goal.invariant-loop-place_in_a
invariant-loop-place_in_a g l = IsAdded l.a l.b l.sum.items l.initial.net l.net l.place_in_a l.place_in_b

abbrev pub decreases-loop-place_in_a : goal.decreases-loop-place_in_a
decreases-loop-place_in_a g l = (length l.a - l.place_in_a) + (length l.b - l.place_in_b)
