-- The place is of a segment.
use Rattle.std.proofs.Common.{◌-◌, ◌<◌, length}
use Rattle.dam_curve.proofs.curves.append_hints.Given as goal

abbrev pub invariant-loop-place : goal.invariant-loop-place
invariant-loop-place g l = l.place < length l.segments

abbrev pub decreases-loop-place : goal.decreases-loop-place
decreases-loop-place g l = length l.segments - l.place

abbrev pub invariant-loop-hint : goal.invariant-loop-hint
invariant-loop-hint g l = l.place < length l.segments
