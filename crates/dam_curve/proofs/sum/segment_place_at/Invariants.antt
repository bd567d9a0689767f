-- The segment at `place` holds at the net volume.
use Rattle.std.proofs.Common.{◌-◌, ◌<◌, ◌≤ℤ◌, length, slice_index_or}
use Rattle.dam_curve.specs.declared.segment.Segment.{Segment}
use Rattle.dam_curve.proofs.sum.segment_place_at.Given as goal

abbrev pub invariant-loop-place : goal.invariant-loop-place
invariant-loop-place l = record {
  inside : l.place < length l.segments;
  holds : (d : Segment) → l.net ≤ℤ (slice_index_or l.segments l.place d).most;
}

abbrev pub decreases-loop-place : goal.decreases-loop-place
decreases-loop-place l = length l.segments - l.place
