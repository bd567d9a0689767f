-- First down to a segment that holds at the net volume, then up to the last one.
use Rattle.std.proofs.Common.{◌-◌, ◌<◌, ◌≤ℤ◌, length, slice_index_or}
use Rattle.dam_curve.specs.declared.segment.Segment.{Segment}
use Rattle.dam_curve.proofs.curves.segment_place_near.Given as goal

abbrev pub invariant-loop-place : goal.invariant-loop-place
invariant-loop-place l = l.place < length l.segments

abbrev pub decreases-loop-place : goal.decreases-loop-place
decreases-loop-place l = l.place

abbrev pub invariant-loop-place-2 : goal.invariant-loop-place-2
invariant-loop-place-2 l = record {
  inside : l.place < length l.segments;
  holds : (d : Segment) → l.net ≤ℤ (slice_index_or l.segments l.place d).most;
}

abbrev pub decreases-loop-place-2 : goal.decreases-loop-place-2
decreases-loop-place-2 l = length l.segments - l.place
