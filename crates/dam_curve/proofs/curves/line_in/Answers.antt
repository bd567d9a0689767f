-- The line of a segment of the curve.
use Rattle.std.proofs.Common.{to_z, of_z, w64, rules}
use Rattle.dam_curve.specs.Curve.{joint_welfare}
use Rattle.dam_curve.proofs.ListsOfSegments.{any_segment, under_at}
use Rattle.dam_curve.proofs.LookingUp.{small_line, small_wide, within_segments}
use Rattle.dam_curve.proofs.curves.line_in.Goals as goal

pub segment_place_near-requires-clause-last : goal.segment_place_near-requires-clause-last
segment_place_near-requires-clause-last c =
    (within_segments c.args.segments.now c.args.net (to_z w64 (of_z w64 c.args.net)) (search rules) c.requires.some c.requires.bottom
    c.requires.top).last

pub returns-clause-above : goal.returns-clause-above
returns-clause-above c ps least most is =
    rw c.line.ensures
    (λ net w low high e. under_at (joint_welfare ps) c.args.segments.now c.place_before_end-place.result
    any_segment is.under c.place_before_end-place.ensures net w e)

pub returns-clause-small : goal.returns-clause-small
returns-clause-small c =
    rw c.line.ensures
    (small_line _ (small_wide c.requires.curve.0 c.requires.curve.1 c.requires.curve.2 c.args.segments.now c.place_before_end-place.result
    any_segment c.requires.curve.3 c.place_before_end-place.ensures))
