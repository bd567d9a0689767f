-- The sum begins at the lesser of the two greatest net volumes, and goes on segment by segment.
use Rattle.std.proofs.Common.{inl, inr, to_z, of_z, w32, rules, arith}
use Rattle.std.proofs.lemmas.Int.{ints}
use Rattle.dam_curve.proofs.ListsOfSegments.{any_segment, small_at}
use Rattle.dam_curve.proofs.Adding.{place_from, stands_from, last_from, none_added, next_added, shorter, all_segments, all_priced, under_added, small_added, bottom_over, all_within, all_outside, apart_outside}
use Rattle.dam_curve.proofs.Adding.{under_first}
use Rattle.dam_curve.proofs.sum.fill_joint_segments.Goals.{then-a-net-via-then-a-net, then-a-net-via-else-a-net+then-b-net}
use Rattle.dam_curve.proofs.sum.fill_joint_segments.Goals.{then-loop-place_in_a-test+else-place_in_b-b, else-loop-place_in_a-test}
use Rattle.dam_curve.proofs.sum.fill_joint_segments.Goals as goal

pub segment_place_at-place_in_a-requires-clause-first : goal.segment_place_at-place_in_a-requires-clause-first
segment_place_at-place_in_a-requires-clause-first g c d =
    (under_first c.args.a.now c.args.b.now (to_z w32 (of_z w32 c.min-net.result)) any_segment d
    (search rules) (search rules) (search rules)).0

pub segment_place_at-place_in_b-requires-clause-first : goal.segment_place_at-place_in_b-requires-clause-first
segment_place_at-place_in_b-requires-clause-first g c d =
    (under_first c.args.a.now c.args.b.now (to_z w32 (of_z w32 c.min-net.result)) any_segment d
    (search rules) (search rules) (search rules)).1

pub loop-place_in_a-init : goal.loop-place_in_a-init
loop-place_in_a-init g c =
    rw c.clear.ensures.items
    (none_added c.args.a.now c.args.b.now (to_z w32 (of_z w32 c.min-net.result)) c.segment_place_at-place_in_a.result c.segment_place_at-place_in_b.result
    (place_from c.args.a.now (to_z w32 (of_z w32 c.min-net.result)) c.segment_place_at-place_in_a.result
    any_segment c.segment_place_at-place_in_a.ensures.inside (search rules))
    (place_from c.args.b.now (to_z w32 (of_z w32 c.min-net.result)) c.segment_place_at-place_in_b.result
    any_segment c.segment_place_at-place_in_b.ensures.inside (search rules))
    (bottom_over c.args.b.now (to_z w32 (of_z w32 c.min-net.result)) any_segment (search rules)
    (search rules))
    (stands_from c.args.a.now (to_z w32 (of_z w32 c.min-net.result)) c.segment_place_at-place_in_a.result c.segment_place_at-place_in_a.ensures.holds
    (λ d l. (let less = c.segment_place_at-place_in_a.ensures.last d l in omega (arith, ints, less))))
    (stands_from c.args.b.now (to_z w32 (of_z w32 c.min-net.result)) c.segment_place_at-place_in_b.result c.segment_place_at-place_in_b.ensures.holds
    (λ d l. (let less = c.segment_place_at-place_in_b.ensures.last d l in omega (arith, ints, less))))
    (last_from c.args.a.now (to_z w32 (of_z w32 c.min-net.result)) c.segment_place_at-place_in_a.result c.segment_place_at-place_in_a.ensures.last)
    (last_from c.args.b.now (to_z w32 (of_z w32 c.min-net.result)) c.segment_place_at-place_in_b.result c.segment_place_at-place_in_b.ensures.last))

pub joint_segment-requires : goal.joint_segment-requires
joint_segment-requires g c = (
  c.requires.0,
  c.requires.1,
  small_at c.requires.0 c.args.a.now c.loop-place_in_a.place_in_a _ c.requires.2 c.loop-place_in_a.invariant.left_is.inside,
  small_at c.requires.1 c.args.b.now c.loop-place_in_a.place_in_b _ c.requires.3 c.loop-place_in_a.invariant.right_is.inside,
  c.requires.4,
)

pub joint_segment-requires-2 : goal.joint_segment-requires-2
joint_segment-requires-2 g c = (
  c.requires.0,
  c.requires.1,
  small_at c.requires.0 c.args.a.now c.loop-place_in_a.place_in_a _ c.requires.2 c.loop-place_in_a.invariant.left_is.inside,
  small_at c.requires.1 c.args.b.now c.loop-place_in_a.place_in_b _ c.requires.3 c.loop-place_in_a.invariant.right_is.inside,
  c.requires.4,
)

pub loop-place_in_a-smaller : goal.loop-place_in_a-smaller
loop-place_in_a-smaller g c =
    shorter c.args.a.now c.args.b.now (to_z w32 (of_z w32 c.max-net.result)) c.loop-place_in_a.place_in_a c.loop-place_in_a.place_in_b c.place_past-place_in_a.result c.place_past-place_in_b.result
    any_segment (search rules) (search rules) (search rules) c.place_past-place_in_a.ensures c.place_past-place_in_b.ensures

pub loop-place_in_a-preserved : goal.loop-place_in_a-preserved
loop-place_in_a-preserved g c =
    rw (c.in_ok-push.ensures.items, c.joint_segment.ensures)
    (next_added c.args.a.now c.args.b.now c.loop-place_in_a.sum.items (to_z w32 (of_z w32 c.min-net.result)) (to_z w32 c.loop-place_in_a.net-bits)
    (to_z w32 (of_z w32 c.max-net.result)) c.loop-place_in_a.place_in_a c.loop-place_in_a.place_in_b c.place_past-place_in_a.result c.place_past-place_in_b.result
    any_segment c.loop-place_in_a.invariant (search rules) (search rules) (search rules)
    c.place_past-place_in_a.ensures c.place_past-place_in_b.ensures)

pub returns-clause-segments : goal.returns-clause-segments
returns-clause-segments g c f h s t =
    rw (c.in_ok-push-2.ensures.items, c.joint_segment-2.ensures)
    (all_segments f h c.args.a.now c.args.b.now c.loop-place_in_a.sum.items (to_z w32 (of_z w32 c.min-net.result))
    (to_z w32 c.loop-place_in_a.net-bits) c.loop-place_in_a.place_in_a
    c.loop-place_in_a.place_in_b any_segment c.loop-place_in_a.invariant s t)

pub returns-clause-within : goal.returns-clause-within
returns-clause-within g c h least most t within =
    rw (c.in_ok-push-2.ensures.items, c.joint_segment-2.ensures)
    (all_within h c.args.a.now c.args.b.now c.loop-place_in_a.sum.items (to_z w32 (of_z w32 c.min-net.result)) (to_z w32 c.loop-place_in_a.net-bits) least most
    c.loop-place_in_a.place_in_a c.loop-place_in_a.place_in_b any_segment c.loop-place_in_a.invariant t (search rules) within)

pub returns-clause-small : goal.returns-clause-small
returns-clause-small g c n m s t =
    rw (c.in_ok-push-2.ensures.items, c.joint_segment-2.ensures)
    (small_added n m c.args.a.now c.args.b.now c.loop-place_in_a.sum.items (to_z w32 (of_z w32 c.min-net.result)) (to_z w32 c.loop-place_in_a.net-bits) c.loop-place_in_a.place_in_a
    c.loop-place_in_a.place_in_b any_segment c.loop-place_in_a.invariant s t)

pub returns-then-a-net-clause-outside : goal.returns-then-a-net-clause-outside
returns-then-a-net-clause-outside g c f h net s t o =
    apart_outside c.args.a.now c.args.b.now (to_z w32 (of_z w32 c.min-net.result)) net any_segment
    (search rules) (search rules) (search rules)
    (elim c.then-a-net.branch [
      | then-a-net-via-then-a-net w ↦ inl (search rules)
      | then-a-net-via-else-a-net+then-b-net w ↦ inr (search rules)
    ])

pub returns-clause-outside : goal.returns-clause-outside
returns-clause-outside g c f h net s t o =
    all_outside f h c.args.a.now c.args.b.now c.loop-place_in_a.sum.items (to_z w32 (of_z w32 c.min-net.result)) (to_z w32 c.loop-place_in_a.net-bits) net
    c.loop-place_in_a.place_in_a c.loop-place_in_a.place_in_b any_segment c.loop-place_in_a.invariant s t
    (elim c.loop-place_in_a-test.branch [
      | then-loop-place_in_a-test+else-place_in_b-b w ↦ inr (let inside = c.loop-place_in_a.invariant.right_is.inside in search rules)
      | else-loop-place_in_a-test w ↦ inl (let inside = c.loop-place_in_a.invariant.left_is.inside in search rules)
    ])
    (search rules)
    (rw (← c.joint_segment-2.ensures, ← c.in_ok-push-2.ensures.items) o)

pub returns-clause-under : goal.returns-clause-under
returns-clause-under g c f h s t =
    rw (c.in_ok-push-2.ensures.items, c.joint_segment-2.ensures)
    (under_added f h c.args.a.now c.args.b.now c.loop-place_in_a.sum.items (to_z w32 (of_z w32 c.min-net.result)) (to_z w32 c.loop-place_in_a.net-bits)
    c.loop-place_in_a.place_in_a c.loop-place_in_a.place_in_b any_segment c.loop-place_in_a.invariant s t)

pub returns-clause-priced : goal.returns-clause-priced
returns-clause-priced g c f h ss ps s t p q =
    rw (c.in_ok-push-2.ensures.items, c.joint_segment-2.ensures)
    (all_priced f h ss ps c.args.a.now c.args.b.now c.loop-place_in_a.sum.items (to_z w32 (of_z w32 c.min-net.result))
    (to_z w32 c.loop-place_in_a.net-bits) c.loop-place_in_a.place_in_a c.loop-place_in_a.place_in_b
    any_segment c.loop-place_in_a.invariant s t p q)
