-- The segment that holds there is the joint welfare, and has the prices.
use Rattle.std.proofs.Common.{◌≡◌, ℤ, Some, ap, ◌∙◌, sym, subst, to_z, of_z, w32, w64, rules, arith}
use Rattle.std.proofs.lemmas.Int.{ints}
use Rattle.dam_book.specs.Limits.{last_period}
use Rattle.dam_curve.specs.declared.line.Line.{Line}
use Rattle.dam_curve.specs.Curve.{joint_welfare}
use Rattle.dam_curve.specs.JointPrice.{IsJointPrice}
use Rattle.dam_curve.specs.Line.{line_value, IsSmallLine}
use Rattle.dam_curve.proofs.ListsOfSegments.{any_segment, price_small}
use Rattle.dam_curve.proofs.LookingUp.{small_line, small_wide, within_segments, value_at, price_there}
use Rattle.dam_curve.proofs.curves.point_in.Goals as goal

pub segment_place_near-requires-clause-first : goal.segment_place_near-requires-clause-first
segment_place_near-requires-clause-first c =
    (within_segments c.args.segments.now c.args.net (to_z w64 (of_z w64 c.args.net)) (search rules) c.requires.some c.requires.bottom
    c.requires.top).first

pub segment_place_near-requires-clause-last : goal.segment_place_near-requires-clause-last
segment_place_near-requires-clause-last c =
    (within_segments c.args.segments.now c.args.net (to_z w64 (of_z w64 c.args.net)) (search rules) c.requires.some c.requires.bottom
    c.requires.top).last

pub value-requires-clause-line : goal.value-requires-clause-line
value-requires-clause-line c =
    subst (IsSmallLine last_period) (sym c.line.ensures)
    (small_line _ (small_wide c.requires.curve.0 c.requires.curve.1 c.requires.curve.2 c.args.segments.now c.segment_place_near.result
    any_segment c.requires.curve.3 c.segment_place_near.ensures.inside))

pub returns-clause-welfare : goal.returns-clause-welfare
returns-clause-welfare c ps least most is =
    let net : to_z w64 (of_z w64 c.args.net) ≡ c.args.net = search rules in
    let own : to_z w64 (of_z w64 c.value.result) ≡ c.value.result = search rules in
    let value = ap (λ (line : Line). line_value line (to_z w64 (of_z w64 c.args.net))) c.line.ensures in
    ap (λ (z : ℤ). Some z) (own ∙ c.value.ensures ∙ value)
    ∙ value_at (joint_welfare ps) c.args.segments.now (to_z w64 (of_z w64 c.args.net)) c.segment_place_near.result
    any_segment is.are_segments
    (within_segments c.args.segments.now c.args.net (to_z w64 (of_z w64 c.args.net)) net c.requires.some c.requires.bottom c.requires.top)
    c.segment_place_near.ensures.inside c.segment_place_near.ensures.holds
    (λ e l. (let less = c.segment_place_near.ensures.next e l in omega (arith, ints, less)))
    ∙ ap (joint_welfare ps) net

pub returns-clause-price : goal.returns-clause-price
returns-clause-price c ps least most is =
    let net : to_z w64 (of_z w64 c.args.net) ≡ c.args.net = search rules in
    let own : to_z w32 (of_z w32 c.price_at.result) ≡ c.price_at.result = search rules in
    subst (λ (z : ℤ). IsJointPrice ps z (to_z w32 (of_z w32 c.price_at.result))) net
    (rw (own, c.price_at.ensures)
    (price_there ps c.args.segments.now (to_z w64 (of_z w64 c.args.net)) c.segment_place_near.result
    any_segment is.priced
    (within_segments c.args.segments.now c.args.net (to_z w64 (of_z w64 c.args.net)) net c.requires.some c.requires.bottom c.requires.top)
    c.segment_place_near.ensures.inside c.segment_place_near.ensures.holds c.segment_place_near.ensures.next))

pub returns-clause-at_least : goal.returns-clause-at_least
returns-clause-at_least c =
    let own : to_z w32 (of_z w32 c.price_at.result) ≡ c.price_at.result = search rules in
    let is = c.price_at.ensures in
    let small = price_small _ _ (to_z w64 (of_z w64 c.args.net))
    (small_wide c.requires.curve.0 c.requires.curve.1 c.requires.curve.2 c.args.segments.now c.segment_place_near.result
    any_segment c.requires.curve.3 c.segment_place_near.ensures.inside) in
    omega (arith, ints, own, is, small.0)

pub returns-clause-at_most : goal.returns-clause-at_most
returns-clause-at_most c =
    let own : to_z w32 (of_z w32 c.price_at.result) ≡ c.price_at.result = search rules in
    let is = c.price_at.ensures in
    let small = price_small _ _ (to_z w64 (of_z w64 c.args.net))
    (small_wide c.requires.curve.0 c.requires.curve.1 c.requires.curve.2 c.args.segments.now c.segment_place_near.result
    any_segment c.requires.curve.3 c.segment_place_near.ensures.inside) in
    omega (arith, ints, own, is, small.1)
