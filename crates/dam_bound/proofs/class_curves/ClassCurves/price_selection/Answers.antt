-- A class less, and all of them; and their prices.
use Rattle.dam_bound.proofs.Common.{◌≡◌, ◌+◌, ◌*◌, ℤ, ◌+ℤ◌, [], List, length, get_or, slice_set, ap, ◌∙◌, sym, subst, rules, arith, ints, to_z-of_z}
use Rattle.dam_bound.proofs.Common.{joint_welfare, line_value, last_period, greatest_price, IsWithin, ProblemState, class_orders, AreClassCurves, line_in}
use Rattle.dam_bound.proofs.Common.{over_gains, Class}
use Rattle.std.proofs.Common.{pos}
use Rattle.std.specs.Option.{option_map}
use mir.Syntax.{w64}
use mir.Val.{to_z, of_z}
use Rattle.dam_curve.specs.JointPrice.{IsJointPrice}
use Rattle.dam_curve.specs.declared.point.Point.{Point}
use Rattle.dam_bound.specs.inside.BlockNumbers.{greatest_line_value}
use Rattle.dam_bound.proofs.ClassPricing.{ArePricedSoFar, no_price, price_more, all_priced}
use Rattle.dam_bound.proofs.LineByLine.{own_class, as_many}
use Rattle.dam_bound.proofs.LossPrices.{price_fits}
use Rattle.dam_bound.proofs.Lowering.{lowered_first, most_lowered, all_lowered, none_balances}
use Rattle.dam_bound.proofs.Lowering.{net_read, range_read, joint_here, lined_within, one_lowered}
use Rattle.dam_bound.proofs.class_curves.ClassCurves.price_selection.Goals as goal

abbrev nothing : Class
nothing = record {
  first_place = 0;
  curve = record { first = 0; count = 0; least = pos 0; most = pos 0; hints = record { first = 0; shift = 0 } };
  nets = [];
}

pub weighted_sum-requires-clause-nets : goal.weighted_sum-requires-clause-nets
weighted_sum-requires-clause-nets g c =
    (own_class _ _ _ _ _ c.deref-class-items.result.now c.loop-class.class-index nothing c.self.invariant c.deref-class-items.ensures.value
    c.loop-class-test.true).small

begun : (total base gains : ℤ) → total ≡ (base +ℤ gains) +ℤ pos 0 → total ≡ base +ℤ gains
begun total base gains e = omega (arith, ints, e)

pub loop-class-init : goal.loop-class-init
loop-class-init g c =
    let total : to_z w64 (of_z w64 c.bound-total.result) ≡ c.bound-total.result = search rules in record {
      lowered = lowered_first c.args.self.now c.args.pricing.now c.args.selection _ c.requires.by_lines (total
          ∙ begun c.bound-total.result c.args.pricing.now.base (over_gains c.args.pricing.now.gains c.args.selection) c.bound-total.ensures);
      priced = no_price c.args.self.now c.args.selection _ (search rules);
    }

pub point-requires : goal.point-requires
point-requires g c =
    let are = subst (λ (p : ProblemState). AreClassCurves p c.self.inside.curves c.self.inside.classes.items c.self.inside.values
    c.self.inside.families.items) c.self.view_is c.self.invariant in
    let j = c.loop-class.class-index in
    let class = get_or c.deref-class-items.result.now j nothing in
    let own = own_class c.args.self.now _ _ _ _ c.deref-class-items.result.now j nothing are c.deref-class-items.ensures.value
    c.loop-class-test.true in
    let net = net_read c.args.self.now c.args.selection class.first_place c.acceptance_weights-counts.result class.nets c.weighted_sum.result c.from-net.result
    are.few_blocks own.is.nets_are own.small.long c.acceptance_weights-counts.ensures.counts c.weighted_sum.ensures.value c.weighted_sum.ensures.size
    c.from-net.ensures in
    let range = range_read c.args.self.now c.args.selection class.first_place _ net.0 in
    (_, _, _, own.is.curve_is, range.0, range.1)

pub returns-in_default-clause-none : goal.returns-in_default-clause-none
returns-in_default-clause-none g c none w e =
    let are = subst (λ (p : ProblemState). AreClassCurves p c.self.inside.curves c.self.inside.classes.items c.self.inside.values
    c.self.inside.families.items) c.self.view_is c.self.invariant in
    let j = c.loop-class.class-index in
    let class = get_or c.deref-class-items.result.now j nothing in
    let own = own_class c.args.self.now _ _ _ _ c.deref-class-items.result.now j nothing are c.deref-class-items.ensures.value
    c.loop-class-test.true in
    let net = net_read c.args.self.now c.args.selection class.first_place c.acceptance_weights-counts.result class.nets c.weighted_sum.result c.from-net.result
    are.few_blocks own.is.nets_are own.small.long c.acceptance_weights-counts.ensures.counts c.weighted_sum.ensures.value c.weighted_sum.ensures.size
    c.from-net.ensures in
    let range = range_read c.args.self.now c.args.selection class.first_place _ net.0 in
    let joint = c.point.ensures.welfare _ _ _ own.is.curve_is range.0 range.1
    ∙ ap (joint_welfare (class_orders c.args.self.now class.first_place)) net.0 ∙ joint_here c.args.self.now c.args.selection class.first_place in
    absurd (none_balances c.args.self.now c.args.selection class.first_place w
    (sym joint ∙ ap (option_map (λ (p : Point). p.welfare)) c.in_default.is) e)

pub bounds-pricing-class : goal.bounds-pricing-class
bounds-pricing-class g c =
    (own_class _ _ _ _ _ c.deref-class-items.result.now c.loop-class.class-index nothing c.self.invariant
    c.deref-class-items.ensures.value c.loop-class-test.true).place.below

pub value-requires-clause-line : goal.value-requires-clause-line
value-requires-clause-line g c =
    let are = subst (λ (p : ProblemState). AreClassCurves p c.self.inside.curves c.self.inside.classes.items c.self.inside.values
    c.self.inside.families.items) c.self.view_is c.self.invariant in
    let own = own_class c.args.self.now _ _ _ _ c.deref-class-items.result.now c.loop-class.class-index nothing are
    c.deref-class-items.ensures.value c.loop-class-test.true in
    (c.requires.by_lines.lines_are _ own.place.inside own.place.first).small

pub overflow_sub-total : goal.overflow_sub-total
overflow_sub-total g c =
    let are = subst (λ (p : ProblemState). AreClassCurves p c.self.inside.curves c.self.inside.classes.items c.self.inside.values
    c.self.inside.families.items) c.self.view_is c.self.invariant in
    let j = c.loop-class.class-index in
    let class = get_or c.deref-class-items.result.now j nothing in
    let own = own_class c.args.self.now _ _ _ _ c.deref-class-items.result.now j nothing are c.deref-class-items.ensures.value
    c.loop-class-test.true in
    let net = net_read c.args.self.now c.args.selection class.first_place c.acceptance_weights-counts.result class.nets c.weighted_sum.result c.from-net.result
    are.few_blocks own.is.nets_are own.small.long c.acceptance_weights-counts.ensures.counts c.weighted_sum.ensures.value c.weighted_sum.ensures.size
    c.from-net.ensures in
    let value = c.value.ensures ∙ ap (line_value (line_in c.args.pricing.now.lines class.first_place)) net.0 in
    let size = subst (IsWithin greatest_line_value) (sym value)
    (lined_within c.args.self.now c.args.pricing.now c.args.selection j class.first_place are.blocks_are are.few_blocks own.place.place c.requires.by_lines) in
    let small = c.in-Some.ensures.small in let a = small.welfare_at_least in let b = small.welfare_at_most in
    let d = size.at_least in let e = size.at_most in
    let line = to_z-of_z w64 c.value.result (omega (arith, ints, d, e)) in
    let worth = to_z-of_z w64 c.in-Some.point.welfare (omega (arith, ints, a, b)) in
    omega (arith, ints, line, worth, a, b, d, e)

pub overflow_sub-total-in-loop-class : goal.overflow_sub-total-in-loop-class
overflow_sub-total-in-loop-class g c =
    let are = subst (λ (p : ProblemState). AreClassCurves p c.self.inside.curves c.self.inside.classes.items c.self.inside.values
    c.self.inside.families.items) c.self.view_is c.self.invariant in
    let j = c.loop-class.class-index in
    let class = get_or c.deref-class-items.result.now j nothing in
    let own = own_class c.args.self.now _ _ _ _ c.deref-class-items.result.now j nothing are c.deref-class-items.ensures.value
    c.loop-class-test.true in
    let net = net_read c.args.self.now c.args.selection class.first_place c.acceptance_weights-counts.result class.nets c.weighted_sum.result c.from-net.result
    are.few_blocks own.is.nets_are own.small.long c.acceptance_weights-counts.ensures.counts c.weighted_sum.ensures.value c.weighted_sum.ensures.size
    c.from-net.ensures in
    let range = range_read c.args.self.now c.args.selection class.first_place _ net.0 in
    let joint = c.in-Some.ensures.welfare _ _ _ own.is.curve_is range.0 range.1
    ∙ ap (joint_welfare (class_orders c.args.self.now class.first_place)) net.0 ∙ joint_here c.args.self.now c.args.selection class.first_place in
    let line = c.value.ensures ∙ ap (line_value (line_in c.args.pricing.now.lines class.first_place)) net.0 in
    let lowered = one_lowered c.args.self.now c.args.pricing.now c.args.selection j class.first_place (to_z w64 c.loop-class.total-bits) c.value.result
    c.in-Some.point.welfare are.few_periods are.blocks_are are.few_blocks own.place.place c.requires.by_lines (sym joint)
    (record { at_least = c.in-Some.ensures.small.welfare_at_least; at_most = c.in-Some.ensures.small.welfare_at_most }) line
    c.loop-class.invariant.lowered in
    lowered.0

pub returns-then-total-least-clause-none : goal.returns-then-total-least-clause-none
returns-then-total-least-clause-none g c none w e =
    let are = subst (λ (p : ProblemState). AreClassCurves p c.self.inside.curves c.self.inside.classes.items c.self.inside.values
    c.self.inside.families.items) c.self.view_is c.self.invariant in
    let j = c.loop-class.class-index in
    let class = get_or c.deref-class-items.result.now j nothing in
    let own = own_class c.args.self.now _ _ _ _ c.deref-class-items.result.now j nothing are c.deref-class-items.ensures.value
    c.loop-class-test.true in
    let net = net_read c.args.self.now c.args.selection class.first_place c.acceptance_weights-counts.result class.nets c.weighted_sum.result c.from-net.result
    are.few_blocks own.is.nets_are own.small.long c.acceptance_weights-counts.ensures.counts c.weighted_sum.ensures.value c.weighted_sum.ensures.size
    c.from-net.ensures in
    let range = range_read c.args.self.now c.args.selection class.first_place _ net.0 in
    let joint = c.in-Some.ensures.welfare _ _ _ own.is.curve_is range.0 range.1
    ∙ ap (joint_welfare (class_orders c.args.self.now class.first_place)) net.0 ∙ joint_here c.args.self.now c.args.selection class.first_place in
    let line = c.value.ensures ∙ ap (line_value (line_in c.args.pricing.now.lines class.first_place)) net.0 in
    let lowered = one_lowered c.args.self.now c.args.pricing.now c.args.selection j class.first_place (to_z w64 c.loop-class.total-bits) c.value.result
    c.in-Some.point.welfare are.few_periods are.blocks_are are.few_blocks own.place.place c.requires.by_lines (sym joint)
    (record { at_least = c.in-Some.ensures.small.welfare_at_least; at_most = c.in-Some.ensures.small.welfare_at_most }) line
    c.loop-class.invariant.lowered in
    let most = most_lowered c.args.self.now c.args.pricing.now c.args.selection (j + 1) _ w c.requires.by_lines lowered.1 e in
    let less = c.if-total-least.true in
    let least : to_z w64 (of_z w64 c.args.least) ≡ c.args.least = search rules in
    omega (arith, ints, most, less, least)

pub bounds-prices-class : goal.bounds-prices-class
bounds-prices-class g c =
    (own_class _ _ _ _ _ c.deref-class-items.result.now c.loop-class.class-index nothing c.self.invariant c.deref-class-items.ensures.value
    c.loop-class-test.true).place.below

pub loop-class-preserved : goal.loop-class-preserved
loop-class-preserved g c =
    let are = subst (λ (p : ProblemState). AreClassCurves p c.self.inside.curves c.self.inside.classes.items c.self.inside.values
    c.self.inside.families.items) c.self.view_is c.self.invariant in
    let j = c.loop-class.class-index in
    let class = get_or c.deref-class-items.result.now j nothing in
    let own = own_class c.args.self.now _ _ _ _ c.deref-class-items.result.now j nothing are c.deref-class-items.ensures.value
    c.loop-class-test.true in
    let net = net_read c.args.self.now c.args.selection class.first_place c.acceptance_weights-counts.result class.nets c.weighted_sum.result c.from-net.result
    are.few_blocks own.is.nets_are own.small.long c.acceptance_weights-counts.ensures.counts c.weighted_sum.ensures.value c.weighted_sum.ensures.size
    c.from-net.ensures in
    let range = range_read c.args.self.now c.args.selection class.first_place _ net.0 in
    let joint = c.in-Some.ensures.welfare _ _ _ own.is.curve_is range.0 range.1
    ∙ ap (joint_welfare (class_orders c.args.self.now class.first_place)) net.0 ∙ joint_here c.args.self.now c.args.selection class.first_place in
    let line = c.value.ensures ∙ ap (line_value (line_in c.args.pricing.now.lines class.first_place)) net.0 in
    let lowered = one_lowered c.args.self.now c.args.pricing.now c.args.selection j class.first_place (to_z w64 c.loop-class.total-bits) c.value.result
    c.in-Some.point.welfare are.few_periods are.blocks_are are.few_blocks own.place.place c.requires.by_lines (sym joint)
    (record { at_least = c.in-Some.ensures.small.welfare_at_least; at_most = c.in-Some.ensures.small.welfare_at_most }) line
    c.loop-class.invariant.lowered in
    let price = c.in-Some.point.price in
    let small : IsWithin (last_period * greatest_price) price =
    record { at_least = c.in-Some.ensures.small.price_at_least; at_most = c.in-Some.ensures.small.price_at_most } in
    record {
      lowered = lowered.1;
      priced = subst (λ (p : ℤ). ArePricedSoFar c.args.self.now c.args.selection (j + 1) (slice_set c.loop-class.prices.prices class.first_place p))
          (sym (price_fits price small))
          (price_more c.args.self.now c.args.selection j class.first_place price c.loop-class.prices.prices own.place
          (record {
            small = small;
            joint = subst (λ (z : ℤ). IsJointPrice (class_orders c.args.self.now class.first_place) z price) net.0
                (c.in-Some.ensures.price _ _ _ own.is.curve_is);
          }) c.loop-class.invariant.priced);
    }

pub returns-then-total-least-2-clause-none : goal.returns-then-total-least-2-clause-none
returns-then-total-least-2-clause-none g c none w e =
    let most = most_lowered c.args.self.now c.args.pricing.now c.args.selection c.loop-class.class-index _ w c.requires.by_lines
    c.loop-class.invariant.lowered e in
    let less = c.if-total-least-2.true in
    let least : to_z w64 (of_z w64 c.args.least) ≡ c.args.least = search rules in
    omega (arith, ints, most, less, least)

pub returns-else-total-least-2-clause-some : goal.returns-else-total-least-2-clause-some
returns-else-total-least-2-clause-some g c =
    let are = subst (λ (p : ProblemState). AreClassCurves p c.self.inside.curves c.self.inside.classes.items c.self.inside.values
    c.self.inside.families.items) c.self.view_is c.self.invariant in
    let many = as_many c.args.self.now c.self.inside.curves c.self.inside.classes.items are.classes_are in
    let long = ap (λ (xs : List Class). length xs) c.deref-class-items.ensures.value in
    let past = c.loop-class-test.false in let more = c.if-total-least-2.false in
    let least : to_z w64 (of_z w64 c.args.least) ≡ c.args.least = search rules in (
      all_lowered c.args.self.now c.args.pricing.now.lines c.args.selection c.loop-class.class-index (to_z w64 c.loop-class.total-bits)
          (omega (arith, many, long, past)) c.loop-class.invariant.lowered,
      omega (arith, ints, more, least),
    )

pub returns-else-total-least-2-clause-prices : goal.returns-else-total-least-2-clause-prices
returns-else-total-least-2-clause-prices g c =
    let are = subst (λ (p : ProblemState). AreClassCurves p c.self.inside.curves c.self.inside.classes.items c.self.inside.values
    c.self.inside.families.items) c.self.view_is c.self.invariant in
    let many = as_many c.args.self.now c.self.inside.curves c.self.inside.classes.items are.classes_are in
    let long = ap (λ (xs : List Class). length xs) c.deref-class-items.ensures.value in
    let past = c.loop-class-test.false in
    all_priced c.args.self.now c.args.selection c.loop-class.class-index c.loop-class.prices.prices (omega (arith, many, long, past))
    c.loop-class.invariant.priced
