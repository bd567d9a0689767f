-- A line more, and all of them.
use Rattle.dam_bound.proofs.Common.{◌≡◌, ◌+◌, ℤ, [], List, length, get_or, ap, subst, rules, arith, most_blocks, ProblemState, day_value, AreClassCurves}
use Rattle.dam_bound.proofs.Common.{at_places, Class, AreRaised}
use Rattle.std.proofs.Common.{pos}
use Rattle.dam_bound.proofs.LineByLine.{no_line, line_more, gains_within, base_added, all_lines, own_class, price_narrow}
use Rattle.dam_bound.proofs.class_curves.ClassCurves.write_pricing.Goals as goal

abbrev nothing : Class
nothing = record {
  first_place = 0;
  curve = record { first = 0; count = 0; least = pos 0; most = pos 0; hints = record { first = 0; shift = 0 } };
  nets = [];
}

pub loop-class-init : goal.loop-class-init
loop-class-init g c =
    no_line c.args.self.now _ _ (search rules)
    (subst (λ (p : ProblemState). c.self.inside.values ≡ at_places most_blocks (day_value p) p.blocks) c.self.view_is
    c.self.invariant.values_are)

pub weighted_sum-requires-clause-nets : goal.weighted_sum-requires-clause-nets
weighted_sum-requires-clause-nets g c =
    (own_class _ _ _ _ _ c.deref-class-items.result.now c.loop-class.class-index nothing c.self.invariant c.deref-class-items.ensures.value
    c.loop-class-test.true).small

pub line_near-line-requires : goal.line_near-line-requires
line_near-line-requires g c = (
  _,
  _,
  _,
  (own_class _ _ _ _ _ c.deref-class-items.result.now c.loop-class.class-index nothing c.self.invariant
      c.deref-class-items.ensures.value c.loop-class-test.true).is.curve_is,
)

pub overflow_add-pricing : goal.overflow_add-pricing
overflow_add-pricing g c =
    let own = own_class _ _ _ _ _ c.deref-class-items.result.now c.loop-class.class-index nothing c.self.invariant
    c.deref-class-items.ensures.value c.loop-class-test.true in
    (base_added c.args.self.now c.loop-class.class-index 0 c.loop-class.pricing.base c.loop-class.pricing.gains c.loop-class.pricing.lines
    c.line_near-line.result own.place.index c.loop-class.invariant c.line_near-line.ensures.small).0

pub bounds-pricing-class : goal.bounds-pricing-class
bounds-pricing-class g c =
    (own_class _ _ _ _ _ c.deref-class-items.result.now c.loop-class.class-index nothing c.self.invariant
    c.deref-class-items.ensures.value c.loop-class-test.true).place.below

pub add_priced_nets-requires-clause-gains : goal.add_priced_nets-requires-clause-gains
add_priced_nets-requires-clause-gains g c =
    let are = subst (λ (p : ProblemState). AreClassCurves p c.self.inside.curves c.self.inside.classes.items c.self.inside.values
    c.self.inside.families.items) c.self.view_is c.self.invariant in
    let own = own_class _ _ _ _ _ c.deref-class-items.result.now c.loop-class.class-index nothing c.self.invariant
    c.deref-class-items.ensures.value c.loop-class-test.true in
    let index = own.place.index in (
      c.loop-class.class-index + 1,
      omega (arith, index),
      gains_within c.args.self.now c.loop-class.class-index c.loop-class.pricing.base
          c.loop-class.pricing.gains c.loop-class.pricing.lines are.few_periods are.blocks_are c.loop-class.invariant,
    )

pub add_priced_nets-requires-clause-nets : goal.add_priced_nets-requires-clause-nets
add_priced_nets-requires-clause-nets g c =
    (own_class _ _ _ _ _ c.deref-class-items.result.now c.loop-class.class-index nothing c.self.invariant c.deref-class-items.ensures.value
    c.loop-class-test.true).small

pub loop-class-preserved : goal.loop-class-preserved
loop-class-preserved g c =
    let are = subst (λ (p : ProblemState). AreClassCurves p c.self.inside.curves c.self.inside.classes.items c.self.inside.values
    c.self.inside.families.items) c.self.view_is c.self.invariant in
    let j = c.loop-class.class-index in
    let class = get_or c.deref-class-items.result.now j nothing in
    let line = c.line_near-line.result in
    let own = own_class c.args.self.now _ _ _ _ c.deref-class-items.result.now j nothing are c.deref-class-items.ensures.value
    c.loop-class-test.true in
    line_more c.args.self.now j class line c.loop-class.pricing.base _ c.loop-class.pricing.gains c.add_priced_nets.new.gains c.loop-class.pricing.lines
    are.few_periods own.place own.is.nets_are
    (record { above = c.line_near-line.ensures.above _ _ _ own.is.curve_is; small = c.line_near-line.ensures.small })
    (base_added c.args.self.now j 0 c.loop-class.pricing.base c.loop-class.pricing.gains c.loop-class.pricing.lines line own.place.index
    c.loop-class.invariant c.line_near-line.ensures.small).1
    (subst (λ (p : ℤ). AreRaised p class.nets c.loop-class.pricing.gains c.add_priced_nets.new.gains) (price_narrow line c.line_near-line.ensures.small)
    c.add_priced_nets.ensures)
    c.loop-class.invariant

pub returns : goal.returns
returns g c =
    let are = subst (λ (p : ProblemState). AreClassCurves p c.self.inside.curves c.self.inside.classes.items c.self.inside.values
    c.self.inside.families.items) c.self.view_is c.self.invariant in
    let items = c.deref-class-items.ensures.value in
    let long = ap (λ (xs : List Class). length xs) items in
    let past = c.loop-class-test.false in let end = c.loop-class.auto.class-index-end in
    all_lines c.args.self.now c.self.inside.curves c.self.inside.classes.items c.loop-class.class-index c.loop-class.pricing
    are.few_periods are.few_blocks are.blocks_are are.classes_are (omega (arith, past, long)) (omega (arith, end, long)) c.loop-class.invariant
