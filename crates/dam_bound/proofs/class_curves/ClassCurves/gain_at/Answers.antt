-- A class more, and all of them.
use Rattle.dam_bound.proofs.Common.{◌≡◌, ◌+◌, ◌<◌, ℤ, [], List, length, get_or, ap, ◌∙◌, refl, subst, arith, ints, to_z-of_z, most_blocks, greatest_volume}
use Rattle.dam_bound.proofs.Common.{IsWithin, ProblemState, AreClassCurves, Class}
use Rattle.std.proofs.Common.{pos, to_z, of_z, w32, w64}
use Rattle.dam_bound.proofs.ClassPlaces.{few_places}
use Rattle.dam_bound.proofs.ClassPricing.{first_gain, gain_next, gain_small, whole_gain}
use Rattle.dam_bound.proofs.LineByLine.{own_class, as_many}
use Rattle.dam_bound.proofs.LossPrices.{price_fits}
use Rattle.dam_bound.proofs.PlaceSums.{gain_added}
use Rattle.dam_bound.proofs.Rivalry.{value_held}
use Rattle.dam_bound.proofs.class_curves.ClassCurves.gain_at.Goals as goal

abbrev nothing : Class
nothing = record {
  first_place = 0;
  curve = record { first = 0; count = 0; least = pos 0; most = pos 0; hints = record { first = 0; shift = 0 } };
  nets = [];
}

net_narrow : (x : ℤ) → IsWithin greatest_volume x → to_z w32 (of_z w32 x) ≡ x
net_narrow x w = let l = w.at_least in let h = w.at_most in to_z-of_z w32 x (omega (arith, ints, l, h))

pub loop-class-init : goal.loop-class-init
loop-class-init g c =
    let are = subst (λ (p : ProblemState). AreClassCurves p c.self.inside.curves c.self.inside.classes.items c.self.inside.values
    c.self.inside.families.items) c.self.view_is c.self.invariant in
    let own = value_held c.args.self.now _ _ _ _ c.args.place are c.requires.place in
    first_gain c.args.self.now c.args.prices.now.prices c.self.inside.values c.args.place _ are.few_blocks are.values_are own.1 own.0

pub bounds-prices-class : goal.bounds-prices-class
bounds-prices-class g c =
    let are = subst (λ (p : ProblemState). AreClassCurves p c.self.inside.curves c.self.inside.classes.items c.self.inside.values
    c.self.inside.families.items) c.self.view_is c.self.invariant in
    let j = c.loop-class.class-index in
    let class = get_or c.deref-class-items.result.now j nothing in
    let own = own_class c.args.self.now _ _ _ _ c.deref-class-items.result.now j nothing are c.deref-class-items.ensures.value
    c.loop-class-test.true in
    own.place.below

pub overflow_add-gain : goal.overflow_add-gain
overflow_add-gain g c =
    let are = subst (λ (p : ProblemState). AreClassCurves p c.self.inside.curves c.self.inside.classes.items c.self.inside.values
    c.self.inside.families.items) c.self.view_is c.self.invariant in
    let j = c.loop-class.class-index in
    let class = get_or c.deref-class-items.result.now j nothing in
    let own = own_class c.args.self.now _ _ _ _ c.deref-class-items.result.now j nothing are c.deref-class-items.ensures.value
    c.loop-class-test.true in
    let few = are.few_blocks in let inside = c.requires.place in
    let below : c.args.place < most_blocks = omega (arith, few, inside) in
    let priced = c.requires.prices.1.each j class.first_place own.place.place in
    let price = get_or c.args.prices.now.prices class.first_place (pos 0) in
    let net = own.small.each c.args.place (pos 0) below in
    let index = own.place.index in
    let raised = gain_added (to_z w64 c.loop-class.gain-bits) c.from.result c.from-in-loop-class.result
    (get_or class.nets c.args.place (pos 0)) price (j + 1) (omega (arith, index)) c.loop-class.invariant.small net priced.small
    (c.from.ensures ∙ net_narrow _ net) (c.from-in-loop-class.ensures ∙ price_fits _ priced.small) in
    raised.0

pub loop-class-preserved : goal.loop-class-preserved
loop-class-preserved g c =
    let are = subst (λ (p : ProblemState). AreClassCurves p c.self.inside.curves c.self.inside.classes.items c.self.inside.values
    c.self.inside.families.items) c.self.view_is c.self.invariant in
    let j = c.loop-class.class-index in
    let class = get_or c.deref-class-items.result.now j nothing in
    let own = own_class c.args.self.now _ _ _ _ c.deref-class-items.result.now j nothing are c.deref-class-items.ensures.value
    c.loop-class-test.true in
    let few = are.few_blocks in let inside = c.requires.place in
    let below : c.args.place < most_blocks = omega (arith, few, inside) in
    let priced = c.requires.prices.1.each j class.first_place own.place.place in
    let price = get_or c.args.prices.now.prices class.first_place (pos 0) in
    let net = own.small.each c.args.place (pos 0) below in
    let index = own.place.index in
    let raised = gain_added (to_z w64 c.loop-class.gain-bits) c.from.result c.from-in-loop-class.result
    (get_or class.nets c.args.place (pos 0)) price (j + 1) (omega (arith, index)) c.loop-class.invariant.small net priced.small
    (c.from.ensures ∙ net_narrow _ net) (c.from-in-loop-class.ensures ∙ price_fits _ priced.small) in
    gain_next c.args.self.now c.args.prices.now.prices j class c.args.place (to_z w64 c.loop-class.gain-bits) _ price few own.place
    own.is.nets_are own.small below priced.small refl raised.1 c.loop-class.invariant

pub returns-clause-value : goal.returns-clause-value
returns-clause-value g c sel day priced are_day =
    let are = subst (λ (p : ProblemState). AreClassCurves p c.self.inside.curves c.self.inside.classes.items c.self.inside.values
    c.self.inside.families.items) c.self.view_is c.self.invariant in
    let long = ap (λ (xs : List Class). length xs) c.deref-class-items.ensures.value in
    let past = c.loop-class-test.false in
    let many = as_many c.args.self.now _ _ are.classes_are in
    whole_gain c.best_execution_is_unique.ensures.ends c.args.self.now sel c.args.prices.now.prices day c.loop-class.class-index c.args.place _
    c.requires.place (omega (arith, past, long, many)) priced are_day c.loop-class.invariant

pub returns-clause-size : goal.returns-clause-size
returns-clause-size g c =
    let are = subst (λ (p : ProblemState). AreClassCurves p c.self.inside.curves c.self.inside.classes.items c.self.inside.values
    c.self.inside.families.items) c.self.view_is c.self.invariant in
    let long = ap (λ (xs : List Class). length xs) c.deref-class-items.ensures.value in
    let end = c.loop-class.auto.class-index-end in
    let many = as_many c.args.self.now _ _ are.classes_are in
    let few = few_places c.args.self.now.blocks 0 (length c.args.self.now.hours) in let short = are.few_periods in
    gain_small c.args.self.now c.args.prices.now.prices c.loop-class.class-index c.args.place _
    (omega (arith, many, long, end, few, short)) c.loop-class.invariant
