-- The values of the two blocks, then a class more, and all of them.
use Rattle.dam_bound.proofs.Common.{◌*◌, [], List, length, get_or, ap, ap₂, ◌∙◌, subst, rules, arith, last_period, greatest_volume, greatest_value}
use Rattle.dam_bound.proofs.Common.{ProblemState, AreClassCurves, Class}
use Rattle.std.proofs.Common.{pos, to_z, of_z, w64}
use Rattle.dam_bound.specs.inside.Rivals.{weigh}
use Rattle.dam_bound.proofs.LineByLine.{own_class, as_many}
use Rattle.dam_bound.proofs.Rivalry.{no_class, class_more, all_classes, value_held, net_held, values_held, volume_held}
use Rattle.dam_bound.proofs.Members.{stands}
use Rattle.dam_bound.proofs.class_curves.ClassCurves.most_weighed_surplus.Goals as goal

abbrev nothing : Class
nothing = record {
  first_place = 0;
  curve = record { first = 0; count = 0; least = pos 0; most = pos 0; hints = record { first = 0; shift = 0 } };
  nets = [];
}

pub weigh-most-requires-clause-sell : goal.weigh-most-requires-clause-sell
weigh-most-requires-clause-sell g c =
    let are = subst (λ (p : ProblemState). AreClassCurves p c.self.inside.curves c.self.inside.classes.items c.self.inside.values
    c.self.inside.families.items) c.self.view_is c.self.invariant in
    (value_held c.args.self.now _ _ _ _ c.args.sell are c.requires.sell).0

pub weigh-most-requires-clause-buy : goal.weigh-most-requires-clause-buy
weigh-most-requires-clause-buy g c =
    let are = subst (λ (p : ProblemState). AreClassCurves p c.self.inside.curves c.self.inside.classes.items c.self.inside.values
    c.self.inside.families.items) c.self.view_is c.self.invariant in
    (value_held c.args.self.now _ _ _ _ c.args.buy are c.requires.buy).0

pub loop-class-init : goal.loop-class-init
loop-class-init g c =
    let are = subst (λ (p : ProblemState). AreClassCurves p c.self.inside.curves c.self.inside.classes.items c.self.inside.values
    c.self.inside.families.items) c.self.view_is c.self.invariant in
    let sell = value_held c.args.self.now _ _ _ _ c.args.sell are c.requires.sell in
    let buy = value_held c.args.self.now _ _ _ _ c.args.buy are c.requires.buy in
    no_class c.args.self.now c.args.sell c.args.buy c.args.weights c.self.inside.values (pos 0) (pos 0) _ are.few_blocks are.values_are
    (values_held c.weigh-most.result (c.weigh-most.ensures.size (last_period * greatest_value) sell.0 buy.0) ∙ c.weigh-most.ensures.value
    ∙ ap₂ (weigh c.args.weights) sell.1 buy.1)

pub weigh-volume-requires-clause-sell : goal.weigh-volume-requires-clause-sell
weigh-volume-requires-clause-sell g c =
    let are = subst (λ (p : ProblemState). AreClassCurves p c.self.inside.curves c.self.inside.classes.items c.self.inside.values
    c.self.inside.families.items) c.self.view_is c.self.invariant in
    let few = are.few_blocks in let inside = c.requires.sell in
    let own = own_class c.args.self.now _ _ _ _ c.deref-class-items.result.now c.loop-class.class-index nothing are
    c.deref-class-items.ensures.value c.loop-class-test.true in
    (net_held _ c.args.sell c.from.result own.small (omega (arith, few, inside)) c.from.ensures).1

pub weigh-volume-requires-clause-buy : goal.weigh-volume-requires-clause-buy
weigh-volume-requires-clause-buy g c =
    let are = subst (λ (p : ProblemState). AreClassCurves p c.self.inside.curves c.self.inside.classes.items c.self.inside.values
    c.self.inside.families.items) c.self.view_is c.self.invariant in
    let few = are.few_blocks in let inside = c.requires.buy in
    let own = own_class c.args.self.now _ _ _ _ c.deref-class-items.result.now c.loop-class.class-index nothing are
    c.deref-class-items.ensures.value c.loop-class-test.true in
    (net_held _ c.args.buy c.from-in-loop-class.result own.small (omega (arith, few, inside)) c.from-in-loop-class.ensures).1

pub price_range-range-requires : goal.price_range-range-requires
price_range-range-requires g c = (
  _,
  _,
  _,
  (own_class _ _ _ _ _ c.deref-class-items.result.now c.loop-class.class-index nothing c.self.invariant
      c.deref-class-items.ensures.value c.loop-class-test.true).is.curve_is,
)

pub greatest_product-requires-clause-volume : goal.greatest_product-requires-clause-volume
greatest_product-requires-clause-volume g c =
    let are = subst (λ (p : ProblemState). AreClassCurves p c.self.inside.curves c.self.inside.classes.items c.self.inside.values
    c.self.inside.families.items) c.self.view_is c.self.invariant in
    let few = are.few_blocks in let one = c.requires.sell in let two = c.requires.buy in
    let own = own_class c.args.self.now _ _ _ _ c.deref-class-items.result.now c.loop-class.class-index nothing are
    c.deref-class-items.ensures.value c.loop-class-test.true in
    let sell = net_held _ c.args.sell c.from.result own.small (omega (arith, few, one)) c.from.ensures in
    let buy = net_held _ c.args.buy c.from-in-loop-class.result own.small (omega (arith, few, two)) c.from-in-loop-class.ensures in
    (volume_held c.weigh-volume.result (c.weigh-volume.ensures.size greatest_volume sell.0 buy.0)).0

pub loop-class-preserved : goal.loop-class-preserved
loop-class-preserved g c =
    let are = subst (λ (p : ProblemState). AreClassCurves p c.self.inside.curves c.self.inside.classes.items c.self.inside.values
    c.self.inside.families.items) c.self.view_is c.self.invariant in
    let few = are.few_blocks in let one = c.requires.sell in let two = c.requires.buy in
    let j = c.loop-class.class-index in
    let class = get_or c.deref-class-items.result.now j nothing in
    let own = own_class c.args.self.now _ _ _ _ c.deref-class-items.result.now j nothing are c.deref-class-items.ensures.value
    c.loop-class-test.true in
    let sell = net_held class.nets c.args.sell c.from.result own.small (omega (arith, few, one)) c.from.ensures in
    let buy = net_held class.nets c.args.buy c.from-in-loop-class.result own.small (omega (arith, few, two)) c.from-in-loop-class.ensures in
    let volume = volume_held c.weigh-volume.result (c.weigh-volume.ensures.size greatest_volume sell.0 buy.0) in
    class_more c.args.self.now j class c.price_range-range.result c.args.sell c.args.buy c.args.weights (pos 0) (pos 0)
    (to_z w64 (of_z w64 c.weigh-volume.result)) c.greatest_product.result (to_z w64 c.loop-class.most-bits) _ few own.place own.is.nets_are
    (c.price_range-range.ensures.prices _ _ _ own.is.curve_is)
    (volume.1 ∙ c.weigh-volume.ensures.value ∙ ap₂ (weigh c.args.weights) sell.2 buy.2)
    c.greatest_product.ensures (search rules) c.loop-class.invariant

pub returns : goal.returns
returns g c =
    let are = subst (λ (p : ProblemState). AreClassCurves p c.self.inside.curves c.self.inside.classes.items c.self.inside.values
    c.self.inside.families.items) c.self.view_is c.self.invariant in
    let long = ap (λ (xs : List Class). length xs) c.deref-class-items.ensures.value in
    let past = c.loop-class-test.false in
    let many = as_many c.args.self.now _ _ are.classes_are in
    let sell = stands c.args.self.now.blocks c.args.sell c.requires.sell in
    let buy = stands c.args.self.now.blocks c.args.buy c.requires.buy in
    all_classes c.args.self.now c.loop-class.class-index c.args.sell c.args.buy c.args.weights _ (omega (arith, past, long, many))
    sell.0 buy.0 sell.1 buy.1 c.loop-class.invariant
