-- The block alone, a member more, and all of them.
use Rattle.dam_bound.proofs.Common.{◌≡◌, ◌<◌, ℤ, ◌+ℤ◌, ap, ◌∙◌, length, refl, sym, subst, rules, arith, ints, to_z-of_z, drop_all, ProblemState, AreClassCurves}
use Rattle.dam_bound.proofs.Common.{IsFamily}
use Rattle.std.proofs.Common.{to_z, of_z, w64}
use Rattle.dam_bound.proofs.ClassPricing.{IsFamilySum, own_sum, member_sum, whole_sum, lone_sum}
use Rattle.dam_bound.proofs.Members.{family_read}
use Rattle.dam_bound.proofs.class_curves.ClassCurves.family_gain.Goals as goal

pub returns-in_default : goal.returns-in_default
returns-in_default g c day priced =
    let are = subst (λ (p : ProblemState). AreClassCurves p c.self.inside.curves c.self.inside.classes.items c.self.inside.values
    c.self.inside.families.items) c.self.view_is c.self.invariant in
    let blocks = c.args.self.now.blocks in
    let family = family_read blocks c.self.inside.families.items c.self.inside.families.items c.args.place c.index.result.now refl
    are.families_are c.requires.place c.index.ensures in
    let held : to_z w64 (of_z w64 c.gain_at-own.result) ≡ c.gain_at-own.result = search rules in
    let begun = subst (IsFamilySum c.args.self.now c.args.selection c.args.place 0) (sym held)
    (own_sum c.args.self.now c.args.selection c.args.place c.gain_at-own.result c.gain_at-own.ensures.size
    (λ day priced. c.gain_at-own.ensures.value c.args.selection day c.requires.prices priced)) in
    lone_sum c.accepted_descendants_descend.ensures c.args.self.now c.args.selection c.args.place _ day
    (subst (IsFamily blocks c.args.place) c.in_default.is family) priced begun

pub loop-at-init : goal.loop-at-init
loop-at-init g c =
    let held : to_z w64 (of_z w64 c.gain_at-own.result) ≡ c.gain_at-own.result = search rules in
    let begun = subst (IsFamilySum c.args.self.now c.args.selection c.args.place 0) (sym held)
    (own_sum c.args.self.now c.args.selection c.args.place c.gain_at-own.result c.gain_at-own.ensures.size
    (λ day priced. c.gain_at-own.ensures.value c.args.selection day c.requires.prices priced)) in
    begun

pub counted_gain-total-requires-clause-place : goal.counted_gain-total-requires-clause-place
counted_gain-total-requires-clause-place g c =
    let are = subst (λ (p : ProblemState). AreClassCurves p c.self.inside.curves c.self.inside.classes.items c.self.inside.values
    c.self.inside.families.items) c.self.view_is c.self.invariant in
    let blocks = c.args.self.now.blocks in
    let many = are.families_are.as_many in let end = c.len-at-end.ensures in let test = c.loop-at-test.true in
    let inside : c.loop-at.at < length blocks = omega (arith, many, end, test) in
    inside

pub overflow_add-total : goal.overflow_add-total
overflow_add-total g c =
    let are = subst (λ (p : ProblemState). AreClassCurves p c.self.inside.curves c.self.inside.classes.items c.self.inside.values
    c.self.inside.families.items) c.self.view_is c.self.invariant in
    let blocks = c.args.self.now.blocks in
    let many = are.families_are.as_many in let end = c.len-at-end.ensures in let test = c.loop-at-test.true in
    let inside : c.loop-at.at < length blocks = omega (arith, many, end, test) in
    let few = are.few_blocks in
    let held : to_z w64 (of_z w64 c.counted_gain-total.result) ≡ c.counted_gain-total.result = search rules in
    let a = c.loop-at.invariant.small.at_least in let b = c.loop-at.invariant.small.at_most in
    let d = c.counted_gain-total.ensures.size.at_least in let e = c.counted_gain-total.ensures.size.at_most in
    omega (arith, ints, held, a, b, d, e, inside, few)

pub loop-at-preserved : goal.loop-at-preserved
loop-at-preserved g c =
    let are = subst (λ (p : ProblemState). AreClassCurves p c.self.inside.curves c.self.inside.classes.items c.self.inside.values
    c.self.inside.families.items) c.self.view_is c.self.invariant in
    let blocks = c.args.self.now.blocks in
    let family = family_read blocks c.self.inside.families.items c.self.inside.families.items c.args.place c.index.result.now refl
    are.families_are c.requires.place c.index.ensures in
    let many = are.families_are.as_many in let end = c.len-at-end.ensures in let test = c.loop-at-test.true in
    let inside : c.loop-at.at < length blocks = omega (arith, many, end, test) in
    let few = are.few_blocks in let part = c.counted_gain-total.result in let total = to_z w64 c.loop-at.total-bits in
    let held : to_z w64 (of_z w64 part) ≡ part = search rules in
    let small = c.loop-at.invariant.small in let a = small.at_least in let b = small.at_most in
    let size = c.counted_gain-total.ensures.size in let d = size.at_least in let e = size.at_most in
    let sum = ap (λ (z : ℤ). to_z w64 (of_z w64 (total +ℤ z))) held
    ∙ to_z-of_z w64 (total +ℤ part) (omega (arith, ints, a, b, d, e, inside, few)) in
    member_sum c.accepted_descendants_descend.ensures c.args.self.now c.args.selection c.in-Some.family c.args.place c.loop-at.at
    c.has.result c.has-in-loop-at.result (to_z w64 c.loop-at.total-bits) c.counted_gain-total.result _ inside
    (subst (IsFamily blocks c.args.place) c.in-Some.is family) c.has.ensures.value c.has-in-loop-at.ensures.value
    c.counted_gain-total.ensures.size (λ day priced. c.counted_gain-total.ensures.value c.args.selection day c.requires.prices priced)
    sum c.loop-at.invariant

pub returns : goal.returns
returns g c day priced =
    let are = subst (λ (p : ProblemState). AreClassCurves p c.self.inside.curves c.self.inside.classes.items c.self.inside.values
    c.self.inside.families.items) c.self.view_is c.self.invariant in
    let many = are.families_are.as_many in let end = c.len-at-end.ensures in let past = c.loop-at-test.false in
    whole_sum c.args.self.now c.args.selection c.args.place c.loop-at.at _ day
    (drop_all c.loop-at.at c.args.self.now.blocks (omega (arith, many, end, past))) priced c.loop-at.invariant
