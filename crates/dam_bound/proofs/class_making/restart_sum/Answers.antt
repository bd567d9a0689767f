-- A net volume more.
use Rattle.dam_bound.proofs.Common.{◌∙◌, ℤ, ◌+ℤ◌, get_or, ap, arith, int_max, int_min, ints, to_z-of_z, slice_get-get_or}
use Rattle.std.proofs.Common.{pos}
use mir.Syntax.{w32, w64}
use mir.Val.{to_z}
use Rattle.dam_bound.proofs.MakingClasses.{parts_of, range_more}
use Rattle.dam_bound.proofs.Sizes.{added_to}
use Rattle.dam_bound.proofs.class_making.restart_sum.Goals as goal

pub loop-net-preserved : goal.loop-net-preserved
loop-net-preserved g c =
    let i = c.loop-net.net-index in let nets = c.args.nets.now in let test = c.loop-net-test.true in let long = c.requires.long in
    let x = get_or nets i (pos 0) in
    let own = c.requires.each i (pos 0) (omega (arith, test, long)) in
    let l = own.at_least in let h = own.at_most in
    let narrow = to_z-of_z w32 x (omega (arith, ints, l, h)) in
    let p = parts_of x own in let pa = p.low_low in let pb = p.low_high in let pc = p.high_low in let pd = p.high_high in
    let min = c.min.ensures.value ∙ ap (λ (z : ℤ). int_min z (pos 0)) narrow in
    let max = c.max.ensures.value ∙ ap (λ (z : ℤ). int_max z (pos 0)) narrow in
    let low = c.from-least.ensures ∙ to_z-of_z w32 c.min.result (omega (arith, ints, min, pa, pb)) ∙ min in
    let high = c.from-most.ensures ∙ to_z-of_z w32 c.max.result (omega (arith, ints, max, pc, pd)) ∙ max in
    let so_far = c.loop-net.invariant in
    let ea = so_far.least_low in let eb = so_far.least_high in let ec = so_far.most_low in let ed = so_far.most_high in
    let least = (added_to (to_z w64 c.loop-net.least-bits) c.from-least.result (omega (arith, ints, low, pa, pb))
    (omega (arith, ints, low, pa, pb, ea, eb, test, long))).1 in
    let most = (added_to (to_z w64 c.loop-net.most-bits) c.from-most.result (omega (arith, ints, high, pc, pd))
    (omega (arith, ints, high, pc, pd, ec, ed, test, long))).1 in
    range_more nets i x (to_z w64 c.loop-net.least-bits) (to_z w64 c.loop-net.most-bits) _ _ (slice_get-get_or nets i (pos 0) (omega (arith, test, long))) own
    (least ∙ ap (λ (z : ℤ). to_z w64 c.loop-net.least-bits +ℤ z) low) (most ∙ ap (λ (z : ℤ). to_z w64 c.loop-net.most-bits +ℤ z) high) so_far
