-- A period more.
use Rattle.dam_bound.proofs.Common.{◌∙◌, ap, ℕ, arith, ints, value_in}
use mir.Syntax.{w64}
use mir.Val.{to_z}
use Rattle.dam_bound.proofs.MakingClasses.{value_more}
use Rattle.dam_bound.proofs.Sizes.{added_to}
use Rattle.dam_bound.proofs.class_making.value_in_first.Goals as goal

pub loop-at-preserved : goal.loop-at-preserved
loop-at-preserved c =
    let test = c.loop-at-test.true in let few = c.requires in
    let low = c.loop-at.invariant.size.at_least in let high = c.loop-at.invariant.size.at_most in
    let a = c.value_in-total.ensures.size.at_least in let b = c.value_in-total.ensures.size.at_most in
    let after = (added_to (to_z w64 c.loop-at.total-bits) c.value_in-total.result (omega (arith, ints, a, b))
    (omega (arith, ints, a, b, low, high, test, few))).1 in
    record {
      size = record { at_least = omega (arith, ints, after, a, low); at_most = omega (arith, ints, after, b, high) };
      so_far = value_more (λ t. value_in t c.args.order.now) c.args.count c.loop-at.at (to_z w64 c.loop-at.total-bits) c.value_in-total.result _ test
          (c.value_in-total.ensures.value ∙ ap (λ (t : ℕ). value_in t c.args.order.now) c.at.ensures) after c.loop-at.invariant.so_far;
    }
