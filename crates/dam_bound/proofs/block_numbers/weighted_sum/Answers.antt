-- A place more, and all of them.
use Rattle.dam_bound.proofs.Common.{◌≡◌, suc, ◌+◌, ℕ, drop, get_or, ap, arith, ints, weighted_sum}
use Rattle.std.proofs.Common.{pos}
use mir.Syntax.{w32}
use mir.Val.{to_z}
use Rattle.dam_bound.proofs.PlaceSums.{weighted_from, weight_added}
use Rattle.dam_bound.proofs.block_numbers.weighted_sum.Goals as goal

pub overflow_add-total : goal.overflow_add-total
overflow_add-total c =
    let i = c.loop-place.place in let test = c.loop-place-test.true in
    (weight_added (to_z w32 c.loop-place.total-bits) (get_or c.args.weights.now i (pos 0)) (get_or c.args.nets.now i (pos 0)) i test
    c.loop-place.invariant.size (c.requires.weights.at_least i (pos 0) test) (c.requires.weights.at_most i (pos 0) test)
    (c.requires.nets.each i (pos 0) test)).0

pub loop-place-preserved : goal.loop-place-preserved
loop-place-preserved c =
    let i = c.loop-place.place in let test = c.loop-place-test.true in
    let more = weight_added (to_z w32 c.loop-place.total-bits) (get_or c.args.weights.now i (pos 0)) (get_or c.args.nets.now i (pos 0)) i test
    c.loop-place.invariant.size (c.requires.weights.at_least i (pos 0) test) (c.requires.weights.at_most i (pos 0) test)
    (c.requires.nets.each i (pos 0) test) in
    let long = c.requires.weights.long in let as_long = c.requires.nets.long in
    let step = weighted_from c.args.weights.now c.args.nets.now i (pos 0) (pos 0) (omega (arith, test, long)) (omega (arith, test, as_long)) in
    let number : suc i ≡ i + 1 = omega arith in
    let next = ap (λ (n : ℕ). weighted_sum (drop n c.args.weights.now) (drop n c.args.nets.now)) number in
    let so_far = c.loop-place.invariant.so_far in let is = more.1 in
    let low = more.2.at_least in let high = more.2.at_most in
    record {
      size = record { at_least = omega (arith, ints, low, is); at_most = omega (arith, ints, high, is) };
      so_far = omega (arith, ints, so_far, step, next, is);
    }
