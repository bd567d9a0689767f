-- A place more, and all of them.
use Rattle.dam_bound.proofs.Common.{◌≡◌, suc, ◌+◌, ◌<◌, ℕ, ◌+ℤ◌, ℤ, Bool, drop, get_or, ap, ◌∙◌, sym, arith, ints, to_z-of_z, slice_get-get_or, int_max, SFits}
use Rattle.dam_bound.proofs.Common.{most_blocks, over_gains, greatest_priced_gain}
use Rattle.std.proofs.Common.{pos}
use Rattle.std.proofs.lemmas.List.Elements.{All-get_or}
use mir.Syntax.{w64}
use mir.Val.{to_z, of_z}
use Rattle.dam_bound.proofs.Accepted.{if_accepted}
use Rattle.dam_bound.proofs.PlaceSums.{gains_from, no_gains, open_from, positive_within}
use Rattle.dam_bound.proofs.Sizes.{added_to}
use Rattle.dam_bound.proofs.pricing.Pricing.bound.Goals as goal
use Rattle.dam_bound.proofs.pricing.Pricing.bound.Goals.{then-has, else-has}

-- a number added, as the code has it
added : (total x : ℤ) → SFits w64 x → SFits w64 (total +ℤ x) → to_z w64 (of_z w64 (total +ℤ to_z w64 (of_z w64 x))) ≡ total +ℤ x
added total x a b = (added_to total x a b).1

pub overflow_add-total : goal.overflow_add-total
overflow_add-total c =
    let own = c.requires.pricing.1.small_gains c.loop-place.place (pos 0) c.loop-place-test.true in
    let a = own.at_least in let b = own.at_most in let low = c.loop-place.invariant.size.at_least in let high = c.loop-place.invariant.size.at_most in
    let test = c.loop-place-test.true in
    (added_to _ (get_or c.args.self.now.gains c.loop-place.place (pos 0)) (omega (arith, ints, a, b)) (omega (arith, ints, a, b, low, high, test))).0

pub loop-place-preserved : goal.loop-place-preserved
loop-place-preserved c =
    let is = c.requires.pricing.1 in let i = c.loop-place.place in let gains = c.args.self.now.gains in
    let own = is.small_gains i (pos 0) c.loop-place-test.true in
    let a = own.at_least in let b = own.at_most in let low = c.loop-place.invariant.size.at_least in let high = c.loop-place.invariant.size.at_most in
    let test = c.loop-place-test.true in let many = is.many in let so_far = c.loop-place.invariant.so_far in
    let step = gains_from gains c.args.accepted i (pos 0) (omega (arith, test, many)) in
    let number : suc i ≡ i + 1 = omega arith in
    let next = ap (λ (n : ℕ). over_gains (drop n gains) (drop n c.args.accepted)) number in
    elim c.if-has.branch [
      | then-has w ↦
          (let here = ap (λ (t : Bool). if_accepted t (get_or gains i (pos 0))) (sym c.has.ensures.value ∙ w.if-has.true) in
          let total = w.total-is ∙ added _ (get_or gains i (pos 0)) (omega (arith, ints, a, b)) (omega (arith, ints, a, b, low, high, test)) in
          record {
            size = record { at_least = omega (arith, ints, low, a, total); at_most = omega (arith, ints, high, b, total) };
            so_far = omega (arith, ints, so_far, step, next, here, total);
          })
      | else-has w ↦
          (let here = ap (λ (t : Bool). if_accepted t (get_or gains i (pos 0))) (sym c.has.ensures.value ∙ w.if-has.false) in
          let total = w.total-is in
          record {
            size = record { at_least = omega (arith, ints, low, total); at_most = omega (arith, ints, high, total) };
            so_far = omega (arith, ints, so_far, step, next, here, total);
          })
    ]

pub loop-place-2-init : goal.loop-place-2-init
loop-place-2-init c =
    let low = c.loop-place.invariant.size.at_least in let high = c.loop-place.invariant.size.at_most in
    let place = c.loop-place.auto.place-end in let so_far = c.loop-place.invariant.so_far in
    let past = c.loop-place-test.false in let many = c.requires.pricing.1.many in
    let none = no_gains c.args.self.now.gains c.args.accepted c.loop-place.place (omega (arith, past, many)) in
    record {
      size = record { at_least = omega (arith, ints, low, place); at_most = omega (arith, ints, high, place) };
      so_far = omega (arith, ints, so_far, none);
    }

pub loop-place-2-preserved : goal.loop-place-2-preserved
loop-place-2-preserved c =
    let gains = c.args.self.now.gains in let j = c.loop-place-2.place-index in
    let p = get_or c.args.undecided.now j 0 in
    let from : c.from.result ≡ p = c.from.ensures in
    let inside : p < most_blocks = All-get_or (λ (place : ℕ). place < most_blocks) c.args.undecided.now j 0 c.loop-place-2-test.true c.requires.places in
    let own = c.requires.pricing.1.small_gains p (pos 0) inside in let a = own.at_least in let b = own.at_most in
    let low = c.loop-place-2.invariant.size.at_least in let high = c.loop-place-2.invariant.size.at_most in
    let test = c.loop-place-2-test.true in let few = c.requires.few in let so_far = c.loop-place-2.invariant.so_far in
    let step = open_from gains c.args.undecided.now j p (slice_get-get_or c.args.undecided.now j 0 test) in
    let narrow = to_z-of_z w64 (get_or gains p (pos 0)) (omega (arith, ints, a, b)) in
    let most : c.max-total.result ≡ int_max (get_or gains p (pos 0)) (pos 0) =
    c.max-total.ensures.value ∙ ap (λ (n : ℕ). int_max (to_z w64 (of_z w64 (get_or gains n (pos 0)))) (pos 0)) from
    ∙ ap (λ (z : ℤ). int_max z (pos 0)) narrow in
    let size = positive_within (get_or gains p (pos 0)) greatest_priced_gain own in
    let l = size.at_least in let h = size.at_most in
    let total = added (to_z w64 c.loop-place-2.total-bits) c.max-total.result (omega (arith, ints, most, l, h))
    (omega (arith, ints, low, high, most, l, h, test, few)) in
    record {
      size = record { at_least = omega (arith, ints, low, most, l, total); at_most = omega (arith, ints, high, most, h, total) };
      so_far = omega (arith, ints, so_far, step, most, total);
    }
