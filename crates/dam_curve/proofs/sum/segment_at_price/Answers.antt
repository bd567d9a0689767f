-- The numbers of a segment fit their types.
use Rattle.std.proofs.Common.{◌≡◌, ℤ, pos, ◌-ℤ◌, ◌*ℤ◌, ◌*◌, ℕ, ap, ap₂, to_z, of_z, w64, rules, arith}
use Rattle.std.proofs.lemmas.Int.{ints}
use Rattle.dam_book.specs.Limits.{greatest_volume}
use Rattle.dam_hour.specs.Limits.{most_steps, price_span}
use Rattle.dam_curve.specs.Supply.{height_of}
use Rattle.dam_curve.proofs.ListsOfSegments.{same_segment}
use Rattle.dam_curve.proofs.PeriodSegments.{times_small}
use Rattle.dam_curve.proofs.sum.segment_at_price.Goals as goal

pub overflow_mul-result : goal.overflow_mul-result
overflow_mul-result c =
    let volume = c.requires.volume in let before = c.requires.before in
    let high : to_z w64 (of_z w64 c.from.result) ≡ pos c.cents_above_lowest.result = search rules in
    let most : to_z w64 (of_z w64 (to_z w64 c.args.demand.volume -ℤ to_z w64 c.args.before)) ≡ pos c.args.demand.volume -ℤ pos c.args.before
    = omega (arith, ints, volume, before) in
    let t = times_small c.cents_above_lowest.result price_span (most_steps * greatest_volume) (pos c.args.demand.volume -ℤ pos c.args.before)
    c.cents_above_lowest.ensures.small (omega (arith, ints, volume, before)) (omega (arith, ints, volume, before)) in
    let same = ap₂ (λ (x y : ℤ). x *ℤ y) high most in
    omega (arith, ints, same, t.0, t.1)

pub overflow_sub-result-2 : goal.overflow_sub-result-2
overflow_sub-result-2 c =
    let volume = c.requires.volume in let worth = c.requires.worth in let before = c.requires.before in let cost = c.requires.cost in
    let small = c.cents_above_lowest.ensures.small in
    let high : to_z w64 (of_z w64 c.from.result) ≡ pos c.cents_above_lowest.result = search rules in
    let most : to_z w64 (of_z w64 (to_z w64 c.args.demand.volume -ℤ to_z w64 c.args.before)) ≡ pos c.args.demand.volume -ℤ pos c.args.before
    = omega (arith, ints, volume, before) in
    let t = times_small c.cents_above_lowest.result price_span (most_steps * greatest_volume) (pos c.args.demand.volume -ℤ pos c.args.before) small
    (omega (arith, ints, volume, before)) (omega (arith, ints, volume, before)) in
    let same = ap₂ (λ (x y : ℤ). x *ℤ y) high most in
    omega (arith, ints, same, t.0, t.1, worth, cost)

pub returns : goal.returns
returns c =
    let volume = c.requires.volume in let worth = c.requires.worth in let before = c.requires.before in let cost = c.requires.cost in
    let small = c.cents_above_lowest.ensures.small in let range = c.get.ensures.range in
    let low = range.at_least in let top = range.at_most in
    let high : to_z w64 (of_z w64 c.from.result) ≡ pos (height_of c.args.price) = search rules in
    let most : to_z w64 (of_z w64 (to_z w64 c.args.demand.volume -ℤ to_z w64 c.args.before)) ≡ pos c.args.demand.volume -ℤ pos c.args.before
    = omega (arith, ints, volume, before) in
    let t = times_small c.cents_above_lowest.result price_span (most_steps * greatest_volume) (pos c.args.demand.volume -ℤ pos c.args.before) small
    (omega (arith, ints, volume, before)) (omega (arith, ints, volume, before)) in
    let own = ap (λ (n : ℕ). pos n *ℤ (pos c.args.demand.volume -ℤ pos c.args.before)) c.cents_above_lowest.ensures.value in
    let same = ap₂ (λ (x y : ℤ). x *ℤ y) high most in
    same_segment _ _ _ _ _ _ _ _ (omega (arith, ints, volume, before)) (search rules) (search rules)
    (omega (arith, ints, same, t.0, t.1, own, worth, cost))
