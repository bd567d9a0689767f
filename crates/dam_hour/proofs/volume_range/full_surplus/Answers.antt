-- The gains of the buyers and the sellers fit, and their sum is the surplus.
use Rattle.dam_hour.proofs.Common.{◌≡◌, ℕ, ◌*◌, ◌≤◌, ℤ, pos, neg_ℤ, ◌-ℤ◌, ◌≤ℤ◌, ap₂, ◌∙◌, refl, arith, ints, w64, to_z, of_z, greatest_volume, most_steps}
use Rattle.dam_hour.proofs.Common.{price_span, greatest_price}
use Rattle.std.proofs.Common.{nat_abs}
use Rattle.dam_hour.proofs.Ladders.{full_gain}
use Rattle.dam_hour.proofs.volume_range.full_surplus.Goals as goal

-- no greater than a price times the volume of a side can be
abbrev IsSmall : ℤ → Type 0
IsSmall z =
    (neg_ℤ (pos (greatest_price * (most_steps * greatest_volume))) ≤ℤ z) × (z ≤ℤ pos (greatest_price * (most_steps * greatest_volume)))

-- a difference of two values that is a gain fits, and is read as it is
difference : (a b : ℤ) (g : ℕ) → a -ℤ b ≡ pos g → g ≤ most_steps * (price_span * greatest_volume)
    → IsSmall a
    → nat_abs (to_z w64 (of_z w64 (to_z w64 (of_z w64 a) -ℤ to_z w64 (of_z w64 b)))) ≡ g
difference a b g e small within = omega (arith, ints, e, small, within.0, within.1)

difference_from : (a b : ℤ) (g : ℕ) → a -ℤ b ≡ pos g → g ≤ most_steps * (price_span * greatest_volume)
    → IsSmall b
    → nat_abs (to_z w64 (of_z w64 (to_z w64 (of_z w64 a) -ℤ to_z w64 (of_z w64 b)))) ≡ g
difference_from a b g e small within = omega (arith, ints, e, small, within.0, within.1)

pub returns-clause-value : goal.returns-clause-value
returns-clause-value g c =
    let at = c.value_at.ensures in let at' = c.value_at-2.ensures in
    let own = c.better_sums-buys.ensures.gain in let own' = c.better_sums-sells.ensures.gain in
    let buys = difference_from c.better_sums-buys.result.value c.value_at.result _ (ap₂ (λ (a b : ℤ). a -ℤ b) refl at.value
    ∙ own) c.better_sums-buys.ensures.gain_small (at.at_least, at.at_most) in
    let sells = difference c.value_at-2.result c.better_sums-sells.result.value _ (let is = at'.value in
    omega (arith, ints, is, own')) c.better_sums-sells.ensures.gain_small (at'.at_least, at'.at_most) in
    let whole = full_gain c.args.price c.args.hour.now in
    omega (arith, buys, sells, whole)

pub overflow_add-result : goal.overflow_add-result
overflow_add-result g c =
    let value = returns-clause-value g c in
    let whole = full_gain c.args.price c.args.hour.now in
    let small = c.better_sums-buys.ensures.gain_small in let small' = c.better_sums-sells.ensures.gain_small in
    omega (arith, value, whole, small, small')

pub returns-clause-small : goal.returns-clause-small
returns-clause-small g c =
    let value = returns-clause-value g c in
    let whole = full_gain c.args.price c.args.hour.now in
    let small = c.better_sums-buys.ensures.gain_small in let small' = c.better_sums-sells.ensures.gain_small in
    omega (arith, value, whole, small, small')
