-- The sign of a product in range.
use Rattle.dam_blocks.proofs.Common.{◌≡◌, ◌≤ℤ◌, ℤ, pos, neg_ℤ, ◌*ℤ◌, ◌-ℤ◌, w64, ap, ap₂, ◌∙◌, sym, subst, arith, ints, signed, Side, IsWithin, greatest_gain}
use Rattle.std.proofs.Common.{to_z, of_z, w32}
use Rattle.dam_blocks.proofs.Magnitudes.{signed_within}
use Rattle.dam_blocks.proofs.surpluses.surplus_at_price.Goals as goal

pub cents_times_volume-requires-clause-at_least : goal.cents_times_volume-requires-clause-at_least
cents_times_volume-requires-clause-at_least c =
    let low = c.difference.ensures.low in let high = c.difference.ensures.high in omega (arith, ints, low, high)

pub cents_times_volume-requires-clause-at_most : goal.cents_times_volume-requires-clause-at_most
cents_times_volume-requires-clause-at_most c =
    let low = c.difference.ensures.low in let high = c.difference.ensures.high in omega (arith, ints, low, high)

pub signed-requires-clause-at_least : goal.signed-requires-clause-at_least
signed-requires-clause-at_least c = let low = c.cents_times_volume.ensures.low in let high = c.cents_times_volume.ensures.high in omega (arith, ints, low, high)

pub signed-requires-clause-at_most : goal.signed-requires-clause-at_most
signed-requires-clause-at_most c = let low = c.cents_times_volume.ensures.low in let high = c.cents_times_volume.ensures.high in omega (arith, ints, low, high)

-- the product before its sign
amount : (c : goal.After-signed)
    → to_z w64 (of_z w64 c.cents_times_volume.result) ≡ ((c.args.order.now.price -ℤ c.args.price) *ℤ pos c.args.volume)
amount c =
    let low = c.cents_times_volume.ensures.low in let high = c.cents_times_volume.ensures.high in
    let whole : to_z w64 (of_z w64 c.cents_times_volume.result) ≡ c.cents_times_volume.result = omega (arith, ints, low, high) in
    let least = c.difference.ensures.low in let most = c.difference.ensures.high in
    let short : to_z w32 (of_z w32 c.difference.result) ≡ c.difference.result = omega (arith, ints, least, most) in
    whole ∙ c.cents_times_volume.ensures.value
    ∙ ap (λ (d : ℤ). d *ℤ pos c.args.volume)
    (short ∙ c.difference.ensures.value ∙ ap (λ (p : ℤ). p -ℤ c.args.price) c.price.ensures.value)

within : (c : goal.After-signed) → IsWithin greatest_gain c.signed.result
within c =
    let low = c.cents_times_volume.ensures.low in let high = c.cents_times_volume.ensures.high in
    let least : neg_ℤ (pos greatest_gain) ≤ℤ to_z w64 (of_z w64 c.cents_times_volume.result) = omega (arith, ints, low, high) in
    let most : to_z w64 (of_z w64 c.cents_times_volume.result) ≤ℤ pos greatest_gain = omega (arith, ints, low, high) in
    let w = signed_within c.side.result (to_z w64 (of_z w64 c.cents_times_volume.result)) greatest_gain least most in
    subst (λ (z : ℤ). IsWithin greatest_gain z) (sym c.signed.ensures) (record { at_least = w.0; at_most = w.1 })

kept : (c : goal.After-signed) → to_z w64 (of_z w64 c.signed.result) ≡ c.signed.result
kept c = let w = within c in let low = w.at_least in let high = w.at_most in omega (arith, ints, low, high)

pub returns-clause-value : goal.returns-clause-value
returns-clause-value c = kept c ∙ c.signed.ensures ∙ ap₂ (λ (s : Side) (z : ℤ). signed s z) c.side.ensures (amount c)

pub returns-clause-size : goal.returns-clause-size
returns-clause-size c = subst (λ (z : ℤ). IsWithin greatest_gain z) (sym (kept c)) (within c)
