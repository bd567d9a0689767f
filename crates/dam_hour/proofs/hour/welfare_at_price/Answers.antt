-- A price times a net volume fits.
use Rattle.dam_hour.proofs.Common.{◌≡◌, ◌<◌, ◌≤◌, ℤ, ◌*ℤ◌, ap₂, arith, ints, to_z-of_z, mul-le, w64, to_z, of_z, greatest_price, IsPrice}
use Rattle.std.proofs.Common.{◌^◌}
use Rattle.std.specs.Int.RustNames.{unsigned_abs}
use Rattle.std.proofs.lemmas.Int.{unsigned_abs-mul}
use Rattle.dam_hour.specs.Limits.{greatest_net}
use Rattle.dam_hour.specs.Execution.{IsNetVolume}
use Rattle.dam_hour.proofs.hour.welfare_at_price.Goals as goal

-- a price times a net volume is below 2 ^ 50
value_small : (p n : ℤ) → IsPrice p → IsNetVolume n → unsigned_abs (p *ℤ n) < 2 ^ 50
value_small p n r w =
    let a : unsigned_abs p ≤ greatest_price = omega (arith, ints, r.at_least, r.at_most) in
    let b : unsigned_abs n ≤ greatest_net = omega (arith, ints, w.at_least, w.at_most) in
    omega (arith, unsigned_abs-mul p n, mul-le (unsigned_abs p) (unsigned_abs n) greatest_price greatest_net a b)

pub returns : goal.returns
returns g c =
    let p : to_z w64 (of_z w64 c.from.result) ≡ c.args.price = omega (arith, ints) in
    let n : to_z w64 (of_z w64 c.args.net) ≡ c.args.net = to_z-of_z w64 c.args.net c.ranges.net in
    let product : to_z w64 (of_z w64 c.from.result) *ℤ to_z w64 (of_z w64 c.args.net) ≡ c.args.price *ℤ c.args.net =
    ap₂ (λ (a b : ℤ). a *ℤ b) p n in
    let small = value_small c.args.price c.args.net c.get.ensures.range c.requires.net in
    omega (arith, ints, product, small)
