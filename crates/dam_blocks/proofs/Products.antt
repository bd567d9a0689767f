-- How large a difference of two prices times a volume is.
use Rattle.dam_blocks.proofs.Common.{ℕ, suc, ◌*◌, ◌≤◌, ℤ, pos, negsuc, neg_ℤ, ◌*ℤ◌, ◌≤ℤ◌, arith, ints, greatest_volume, IsWithin, greatest_gain}
use Rattle.std.proofs.Math.Nat.{mul-le-mul}
use Rattle.dam_hour.specs.Limits.{price_span}

pub product_within : (d : ℤ) (x : ℕ) → neg_ℤ (pos price_span) ≤ℤ d → d ≤ℤ pos price_span → x ≤ greatest_volume
    → IsWithin greatest_gain (d *ℤ pos x)
product_within (pos n) x low high h =
    let m : n * x ≤ price_span * greatest_volume =
    mul-le-mul {n₁ = n} {m₁ = x} {n₂ = price_span} {m₂ = greatest_volume} (omega (arith, ints, high)) h in
    record { at_least = omega (arith, ints, m); at_most = omega (arith, ints, m) }
product_within (negsuc n) x low high h =
    let m : suc n * x ≤ price_span * greatest_volume =
    mul-le-mul {n₁ = suc n} {m₁ = x} {n₂ = price_span} {m₂ = greatest_volume} (omega (arith, ints, low)) h in
    record { at_least = omega (arith, ints, m); at_most = omega (arith, ints, m) }
