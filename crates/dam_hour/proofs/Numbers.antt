-- Products of signed numbers, and a step's part by its margin.
use Rattle.dam_hour.proofs.Common.{◌≡◌, ℕ, zero, suc, ◌+◌, ◌*◌, ◌<◌, ◌≤◌, ℤ, pos, negsuc, neg_ℤ, ◌+ℤ◌, ◌-ℤ◌, ◌*ℤ◌, ◌≤ℤ◌, ◌<ℤ◌, ap, refl, arith, ints, up, down}
use Rattle.dam_hour.proofs.Common.{Side, Buy, Sell, signed, IsBetter, IsWorse, margin_of, above_zero}
use Rattle.std.proofs.Math.Nat.{mul-le-mul_left, eq_of_mul-eq-mul_left}

pub minus_times : (a b : ℤ) (x : ℕ) → (a -ℤ b) *ℤ pos x +ℤ b *ℤ pos x ≡ a *ℤ pos x
minus_times a b x =
    let e : up (a -ℤ b) + down a + up b ≡ down (a -ℤ b) + up a + down b = omega (arith, ints) in
    let m = ap (λ (n : ℕ). n * x) e in
    omega (arith, ints, m)

pub plus_times : (p : ℤ) (x y : ℕ) → p *ℤ pos (x + y) ≡ p *ℤ pos x +ℤ p *ℤ pos y
plus_times p x y = omega (arith, ints)

pub times_net : (p net : ℤ) (b s : ℕ) → pos s +ℤ net ≡ pos b → p *ℤ pos b ≡ p *ℤ pos s +ℤ p *ℤ net
times_net p net b s e =
    let k : s + up net ≡ b + down net = omega (arith, ints) in
    let m = ap (λ (n : ℕ). up p * n) k in
    let n = ap (λ (n : ℕ). down p * n) k in
    omega (arith, ints, m, n)

pub neg_times : (z : ℤ) (x : ℕ) → neg_ℤ (z *ℤ pos x) ≡ neg_ℤ z *ℤ pos x
neg_times z x =
    let e : up (neg_ℤ z) + up z ≡ down (neg_ℤ z) + down z = omega (arith, ints) in
    let m = ap (λ (n : ℕ). n * x) e in
    omega (arith, ints, m)

-- the sign goes into the product
pub signed_times : (side : Side) (z : ℤ) (x : ℕ) → signed side (z *ℤ pos x) ≡ signed side z *ℤ pos x
signed_times Buy z x = refl
signed_times Sell z x = neg_times z x

-- a step that has its whole volume if it is better and none if it is worse gains the most
pub full_or_none : (d : ℤ) (x q : ℕ) → (pos 0 <ℤ d → x ≡ q) → (d <ℤ pos 0 → x ≡ 0) → d *ℤ pos x ≡ pos (above_zero d * q)
full_or_none (pos zero) x q f g = omega (arith, ints)
full_or_none (pos (suc n)) x q f g = ap (λ (k : ℕ). pos (suc n * k)) (f (omega (arith, ints)))
full_or_none (negsuc n) x q f g = let e : x ≡ 0 = g (omega (arith, ints)) in omega (arith, ints, ap (λ (k : ℕ). suc n * k) e)

pub at_most_full : (d : ℤ) (x q : ℕ) → x ≤ q → (d *ℤ pos x) ≤ℤ pos (above_zero d * q)
at_most_full (pos n) x q h = omega (arith, ints, mul-le-mul_left n h)
at_most_full (negsuc n) x q h = omega (arith, ints)

-- and only that does
pub full_where_better : (d : ℤ) (x q : ℕ) → d *ℤ pos x ≡ pos (above_zero d * q) → pos 0 <ℤ d → x ≡ q
full_where_better (pos zero) x q e l = let no : 0 < 0 = omega (arith, ints) in omega (arith, no)
full_where_better (pos (suc n)) x q e l =
    let m : suc n * x ≡ suc n * q = omega (arith, ints) in eq_of_mul-eq-mul_left (suc n) (omega arith) x q m
full_where_better (negsuc n) x q e l = let no : 0 < 0 = omega (arith, ints) in omega (arith, no)

pub none_where_worse : (d : ℤ) (x q : ℕ) → d *ℤ pos x ≡ pos (above_zero d * q) → d <ℤ pos 0 → x ≡ 0
none_where_worse (pos n) x q e l = let no : 0 < 0 = omega (arith, ints) in omega (arith, no)
none_where_worse (negsuc n) x q e l =
    let m : suc n * x ≡ suc n * 0 = omega (arith, ints) in eq_of_mul-eq-mul_left (suc n) (omega arith) x 0 m

-- a limit is better than the price exactly if its margin is above 0, and worse if it is below
pub margin_better : (side : Side) (limit p : ℤ) → IsBetter side limit p → pos 0 <ℤ margin_of side limit p
margin_better Buy limit p h = omega (arith, ints)
margin_better Sell limit p h = omega (arith, ints)

pub margin_worse : (side : Side) (limit p : ℤ) → IsWorse side limit p → margin_of side limit p <ℤ pos 0
margin_worse Buy limit p h = omega (arith, ints)
margin_worse Sell limit p h = omega (arith, ints)

pub better_margin : (side : Side) (limit p : ℤ) → pos 0 <ℤ margin_of side limit p → IsBetter side limit p
better_margin Buy limit p h = omega (arith, ints)
better_margin Sell limit p h = omega (arith, ints)

pub worse_margin : (side : Side) (limit p : ℤ) → margin_of side limit p <ℤ pos 0 → IsWorse side limit p
worse_margin Buy limit p h = omega (arith, ints)
worse_margin Sell limit p h = omega (arith, ints)
