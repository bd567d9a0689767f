-- The bits of a selection's number are its acceptances.
use Rattle.std.proofs.Common.{◌≡◌, ℕ, zero, suc, ◌+◌, ◌/◌, ◌%◌, ◌^◌, ◌<◌, min, max, ◌==◌, Bool, true, false, not, List, ◌∷◌, length, replicate, slice_set}
use Rattle.std.proofs.Common.{ap, ap₂, ◌∙◌, sym, refl, inl, inr, arith}
use Rattle.std.specs.Int.{bit_at}
use Rattle.std.specs.Int.RustNames.{bit_and, bit_or, bit_xor}
use Rattle.std.specs.Int.Bits.{or_zero_r, xor_zero_r}
use Rattle.std.proofs.lemmas.Nat.{and_le_l, and_shr, or_lt, or_shr, xor_lt, xor_shr, pow_below}
use Rattle.std.proofs.lemmas.Nat.Bits.{bit_at_lowest, bit_at-suc, bit_at_and, bit_at_or, bit_at_xor}
use Rattle.std.proofs.lemmas.Bool.{eq-eqb, eqb-true, cases_eq}
use Rattle.dam_blocks.specs.Selection.{accepts, Meets}
use Rattle.dam_blocks.specs.inside.Bits.{flags}

pub length-flags : (n bits : ℕ) → length (flags n bits) ≡ n
unfolding flags
length-flags zero bits = refl
length-flags (suc n) bits = ap suc (length-flags n (bits / 2))

pub flags-none : (n : ℕ) → flags n 0 ≡ replicate n false
unfolding flags
flags-none zero = refl
flags-none (suc n) = ap (λ (xs : List Bool). false ∷ xs) (flags-none n)

-- a place is accepted if its bit is 1
pub accepts-flags : (n bits i : ℕ) → i < n → accepts (flags n bits) i ≡ (bit_at bits i == 1)
unfolding flags
accepts-flags zero bits i h = absurd (omega (arith, h))
accepts-flags (suc n) bits zero h = ap (λ (b : ℕ). b == 1) (sym (bit_at_lowest bits))
accepts-flags (suc n) bits (suc i) h = accepts-flags n (bits / 2) i (omega (arith, h)) ∙ ap (λ (b : ℕ). b == 1) (sym (bit_at-suc bits i))

or_low : (a b : ℕ) → bit_or a b % 2 ≡ max (a % 2) (b % 2)
or_low a b = sym (bit_at_lowest (bit_or a b)) ∙ bit_at_or a b 0 ∙ ap₂ max (bit_at_lowest a) (bit_at_lowest b)

or_half : (a b : ℕ) → bit_or a b / 2 ≡ bit_or (a / 2) (b / 2)
or_half a b = or_shr a b 1

one_low : (a : ℕ) → a < 2 → max a 1 ≡ 1
one_low a h = omega (arith, h)

even : (k : ℕ) → 2 ^ suc k % 2 ≡ 0
even k = omega arith

half : (k : ℕ) → 2 ^ suc k / 2 ≡ 2 ^ k
half k = omega arith

at_most_itself : (a : ℕ) → max a 0 ≡ a
at_most_itself a = omega arith

-- to set a bit accepts its place
pub flags-set : (n bits k : ℕ) → k < n → flags n (bit_or bits (2 ^ k)) ≡ slice_set (flags n bits) k true
unfolding flags
flags-set zero bits k h = absurd (omega (arith, h))
flags-set (suc n) bits zero h = ap₂ (λ (b : Bool) (xs : List Bool). b ∷ xs)
    (ap (λ (m : ℕ). m == 1) (or_low bits 1 ∙ one_low (bits % 2) (omega arith)))
    (ap (flags n) (or_half bits 1 ∙ or_zero_r (bits / 2)))
flags-set (suc n) bits (suc k) h = ap₂ (λ (b : Bool) (xs : List Bool). b ∷ xs)
    (ap (λ (m : ℕ). m == 1) (or_low bits (2 ^ suc k) ∙ ap (λ (m : ℕ). max (bits % 2) m) (even k) ∙ at_most_itself (bits % 2)))
    (ap (flags n) (or_half bits (2 ^ suc k) ∙ ap (bit_or (bits / 2)) (half k)) ∙ flags-set n (bits / 2) k (omega (arith, h)))

-- a number of n bits still has n bits after one of them is set
pub set_small : (n bits k : ℕ) → bits < 2 ^ n → k < n → bit_or bits (2 ^ k) < 2 ^ n
set_small n bits k few inside = or_lt n bits (2 ^ k) few (pow_below k n inside)

and_low : (a b : ℕ) → bit_and a b % 2 ≡ min (a % 2) (b % 2)
and_low a b = sym (bit_at_lowest (bit_and a b)) ∙ bit_at_and a b 0 ∙ ap₂ min (bit_at_lowest a) (bit_at_lowest b)

and_half : (a b : ℕ) → bit_and a b / 2 ≡ bit_and (a / 2) (b / 2)
and_half a b = and_shr a b 1

-- if two numbers have a bit in common, both accept its place
pub common_place : (n a b : ℕ) → a < 2 ^ n → (bit_and a b ≡ 0 → ⊥) → Meets (flags n a) (flags n b)
unfolding flags
common_place zero a b small some = absurd (some (let less = and_le_l a b in omega (arith, small, less)))
common_place (suc n) a b small some =
    let low = and_low a b in let half = and_half a b in
    elim (cases_eq (bit_and a b % 2) 1) [
      | inl odd ↦ (0, eq-eqb (a % 2) 1 (omega (arith, odd, low)), eq-eqb (b % 2) 1 (omega (arith, odd, low)))
      | inr none ↦
          (let rest = common_place n (a / 2) (b / 2) (omega (arith, small)) (λ nothing. some (omega (arith, none, half, nothing))) in
          (suc rest.0, rest.1, rest.2))
    ]

-- and if both accept a place, the numbers have a bit in common
pub common_bit : (n a b i : ℕ) → accepts (flags n a) i ≡ true → accepts (flags n b) i ≡ true → bit_and a b ≡ 0 → ⊥
unfolding flags
common_bit zero a b i first second none = cc
common_bit (suc n) a b zero first second none =
    let low = and_low a b in
    let odd = eqb-true (a % 2) 1 first in
    let odd_too = eqb-true (b % 2) 1 second in
    let wrong : 0 < 0 = omega (arith, low, odd, odd_too, none) in omega (arith, wrong)
common_bit (suc n) a b (suc i) first second none =
    common_bit n (a / 2) (b / 2) i first second (let half = and_half a b in omega (arith, half, none))

-- to turn a bit reverses the acceptance of its place
xor_low : (a b : ℕ) → bit_xor a b % 2 ≡ (a % 2 + b % 2) % 2
xor_low a b =
    sym (bit_at_lowest (bit_xor a b)) ∙ bit_at_xor a b 0 ∙ ap₂ (λ (m n : ℕ). (m + n) % 2) (bit_at_lowest a) (bit_at_lowest b)

xor_half : (a b : ℕ) → bit_xor a b / 2 ≡ bit_xor (a / 2) (b / 2)
xor_half a b = xor_shr a b 1

reversed : (m : ℕ) → m < 2 → ((m + 1) % 2 == 1) ≡ not (m == 1)
reversed zero l = refl
reversed (suc zero) l = refl
reversed (suc (suc m)) l = absurd (omega (arith, l))

unchanged : (m n : ℕ) → m < 2 → n ≡ 0 → (m + n) % 2 ≡ m
unchanged m n l e = omega (arith, l, e)

pub flags-turned : (n bits k : ℕ) → k < n
    → flags n (bit_xor bits (2 ^ k)) ≡ slice_set (flags n bits) k (not (accepts (flags n bits) k))
unfolding flags
flags-turned zero bits k h = absurd (omega (arith, h))
flags-turned (suc n) bits zero h = ap₂ (λ (b : Bool) (xs : List Bool). b ∷ xs)
    (ap (λ (m : ℕ). m == 1) (xor_low bits 1) ∙ reversed (bits % 2) (omega arith))
    (ap (flags n) (xor_half bits 1 ∙ xor_zero_r (bits / 2)))
flags-turned (suc n) bits (suc k) h = ap₂ (λ (b : Bool) (xs : List Bool). b ∷ xs)
    (ap (λ (m : ℕ). m == 1) (xor_low bits (2 ^ suc k) ∙ unchanged (bits % 2) (2 ^ suc k % 2) (omega arith) (even k)))
    (ap (flags n) (xor_half bits (2 ^ suc k) ∙ ap (bit_xor (bits / 2)) (half k)) ∙ flags-turned n (bits / 2) k (omega (arith, h)))

pub turned_small : (n bits k : ℕ) → bits < 2 ^ n → k < n → bit_xor bits (2 ^ k) < 2 ^ n
turned_small n bits k few inside = xor_lt n bits (2 ^ k) few (pow_below k n inside)
