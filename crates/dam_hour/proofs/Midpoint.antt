-- That the period's price lies between the ends, and which of its three cases applies.
use Rattle.dam_hour.proofs.Common.{◌≡◌, ℤ, pos, negsuc, ◌+ℤ◌, ◌≤ℤ◌, ◌<ℤ◌, Bool, true, false, refl, arith, ints, lowest_price, highest_price, price_between}
use Rattle.std.proofs.Common.{◌≢◌}
use Rattle.std.specs.Prelude.{int_lt, ◌&&◌, if◌then◌else◌}
use Rattle.std.specs.Int.{int_div_euclid}
use Rattle.std.specs.Ordering.{int_eq}
use Rattle.std.proofs.lemmas.Bool.Decides.{Decides-int_eq}

-- twice the half is the number or one less
pub half_rounds_down : (z : ℤ)
    → ((int_div_euclid z (pos 2) +ℤ int_div_euclid z (pos 2)) ≤ℤ z) × (z ≤ℤ (int_div_euclid z (pos 2) +ℤ int_div_euclid z (pos 2) +ℤ pos 1))
half_rounds_down (pos a) = (omega (arith, ints), omega (arith, ints))
half_rounds_down (negsuc a) = (omega (arith, ints), omega (arith, ints))

-- the price that four tests pick
abbrev picked : Bool → Bool → Bool → Bool → ℤ → ℤ → ℤ → ℤ
picked a b c d low high middle = if a && b then high else (if c && d then low else middle)

chosen : (a b c d : Bool) (low high middle : ℤ) → low ≤ℤ high → low ≤ℤ middle → middle ≤ℤ high
    → (low ≤ℤ picked a b c d low high middle) × (picked a b c d low high middle ≤ℤ high)
chosen true true c d low high middle h l m = (h, omega (arith, ints))
chosen true false true true low high middle h l m = (omega (arith, ints), h)
chosen true false true false low high middle h l m = (l, m)
chosen true false false d low high middle h l m = (l, m)
chosen false b true true low high middle h l m = (omega (arith, ints), h)
chosen false b true false low high middle h l m = (l, m)
chosen false b false d low high middle h l m = (l, m)

pub price_lies_between : (low high : ℤ) → low ≤ℤ high → (low ≤ℤ price_between low high) × (price_between low high ≤ℤ high)
price_lies_between low high h =
    let r = half_rounds_down (low +ℤ high) in
    chosen (int_eq low lowest_price) (int_lt high highest_price) (int_lt lowest_price low) (int_eq high highest_price) low high
    (int_div_euclid (low +ℤ high) (pos 2)) h
    (omega (arith, ints, r.0, r.1)) (omega (arith, ints, r.0, r.1))

lt_true : (a b : ℤ) → a <ℤ b → int_lt a b ≡ true
lt_true a b h = grind (arith, ints)

lt_false : (a b : ℤ) → b ≤ℤ a → int_lt a b ≡ false
lt_false a b h = grind (arith, ints)

eq_true : (a : ℤ) → int_eq a a ≡ true
eq_true a = (Decides-int_eq a a).1 refl

eq_false : (a b : ℤ) → a ≢ b → int_eq a b ≡ false
eq_false a b h = elim (int_eq a b) as (λ t. int_eq a b ≡ t → t ≡ false) [
  | true ↦ λ e. absurd (h ((Decides-int_eq a b).0 e))
  | false ↦
      λ e. refl
] refl

picked_high : (a b c d : Bool) (low high middle : ℤ) → a ≡ true → b ≡ true
    → picked a b c d low high middle ≡ high
picked_high true true c d low high middle e f = refl
picked_high true false c d low high middle e f = cc
picked_high false b c d low high middle e f = cc

picked_low : (a b c d : Bool) (low high middle : ℤ) → b ≡ false → c ≡ true → d ≡ true
    → picked a b c d low high middle ≡ low
picked_low a true c d low high middle e f g = cc
picked_low true false true true low high middle e f g = refl
picked_low false false true true low high middle e f g = refl
picked_low true false false d low high middle e f g = cc
picked_low false false false d low high middle e f g = cc
picked_low true false true false low high middle e f g = cc
picked_low false false true false low high middle e f g = cc

picked_middle : (a b c d : Bool) (low high middle : ℤ) → a ≡ false → d ≡ false
    → picked a b c d low high middle ≡ middle
picked_middle true b c d low high middle e f = cc
picked_middle false b true true low high middle e f = cc
picked_middle false b true false low high middle e f = refl
picked_middle false b false d low high middle e f = refl

pub price_at_low_end : (high : ℤ) → high <ℤ highest_price → price_between lowest_price high ≡ high
price_at_low_end high h =
    picked_high (int_eq lowest_price lowest_price) (int_lt high highest_price) (int_lt lowest_price lowest_price)
    (int_eq high highest_price) lowest_price high
    (int_div_euclid (lowest_price +ℤ high) (pos 2)) (eq_true lowest_price) (lt_true high highest_price h)

pub price_at_high_end : (low : ℤ) → lowest_price <ℤ low → price_between low highest_price ≡ low
price_at_high_end low h =
    picked_low (int_eq low lowest_price) (int_lt highest_price highest_price) (int_lt lowest_price low) (int_eq highest_price highest_price)
    low highest_price
    (int_div_euclid (low +ℤ highest_price) (pos 2)) (lt_false highest_price highest_price (omega (arith, ints)))
    (lt_true lowest_price low h) (eq_true highest_price)

pub price_inside : (low high : ℤ) → lowest_price <ℤ low → high <ℤ highest_price
    → price_between low high ≡ int_div_euclid (low +ℤ high) (pos 2)
price_inside low high h g =
    picked_middle (int_eq low lowest_price) (int_lt high highest_price) (int_lt lowest_price low) (int_eq high highest_price) low high
    (int_div_euclid (low +ℤ high) (pos 2)) (eq_false low lowest_price (omega (arith, ints)))
    (eq_false high highest_price (omega (arith, ints)))
