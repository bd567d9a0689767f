-- The text of a number, and the number that its digits say.
use Rattle.dam_book.proofs.Common.{IsNumeralModel, IsShort, List, MatchOption, None, Option, Some, all_ascii_digits, ap, arith, decimal}
use Rattle.dam_book.proofs.Common.{digits_decimal, false, get_or, ints, length, negsuc, pos, refl, rules, subst, suc, sym, true, value_from, zero, ℕ}
use Rattle.dam_book.proofs.Common.{ℤ, ◌+◌, ◌-◌, ◌<◌, ◌^◌, ◌∙◌, ◌∷◌, ◌≡◌, ◌≢◌, ◌≤◌}
use Rattle.std.proofs.Common.{◌*◌}
use Rattle.std.specs.Fmt.{signed_decimal}
use Rattle.std.proofs.lemmas.Nat.{pow-add}
use Rattle.std.proofs.lemmas.Fmt.{decimal-digits_value, decimal_digit, decimal_nonempty, first_decimal, length-decimal-le}
use Rattle.std.proofs.lemmas.Str.Parse.{numerals_by_fold, digits_value_short, tells_all_ascii_digits}

pub own : IsNumeralModel (λ ds. all_ascii_digits ds ≡ true) (value_from 0)
own = numerals_by_fold _ tells_all_ascii_digits value_from (search rules)

grows : (i k : ℕ) → 10 ^ i ≤ 10 ^ (k + i)
grows i zero =
    let none : 0 + i ≡ i = omega arith in
    let same : 10 ^ (0 + i) ≡ 10 ^ i = ap (λ (k : ℕ). 10 ^ k) none in
    omega (arith, same)
grows i (suc k) =
    let sum : suc k + i ≡ 1 + (k + i) = omega arith in
    let more : 10 ^ (suc k + i) ≡ 10 ^ 1 * 10 ^ (k + i) = ap (λ (n : ℕ). 10 ^ n) sum ∙ pow-add 10 1 (k + i) in
    omega (arith, more, grows i k)

pub below_power : (i n : ℕ) → i ≤ 8 → n < 10 ^ i → n < 100000000
below_power i n few less =
    let all : (8 - i) + i ≡ 8 = omega arith in
    let whole : 10 ^ ((8 - i) + i) ≡ 10 ^ 8 = ap (λ (k : ℕ). 10 ^ k) all in
    omega (arith, whole, grows i (8 - i))

-- at most nine digits without a leading zero are the text of the number that they say
pub text_of : (text : List ℕ) → all_ascii_digits text ≡ true → 0 < length text → length text ≤ 9
    → (get_or text 0 0 ≡ 48 → length text ≡ 1)
    → (value_from 0 text < 10 ^ 9) × (text ≡ decimal (value_from 0 text))
text_of text digits some few lead =
    let small : value_from 0 text < 10 ^ 9 = digits_value_short own text 9 digits few in
    (small, sym (decimal-digits_value own text digits some lead (omega arith)))

pub no_text_too_long : (text : List ℕ) (n : ℕ) → n < 10 ^ 9 → 9 < length text → text ≢ decimal n
no_text_too_long text n small long e =
    let count : length text ≡ length (decimal n) = ap length e in
    omega (arith, count, long, length-decimal-le 9 n (omega arith) small (omega arith))

pub no_empty_text : (text : List ℕ) (n : ℕ) → n < 10 ^ 9 → length text ≡ 0 → text ≢ decimal n
no_empty_text text n small none e =
    let count : length text ≡ length (decimal n) = ap length e in
    omega (arith, count, none, decimal_nonempty n (omega arith))

pub no_leading_zero : (text : List ℕ) (n : ℕ) → n < 10 ^ 9 → 1 < length text → get_or text 0 0 ≡ 48 → text ≢ decimal n
no_leading_zero text zero small long lead e =
    let count : length text ≡ 1 = ap length (e ∙ decimal_digit 0 (omega arith)) in
    omega (arith, count, long)
no_leading_zero text (suc n) small long lead e =
    let first : get_or text 0 0 ≡ get_or (decimal (suc n)) 0 0 = ap (λ (ds : List ℕ). get_or ds 0 0) e in
    omega (arith, first, lead, first_decimal (suc n) (omega arith) (omega arith))

pub no_other_byte : (text : List ℕ) (n : ℕ) → n < 10 ^ 9 → all_ascii_digits text ≡ false → text ≢ decimal n
no_other_byte text n small other e =
    let digits : all_ascii_digits (decimal n) ≡ true = digits_decimal own n (omega arith) in
    cc (sym (ap all_ascii_digits e ∙ digits) ∙ other)

pub number_read : (r : Option ℕ) (text : List ℕ) → 0 < length text → length text ≤ 9 → (get_or text 0 0 ≡ 48 → length text ≤ 1)
    → MatchOption r (all_ascii_digits text ≡ false) (λ n. (all_ascii_digits text ≡ true) × (n ≡ value_from 0 text))
    → MatchOption r ((n : ℕ) → n < 10 ^ 9 → text ≡ decimal n → ⊥) (λ n. (n < 10 ^ 9) × (text ≡ decimal n))
number_read None text some few lead other = λ n small e. no_other_byte text n small other e
number_read (Some n) text some few lead digits =
    subst (λ (m : ℕ). (m < 10 ^ 9) × (text ≡ decimal m)) (sym digits.1)
    (text_of text digits.0 some few (λ zero. omega (arith, lead zero, some)))

no_dash : (digits : List ℕ) (n : ℕ) → n < 10 ^ 9 → 45 ∷ digits ≢ decimal n
no_dash digits n small e = no_other_byte (45 ∷ digits) n small refl e

-- after a dash, the text of a number is the text of one above zero
pub below_zero : (text digits : List ℕ) (z : ℤ) → text ≡ 45 ∷ digits → IsShort z → text ≡ signed_decimal z
    → (n : ℕ) × (0 < n) × (n < 10 ^ 9) × (digits ≡ decimal n)
below_zero text digits (pos n) dash small e = absurd (no_dash digits n (omega (arith, ints, small)) (sym dash ∙ e))
below_zero text digits (negsuc n) dash small e =
    let rest : digits ≡ decimal (suc n) = cc (sym dash ∙ e) in
    (suc n, omega arith, omega (arith, ints, small), rest)
