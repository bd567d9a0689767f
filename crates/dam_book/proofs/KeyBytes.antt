-- A key is known from the bytes that it is hashed as: its texts have no byte 0, and the zeros after each are as many as it lacks.
use Rattle.std.proofs.Common.{◌≡◌, ◌≤◌, ℕ, zero, suc, ◌+◌, ◌-◌, Bool, true, false, List, [], ◌∷◌, ◌++◌, length, replicate}
use Rattle.std.proofs.Common.{arith, refl, ap₂}
use Rattle.std.specs.List.{list_all}
use Rattle.dam_book.specs.Limits.{longest_name, longest_participant}
use Rattle.dam_book.specs.Name.{IsName, IsParticipant, is_letter_byte, is_name_byte}
use Rattle.dam_book.specs.Book.{Key, key_bytes}
use Rattle.dam_book.proofs.Keys.{both_true}

-- what comes after equally many zeros
after_zeros : (m n : ℕ) (xs ys : List ℕ) → m ≡ n → replicate m 0 ++ xs ≡ replicate n 0 ++ ys → xs ≡ ys
after_zeros zero zero xs ys many is = is
after_zeros zero (suc n) xs ys many is = absurd (omega (arith, many))
after_zeros (suc m) zero xs ys many is = absurd (omega (arith, many))
after_zeros (suc m) (suc n) xs ys many is = after_zeros m n xs ys (omega (arith, many)) (cc (is))

-- two texts of bytes other than 0, each with zeros up to the same length, and what comes after them
padded : (P : ℕ → Bool) → P 0 ≡ false → (s t : List ℕ) (m n : ℕ) (xs ys : List ℕ) → list_all P s ≡ true → list_all P t ≡ true
    → length s + m ≡ length t + n
    → (s ++ replicate m 0) ++ xs ≡ (t ++ replicate n 0) ++ ys
    → (s ≡ t) × (xs ≡ ys)
padded P none [] [] m n xs ys p q many is = (refl, after_zeros m n xs ys (omega (arith, many)) is)
padded P none [] (b ∷ t) zero n xs ys p q many is = absurd (omega (arith, many))
padded P none [] (b ∷ t) (suc m) n xs ys p q many is =
    let head : 0 ≡ b = cc (is) in
    let letter : P b ≡ true = (both_true (P b) (list_all P t) q).0 in
    absurd (cc (head, letter, none))
padded P none (a ∷ s) [] m zero xs ys p q many is = absurd (omega (arith, many))
padded P none (a ∷ s) [] m (suc n) xs ys p q many is =
    let head : a ≡ 0 = cc (is) in
    let letter : P a ≡ true = (both_true (P a) (list_all P s) p).0 in
    absurd (cc (head, letter, none))
padded P none (a ∷ s) (b ∷ t) m n xs ys p q many is =
    let head : a ≡ b = cc (is) in
    let tail : (s ++ replicate m 0) ++ xs ≡ (t ++ replicate n 0) ++ ys = cc (is) in
    let rest = padded P none s t m n xs ys (both_true (P a) (list_all P s) p).1 (both_true (P b) (list_all P t) q).1 (omega (arith, many)) tail in
    (ap₂ (λ (x : ℕ) (ts : List ℕ). x ∷ ts) head rest.0, rest.1)

same_length : (s t : List ℕ) (n : ℕ) → length s ≤ n → length t ≤ n → length s + (n - length s) ≡ length t + (n - length t)
same_length s t n p q = omega (arith, p, q)

pub key_bytes_injective : (k l : Key) → IsParticipant k.0 → IsName k.1 → IsParticipant l.0 → IsName l.1 → key_bytes k ≡ key_bytes l → k ≡ l
key_bytes_injective k l p n q m is =
    let codes = padded is_letter_byte refl k.0 l.0 _ _ _ _ p.letters q.letters (same_length k.0 l.0 longest_participant p.fits q.fits) is in
    let names = padded is_name_byte refl k.1 l.1 _ _ _ _ n.plain m.plain (same_length k.1 l.1 longest_name n.fits m.fits) codes.1 in
    ap₂ (λ (x y : List ℕ). let key : Key = (x, y) in key) codes.0 names.0
