-- Propositions that can be decided: each holds, or it doesn't.
use Rattle.std.proofs.Common.{◌≡◌, ◌⊎◌, inl, inr, ℕ, zero, suc, ◌<◌, ◌≤◌, Bool, true, false, List, [], ◌∷◌, ◌++◌, refl, sym, ap₂, subst}
use Rattle.std.proofs.Common.{arith}
use Rattle.std.specs.Str.{bytes_eq}
use Rattle.std.proofs.lemmas.Bool.{cases_lt, cases_eq}
use Rattle.std.proofs.lemmas.Slice.Eq.{bytes_eq-Decides}

abbrev pub IsDecided : Type 0 → Type 0
IsDecided P = P ⊎ (P → ⊥)

pub decided_as : {P Q : Type 0} → (P → Q) → (Q → P) → IsDecided P → IsDecided Q
decided_as to from (inl is) = inl (to is)
decided_as to from (inr none) = inr (λ is. none (from is))

pub decided_both : {P Q : Type 0} → IsDecided P → IsDecided Q → IsDecided (P × Q)
decided_both (inl p) (inl q) = inl (p, q)
decided_both (inl p) (inr none) = inr (λ both. none both.1)
decided_both (inr none) q = inr (λ both. none both.0)

neither : {P Q : Type 0} → (P → ⊥) → (Q → ⊥) → P ⊎ Q → ⊥
neither p q (inl is) = p is
neither p q (inr is) = q is

pub decided_either : {P Q : Type 0} → IsDecided P → IsDecided Q → IsDecided (P ⊎ Q)
decided_either (inl p) q = inl (inl p)
decided_either (inr none) (inl q) = inl (inr q)
decided_either (inr none) (inr never) = inr (neither none never)

pub decided_true : (b : Bool) → IsDecided (b ≡ true)
decided_true true = inl refl
decided_true false = inr (λ is. cc)

less : (m n : ℕ) → (m < n) ⊎ (n ≤ m) → IsDecided (m < n)
less m n (inl is) = inl is
less m n (inr most) = inr (λ is. omega (arith, is, most))

pub decided_less : (m n : ℕ) → IsDecided (m < n)
decided_less m n = less m n (cases_lt m n)

pub decided_most : (m n : ℕ) → IsDecided (m ≤ n)
decided_most m n = decided_as (λ is. omega (arith, is)) (λ is. omega (arith, is)) (decided_less m (suc n))

pub decided_same : (xs ys : List ℕ) → IsDecided (xs ≡ ys)
decided_same xs ys = decided_as (bytes_eq-Decides xs ys).0 (bytes_eq-Decides xs ys).1 (decided_true (bytes_eq xs ys))

-- whether one of the numbers below a limit is so
module _ (P : ℕ → Type 0) (decided : (n : ℕ) → IsDecided (P n)) where
  none_is : (limit : ℕ) → (P limit → ⊥) → ((n : ℕ) × (n < limit) × P n → ⊥) → (n : ℕ) → n < suc limit → P n → (n < limit) ⊎ (limit ≤ n) → ⊥
  none_is limit here less n within is (inl below) = less (n, below, is)
  none_is limit here less n within is (inr above) = let same : n ≡ limit = omega (arith, within, above) in here (subst P same is)

  one_more : (limit : ℕ) → IsDecided (P limit) → IsDecided ((n : ℕ) × (n < limit) × P n) → IsDecided ((n : ℕ) × (n < suc limit) × P n)
  one_more limit (inl is) below = inl (limit, omega arith, is)
  one_more limit (inr here) (inl some) = let within = some.1 in inl (some.0, omega (arith, within), some.2)
  one_more limit (inr here) (inr less) = inr (λ some. none_is limit here less some.0 some.1 some.2 (cases_lt some.0 limit))

  pub decided_below : (limit : ℕ) → IsDecided ((n : ℕ) × (n < limit) × P n)
  decided_below zero = inr (λ some. let within = some.1 in omega (arith, within))
  decided_below (suc limit) = one_more limit (decided limit) (decided_below limit)

heads : {X : Type 0} (x y : X) (xs ys : List X) → x ∷ xs ≡ y ∷ ys → x ≡ y
heads x y xs ys is = cc

tails : {X : Type 0} (x y : X) (xs ys : List X) → x ∷ xs ≡ y ∷ ys → xs ≡ ys
tails x y xs ys is = cc

-- whether the text begins with this front, and the rest after it is so
module _ (Q : List ℕ → Type 0) (decided : (rest : List ℕ) → IsDecided (Q rest)) where
  abbrev Fronted : List ℕ → List ℕ → Type 0
  Fronted front text = (rest : List ℕ) × (text ≡ front ++ rest) × Q rest

  one_byte : (x y : ℕ) (front text : List ℕ) → (x ≡ y) ⊎ (x ≡ y → ⊥) → IsDecided (Fronted front text) → IsDecided
      (Fronted (y ∷ front) (x ∷ text))
  one_byte x y front text (inl same) behind = decided_as
      (λ some. (some.0, ap₂ (λ (z : ℕ) (zs : List ℕ). z ∷ zs) same some.1, some.2))
      (λ some. (some.0, tails x y text (front ++ some.0) some.1, some.2)) behind
  one_byte x y front text (inr other) behind = inr (λ some. other (heads x y text (front ++ some.0) some.1))

  pub decided_front : (front text : List ℕ) → IsDecided (Fronted front text)
  decided_front [] text = decided_as (λ q. (text, refl, q)) (λ some. subst Q (sym some.1) some.2) (decided text)
  decided_front (y ∷ front) [] = inr (λ some. let none : [] ≡ y ∷ (front ++ some.0) = some.1 in cc)
  decided_front (y ∷ front) (x ∷ text) = one_byte x y front text (cases_eq x y) (decided_front front text)
