-- Propositions that are decided: each holds, or it doesn't.
use Rattle.dam_blocks.proofs.Common.{◌≡◌, ℕ, zero, suc, ◌<◌, ℤ, ◌≤ℤ◌, Bool, true, false, inl, inr, Option, Some, None, List, ap, subst, refl, arith, ints}
use Rattle.dam_blocks.proofs.Common.{by_lt_z, cases_lt, map_dec}
use Rattle.std.proofs.Common.{Decides}
use Rattle.std.proofs.lemmas.Slice.Eq.{bytes_eq-Decides}

-- ---- the parts of a decided proposition
by_test : (P : Type 0) (b : Bool) → Decides b P → Dec P
by_test P true d = yes (d.0 refl)
by_test P false d = no (λ p. absurd (let e : false ≡ true = d.1 p in cc))

pub decided_both : (P Q : Type 0) → Dec P → Dec Q → Dec (P × Q)
decided_both P Q (yes p) (yes q) = yes (p, q)
decided_both P Q (yes p) (no fails) = no (λ both. fails both.1)
decided_both P Q (no fails) q = no (λ both. fails both.0)

pub decided_if : (P Q : Type 0) → Dec P → Dec Q → Dec (P → Q)
decided_if P Q p (yes q) = yes (λ _. q)
decided_if P Q (yes p) (no fails) = no (λ f. fails (f p))
decided_if P Q (no never) (no fails) = yes (λ p. absurd (never p))

-- ---- equations and orders
pub decided_text : (xs ys : List ℕ) → Dec (xs ≡ ys)
decided_text xs ys = by_test (xs ≡ ys) _ (bytes_eq-Decides xs ys)

pub decided_true : (b : Bool) → Dec (b ≡ true)
decided_true true = yes refl
decided_true false = no (λ e. absurd (cc))

pub decided_some_text : (o : Option (List ℕ)) (xs : List ℕ) → Dec (o ≡ Some xs)
decided_some_text None xs = no (λ e. absurd (cc))
decided_some_text (Some ys) xs =
    map_dec {A = ys ≡ xs} {B = Some ys ≡ Some xs} (λ e. ap (λ (zs : List ℕ). Some zs) e) (λ e. cc) (decided_text ys xs)

pub decided_at_least : (a b : ℤ) → Dec (a ≤ℤ b)
decided_at_least a b = by_lt_z b a
    (λ less. no (λ h. absurd (let wrong : 0 < 0 = omega (arith, ints, less, h) in omega (arith, wrong))))
    (λ not_less. yes not_less)

-- ---- of every place
below_more : (P : ℕ → Type 0) (n : ℕ) → ((k : ℕ) → k < n → P k) → P n → (k : ℕ) → k < suc n → P k
below_more P n before here k l = elim (cases_lt k n) [
  | inl less ↦ before k less
  | inr more ↦ (let same : n ≡ k = omega (arith, l, more) in subst P same here)
]

pub decided_below : (P : ℕ → Type 0) → ((k : ℕ) → Dec (P k)) → (n : ℕ) → Dec ((k : ℕ) → k < n → P k)
decided_below P each zero = yes (λ k l. absurd (omega (arith, l)))
decided_below P each (suc n) = map_dec {A = ((k : ℕ) → k < n → P k) × P n} {B = (k : ℕ) → k < suc n → P k}
    (λ both. below_more P n both.0 both.1)
    (λ all. (λ k l. all k (omega (arith, l)), all n (omega arith)))
    (decided_both ((k : ℕ) → k < n → P k) (P n) (decided_below P each n) (each n))

-- if it holds of no place from n on
pub decided_each : (P Q : ℕ → Type 0) (n : ℕ) → ((k : ℕ) → P k → k < n) → ((k : ℕ) → Dec (P k → Q k)) → Dec ((k : ℕ) → P k → Q k)
decided_each P Q n only each = map_dec {A = (k : ℕ) → k < n → P k → Q k} {B = (k : ℕ) → P k → Q k}
    (λ below k p. below k (only k p) p)
    (λ all k l. all k)
    (decided_below (λ k. P k → Q k) each n)

pub decided_at : {X : Type 0} (o : Option X) (P : X → Type 0) → ((x : X) → Dec (P x)) → Dec ((x : X) → o ≡ Some x → P x)
decided_at None P each = yes (λ x e. absurd (cc))
decided_at {X} (Some y) P each = map_dec {A = P y} {B = (x : X) → Some y ≡ Some x → P x}
    (λ p x e. (let same : y ≡ x = cc in subst P same p))
    (λ all. all y refl)
    (each y)
