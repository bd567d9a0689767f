-- A list in another order, by exchanges of neighbours.
use Rattle.std.proofs.Common.{◌≡◌, ℕ, zero, suc, ◌<◌, List, [], ◌∷◌, length, get_or, set, sym, subst, refl, arith}
use Rattle.std.specs.List.{swap}
use Rattle.std.specs.List.Sorted.{IsPermutation}
use Rattle.std.proofs.lemmas.List.Sorted.{IsPermutation-keeps}

pub data Reordered {X : Type 0} : List X → List X → Type 0 where
  Same : (xs : List X) → Reordered xs xs
  Kept : (x : X) (xs ys : List X) → Reordered xs ys → Reordered (x ∷ xs) (x ∷ ys)
  Exchanged : (x y : X) (xs : List X) → Reordered (x ∷ y ∷ xs) (y ∷ x ∷ xs)
  Then : (xs ys zs : List X) → Reordered xs ys → Reordered ys zs → Reordered xs zs

default_of : {X : Type 0} (xs : List X) (k : ℕ) (d e : X) → k < length xs → get_or xs k d ≡ get_or xs k e
default_of [] k d e l = absurd (omega (arith, l))
default_of (x ∷ xs) zero d e l = refl
default_of (x ∷ xs) (suc k) d e l = default_of xs k d e (omega (arith, l))

-- the first element and a later one
first_exchanged : {X : Type 0} (d : X) (xs : List X) (k : ℕ) → k < length xs → Reordered (d ∷ xs) (get_or xs k d ∷ set xs k d)
first_exchanged d [] k l = absurd (omega (arith, l))
first_exchanged d (x ∷ xs) zero l = Exchanged d x xs
first_exchanged d (x ∷ xs) (suc k) l =
    let rest = first_exchanged d xs k (omega (arith, l)) in
    Then (d ∷ x ∷ xs) (x ∷ d ∷ xs) (get_or xs k d ∷ x ∷ set xs k d) (Exchanged d x xs)
    (Then (x ∷ d ∷ xs) (x ∷ get_or xs k d ∷ set xs k d) (get_or xs k d ∷ x ∷ set xs k d) (Kept x (d ∷ xs) (get_or xs k d ∷ set xs k d) rest)
    (Exchanged x (get_or xs k d) (set xs k d)))

-- the list after an exchange of two places, for any default
exchanged : {X : Type 0} (d : X) (xs : List X) (i j : ℕ) → i < length xs → j < length xs
    → Reordered xs (set (set xs i (get_or xs j d)) j (get_or xs i d))
exchanged {X = X} d [] i j l m = absurd (omega (arith, l))
exchanged {X = X} d (x ∷ xs) zero zero l m = Same (x ∷ xs)
exchanged {X = X} d (x ∷ xs) zero (suc k) l m =
    let own = default_of xs k d x (omega (arith, m)) in
    subst (λ (y : X). Reordered (x ∷ xs) (y ∷ set xs k x)) (sym own) (first_exchanged x xs k (omega (arith, m)))
exchanged {X = X} d (x ∷ xs) (suc k) zero l m =
    let own = default_of xs k d x (omega (arith, l)) in
    subst (λ (y : X). Reordered (x ∷ xs) (y ∷ set xs k x)) (sym own) (first_exchanged x xs k (omega (arith, l)))
exchanged {X = X} d (x ∷ xs) (suc i) (suc j) l m =
    Kept x xs (set (set xs i (get_or xs j d)) j (get_or xs i d)) (exchanged d xs i j (omega (arith, l)) (omega (arith, m)))

swapped : {X : Type 0} (xs : List X) (i j : ℕ) → i < length xs → j < length xs → Reordered xs (swap xs i j)
swapped [] i j l m = absurd (omega (arith, l))
swapped (x ∷ xs) i j l m = exchanged x (x ∷ xs) i j l m

pub reordered : {X : Type 0} (xs ys : List X) → IsPermutation xs ys → Reordered xs ys
reordered {X = X} xs ys is =
    IsPermutation-keeps xs (λ (l : List X). Reordered xs l) (Same xs)
    (λ l i j a b so_far. Then xs l (swap l i j) so_far (swapped l i j a b)) ys is
