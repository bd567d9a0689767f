-- The length of an execution, its volume at a place, and executions one after the other.
use Rattle.dam_hour.proofs.Common.{◌≡◌, ℕ, zero, suc, ◌+◌, ◌≤◌, ◌+ℤ◌, List, [], ◌∷◌, ◌++◌, length, Some, ap, refl, arith, slice_get, ints, Side, Step}
use Rattle.dam_hour.proofs.Common.{IsExecution, executed_volume, welfare_of}

pub execution_length : (ss : List Step) (xs : List ℕ) → IsExecution ss xs → length xs ≡ length ss
execution_length [] [] e = refl
execution_length [] (x ∷ xs) e = absurd e
execution_length (s ∷ ss) [] e = absurd e
execution_length (s ∷ ss) (x ∷ xs) e = ap suc (execution_length ss xs e.1)

pub volume_at_most : (ss : List Step) (xs : List ℕ) (i : ℕ) (s : Step) (x : ℕ) → IsExecution ss xs → slice_get ss i ≡ Some s
    → slice_get xs i ≡ Some x → x ≤ s.qty
volume_at_most [] [] i s x e at is = cc
volume_at_most [] (y ∷ xs) i s x e at is = absurd e
volume_at_most (t ∷ ss) [] i s x e at is = absurd e
volume_at_most (t ∷ ss) (y ∷ xs) zero s x e at is =
    let same : t ≡ s = cc in
    let volume : y ≡ x = cc in
    let own = ap (λ (u : Step). u.qty) same in
    omega (arith, own, volume, e.0)
volume_at_most (t ∷ ss) (y ∷ xs) (suc i) s x e at is = volume_at_most ss xs i s x e.1 at is

pub joined_execution : (ss ts : List Step) (xs ys : List ℕ) → IsExecution ss xs → IsExecution ts ys → IsExecution (ss ++ ts) (xs ++ ys)
joined_execution [] ts [] ys e f = f
joined_execution [] ts (x ∷ xs) ys e f = absurd e
joined_execution (s ∷ ss) ts [] ys e f = absurd e
joined_execution (s ∷ ss) ts (x ∷ xs) ys e f = (e.0, joined_execution ss ts xs ys e.1 f)

-- every execution of the two is one of the first and one of the second
pub parted_execution : (ss ts : List Step) (zs : List ℕ) → IsExecution (ss ++ ts) zs
    → (xs : List ℕ) × (ys : List ℕ) × (zs ≡ xs ++ ys) × IsExecution ss xs × IsExecution ts ys
parted_execution [] ts zs e = ([], zs, refl, tt, e)
parted_execution (s ∷ ss) ts [] e = absurd e
parted_execution (s ∷ ss) ts (z ∷ zs) e =
    let rest = parted_execution ss ts zs e.1 in
    (z ∷ rest.0, rest.1, ap (λ (ns : List ℕ). z ∷ ns) rest.2, (e.0, rest.3), rest.4)

pub joined_volume : (side : Side) (ss ts : List Step) (xs ys : List ℕ) → IsExecution ss xs
    → executed_volume side (ss ++ ts) (xs ++ ys) ≡ executed_volume side ss xs + executed_volume side ts ys
joined_volume side [] ts [] ys e = omega arith
joined_volume side [] ts (x ∷ xs) ys e = absurd e
joined_volume side (s ∷ ss) ts [] ys e = absurd e
joined_volume side (s ∷ ss) ts (x ∷ xs) ys e = let rest = joined_volume side ss ts xs ys e.1 in omega (arith, rest)

pub joined_welfare : (ss ts : List Step) (xs ys : List ℕ) → IsExecution ss xs
    → welfare_of (ss ++ ts) (xs ++ ys) ≡ welfare_of ss xs +ℤ welfare_of ts ys
joined_welfare [] ts [] ys e = omega (arith, ints)
joined_welfare [] ts (x ∷ xs) ys e = absurd e
joined_welfare (s ∷ ss) ts [] ys e = absurd e
joined_welfare (s ∷ ss) ts (x ∷ xs) ys e = let rest = joined_welfare ss ts xs ys e.1 in omega (arith, ints, rest)
