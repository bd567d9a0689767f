-- The steps by rising limit, given in any order.
use Rattle.std.proofs.Common.{◌≡◌, ℕ, ◌+◌, List, [], ◌∷◌, length}
use Rattle.std.proofs.Common.{ap, ◌∙◌, sym, refl, arith}
use Rattle.std.specs.List.{sum_by}
use Rattle.std.specs.List.Sorted.{IsPermutation}
use Rattle.std.proofs.lemmas.List.Sums.{sum_by-cons}
use Rattle.std.proofs.lemmas.List.Sorted.{sum_by-IsPermutation}
use Rattle.dam_hour.specs.declared.step.Step.{Step}
use Rattle.dam_curve.specs.Supply.{total_of, AreAlike}

-- ---- the same steps in another order
total_is : (f : Step → ℕ) (ss : List Step) → total_of f ss ≡ sum_by f ss
total_is f [] = refl
total_is f (s ∷ ss) = ap (λ n. f s + n) (total_is f ss) ∙ sym (sum_by-cons f s ss)

pub same_total : (ss ts : List Step) → IsPermutation ss ts → AreAlike ss ts
same_total ss ts e f = total_is f ts ∙ sum_by-IsPermutation f ss ts e ∙ sym (total_is f ss)

count_is : (ss : List Step) → total_of (λ s. 1) ss ≡ length ss
count_is [] = refl
count_is (s ∷ ss) = let rest = count_is ss in omega (arith, rest)

pub same_length : (ss ts : List Step) → AreAlike ss ts → length ts ≡ length ss
same_length ss ts same = sym (count_is ts) ∙ same (λ s. 1) ∙ count_is ss
