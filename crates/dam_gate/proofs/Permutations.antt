-- A permutation leaves the elements that pass a test, if at most one does.
use Rattle.std.proofs.Common.{◌≡◌, ◌≤◌, Bool, true, false, cond, not, List, [], ◌∷◌, ◌++◌, length, filter, All, refl, sym, ap, subst, ◌∙◌}
use Rattle.std.proofs.Common.{arith}
use Rattle.std.specs.List.Sorted.{IsPermutation}
use Rattle.std.proofs.lemmas.List.Elements.{All-cons, All-filter, All-weaker, filter_passes}
use Rattle.std.proofs.lemmas.List.Sorted.{IsPermutation-filter_both, IsPermutation-sym, All-permutation, sum_by-IsPermutation}
use Rattle.std.proofs.lemmas.List.Sums.{length-filter}

module _ {X : Type 0} (p : X → Bool) where
  -- each that passes is the only one
  only : (v : X) (ys : List X) → filter p ys ≡ v ∷ [] → All (λ x. p x ≡ true → x ≡ v) ys
  only v ys one =
      let P : X → Type 0 = λ x. p x ≡ true → x ≡ v in
      let fails : X → Bool = λ x. not (p x) in
      let rest = filter fails ys in
      let others : All P rest =
      All-weaker (λ x. fails x ≡ true) P (λ x other own. let two : false ≡ true = sym (ap not own) ∙ other in absurd (cc)) rest
      (filter_passes fails ys) in
      All-permutation P (filter p ys ++ rest) ys
      (IsPermutation-sym ys (filter p ys ++ rest) (IsPermutation-filter_both p fails (λ x. refl) ys))
      (subst (λ xs. All P (xs ++ rest)) (sym one) (All-cons P v rest (λ own. refl) others))

  same_one : (xs ys us vs : List X) → IsPermutation xs ys → filter p xs ≡ us → filter p ys ≡ vs → length us ≡ length vs → length vs ≤ 1 → us ≡ vs
  same_one xs ys [] [] same mine theirs as_many few = refl
  same_one xs ys (u ∷ []) (v ∷ []) same mine theirs as_many few =
      let P : X → Type 0 = λ x. p x ≡ true → x ≡ v in
      let all = All-filter p P xs (All-permutation P ys xs (IsPermutation-sym xs ys same) (only v ys theirs)) in
      let passes = subst (All (λ x. p x ≡ true)) mine (filter_passes p xs) in
      ap (λ x. x ∷ []) (subst (All P) mine all 0 u (omega arith) (passes 0 u (omega arith)))
  same_one xs ys [] (v ∷ vs) same mine theirs as_many few = absurd (omega (arith, as_many))
  same_one xs ys (u ∷ us) [] same mine theirs as_many few = absurd (omega (arith, as_many))
  same_one xs ys (u ∷ w ∷ us) (v ∷ []) same mine theirs as_many few = absurd (omega (arith, as_many))
  same_one xs ys (u ∷ us) (v ∷ w ∷ vs) same mine theirs as_many few = absurd (omega (arith, few))

  pub filter-permutation : (xs ys : List X) → IsPermutation xs ys → length (filter p ys) ≤ 1 → filter p xs ≡ filter p ys
  filter-permutation xs ys same few =
      same_one xs ys (filter p xs) (filter p ys) same refl refl
      (length-filter p xs ∙ sym (sum_by-IsPermutation (λ x. cond (p x) 1 0) xs ys same) ∙ sym (length-filter p ys)) few
