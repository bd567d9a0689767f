-- The best selection of a problem is its result, and a closed book is cleared in one way.
use Rattle.std.proofs.Common.{◌≡◌, ◌≢◌, ◌<◌, ◌⊎◌, inl, inr, ℕ, ℤ, pos, ◌<ℤ◌, Bool, true, false, Option, Some, List, [], ◌∷◌, length, sym}
use Rattle.std.proofs.Common.{subst, arith}
use Rattle.std.proofs.lemmas.Int.{ints, by_lt_z}
use Rattle.dam_book.specs.Limits.{most_blocks}
use Rattle.dam_book.specs.Book.{BookState}
use Rattle.dam_blocks.specs.Problem.{ProblemState, problem_of}
use Rattle.dam_blocks.specs.Eligible.{IsEligible, selection_welfare}
use Rattle.dam_blocks.specs.Result.{accepts_first, RanksAbove, RanksAtOrBelow, IsResult}
use Rattle.dam_results.specs.declared.published.PeriodResult.{PeriodResult}
use Rattle.dam_results.specs.declared.published.RowResult.{RowResult}
use Rattle.dam_results.specs.Published.{ArePublished}
use Rattle.dam_results.specs.Clearing.{IsBestSelection, IsClearing}

-- the laws of the ranking of selections
pub record AreRanked : Type 0 where
  pub either : (v w : ℤ) (xs ys : List Bool) → RanksAbove v xs w ys ⊎ RanksAtOrBelow v xs w ys
  pub apart : (v w : ℤ) (xs ys : List Bool) → RanksAbove v xs w ys → ¬ (RanksAtOrBelow v xs w ys)
  pub itself : (v : ℤ) (xs : List Bool) → RanksAtOrBelow v xs v xs
  pub same : (v w : ℤ) (xs ys : List Bool) → length xs ≡ most_blocks → length ys ≡ most_blocks
      → RanksAtOrBelow v xs w ys → RanksAtOrBelow w ys v xs → (xs ≡ ys) × (v ≡ w)
  pub one : (problem : ProblemState) (sel : List Bool) (v w : ℤ) → IsEligible problem sel v → IsEligible problem sel w → v ≡ w

not_both : (xs ys : List Bool) → accepts_first xs ys ≡ true → ¬ (accepts_first ys xs ≡ true)
not_both [] ys e f = cc
not_both (true ∷ xs) [] e f = cc
not_both (false ∷ xs) [] e f = cc
not_both (true ∷ xs) (true ∷ ys) e f = not_both xs ys e f
not_both (false ∷ xs) (false ∷ ys) e f = not_both xs ys e f
not_both (true ∷ xs) (false ∷ ys) e f = cc
not_both (false ∷ xs) (true ∷ ys) e f = cc

-- the welfare of the second is less; or the same, and then the first accepts the first block at which they differ
abbrev IsBetter : ℤ → List Bool → ℤ → List Bool → Type 0
IsBetter v xs w ys = (w <ℤ v) ⊎ ((w ≡ v) × (accepts_first xs ys ≡ true))

above_better : (v w : ℤ) (xs ys : List Bool) → RanksAbove v xs w ys → IsBetter v xs w ys
above_better v w xs ys above =
    let most = above.by_welfare in
    by_lt_z w v
    (λ less. inl less)
    (λ not_less. let same : w ≡ v = omega (arith, ints, most, not_less) in inr (same, above.by_order (sym same)))

pub result-best : AreRanked → (problem : ProblemState) (sel : List Bool) (v : ℤ) → IsResult problem sel v → IsBestSelection problem sel v
result-best law problem sel v is = record {
  eligible = is.eligible;
  others = λ other w eligible differs.
      elim (law.either v w sel other) as (λ _. IsBetter v sel w other) [
        | inl above ↦ above_better v w sel other above
        | inr below ↦ absurd (differs (sym
            (law.same v w sel other is.eligible.as_long eligible.as_long below (is.others other w eligible)).0))
      ];
}

not_better : (v w : ℤ) (xs ys : List Bool) → RanksAbove w ys v xs → ¬ (IsBetter v xs w ys)
not_better v w xs ys above (inl less) = let most = above.by_welfare in absurd
    (let no : 0 < 0 = omega (arith, ints, most, less) in omega (arith, no))
not_better v w xs ys above (inr same) = not_both xs ys same.1 (above.by_order same.0)

pub best-result : AreRanked → (problem : ProblemState) (sel : List Bool) (v : ℤ) → IsBestSelection problem sel v → IsResult problem sel v
best-result law problem sel v best = record {
  eligible = best.eligible;
  others = λ other w eligible.
      elim (law.either w v other sel) as (λ _. RanksAtOrBelow w other v sel) [
        | inl above ↦
            (let differs : other ≢ sel = λ same.
            (let moved : IsEligible problem sel w = subst (λ xs. IsEligible problem xs w) same eligible in
            let alike : RanksAbove v sel v sel = subst (λ u. RanksAbove u sel v sel) (law.one problem sel w v moved best.eligible)
            (subst (λ xs. RanksAbove w xs v sel) same above) in
            law.apart v v sel sel alike (law.itself v sel)) in
            absurd (not_better v w sel other above (best.others other w eligible differs)))
        | inr below ↦ below
      ];
}

same_welfare : (o : Option ℤ) (v w : ℤ) → o ≡ Some v → o ≡ Some w → v ≡ w
same_welfare o v w e f = cc

pub published-cleared : ((problem : ProblemState) (sel : List Bool) (v : ℤ) → IsResult problem sel v → IsBestSelection problem sel v)
    → (book : BookState) (problem : ProblemState) (sel : List Bool) (found welfare : ℕ) (periods : List PeriodResult)
    (rows : List RowResult)
    → book.closed ≡ true → problem ≡ problem_of book → IsResult problem sel (pos found) → ArePublished problem sel welfare periods rows
    → IsClearing book welfare periods rows
published-cleared law book problem sel found welfare periods rows closed made is published =
    let best = law problem sel (pos found) is in
    let same : pos found ≡ pos welfare = same_welfare (selection_welfare problem sel) (pos found)
    (pos welfare) is.eligible.welfare_is published.welfare_is in
    let moved : IsBestSelection problem sel (pos welfare) = subst (λ v. IsBestSelection problem sel v) same best in
    record {
      closed = closed;
      selection = sel;
      best = subst (λ p. IsBestSelection p sel (pos welfare)) made moved;
      published = subst (λ p. ArePublished p sel welfare periods rows) made published;
    }

-- the published results of one selection, and the result of one problem
pub record AreOne : Type 0 where
  pub best : (problem : ProblemState) (sel : List Bool) (v : ℤ) → IsBestSelection problem sel v → IsResult problem sel v
  pub result : (problem : ProblemState) (xs ys : List Bool) (v w : ℤ) → IsResult problem xs v → IsResult problem ys w → (xs ≡ ys) × (v ≡ w)
  pub published : (problem : ProblemState) (sel : List Bool) (welfare other : ℕ) (periods days : List PeriodResult)
      (rows others : List RowResult)
      → ArePublished problem sel welfare periods rows → ArePublished problem sel other days others → (welfare ≡ other) × (periods ≡ days) ×
      (rows ≡ others)

pub cleared-alike : AreOne → (book : BookState) (welfare other : ℕ) (periods days : List PeriodResult) (rows others : List RowResult)
    → IsClearing book welfare periods rows → IsClearing book other days others → (welfare ≡ other) × (periods ≡ days) × (rows ≡ others)
cleared-alike law book welfare other periods days rows others a b =
    let problem = problem_of book in
    let same = law.result problem a.selection b.selection (pos welfare) (pos other) (law.best problem a.selection (pos welfare) a.best)
    (law.best problem b.selection (pos other) b.best) in
    let moved : ArePublished problem b.selection welfare periods rows = subst
    (λ sel. ArePublished problem sel welfare periods rows) same.0 a.published in
    law.published problem b.selection welfare other periods days rows others moved b.published
