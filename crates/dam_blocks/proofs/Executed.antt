-- One hourly order in an outcome.
use Rattle.dam_blocks.proofs.Common.{◌≡◌, ℕ, zero, suc, ◌+◌, ℤ, Bool, Some, List, [], ◌∷◌, subst, refl, arith, Step, IsExecution, IsBest, Block, ProblemState}
use Rattle.dam_blocks.proofs.Common.{net_volume, IsClearingPrice, ArePrices, AreBestExecutions, IsOutcome}
use Rattle.std.specs.List.{slice_get}
use Rattle.dam_hour.specs.Market.{IsExecutedAt}

-- an execution has a volume for each order
volume_at : (ss : List Step) (xs : List ℕ) (i : ℕ) (s : Step) → IsExecution ss xs → slice_get ss i ≡ Some s
    → (x : ℕ) × (slice_get xs i ≡ Some x)
volume_at [] xs i s e at = absurd (cc)
volume_at (r ∷ ss) [] i s e at = absurd e
volume_at (r ∷ ss) (x ∷ xs) zero s e at = (x, refl)
volume_at (r ∷ ss) (x ∷ xs) (suc i) s e at = volume_at ss xs i s e.1 at

executed_at : (ss : List Step) (net p : ℤ) (xs : List ℕ) (i : ℕ) (s : Step) (x : ℕ) → IsClearingPrice ss net p → IsBest ss net xs
    → slice_get ss i ≡ Some s → slice_get xs i ≡ Some x → IsExecutedAt ss net p i s x
executed_at ss net p xs i s x price best at volume = record {
  low = price.low;
  high = price.high;
  ends = price.ends;
  price_is = price.between;
  volumes = xs;
  best = best;
  stands = at;
  volume_is = volume;
}

-- the order at place i of period k, the period's price, the volumes of its orders, and this one's
abbrev IsExecutedIn : List ℤ → List (List ℕ) → ℕ → List Step → ℤ → ℕ → Step → Type 0
IsExecutedIn prices executions k ss net i s =
    (p : ℤ) × (xs : List ℕ) × (x : ℕ)
    × (slice_get prices k ≡ Some p) × (slice_get executions k ≡ Some xs) × (slice_get xs i ≡ Some x)
    × IsExecutedAt ss net p i s x

same_steps : (a b : List Step) → Some a ≡ Some b → a ≡ b
same_steps a b e = cc

executed_first : (ss : List Step) (net p : ℤ) (prices : List ℤ) (xs : List ℕ) (executions : List (List ℕ)) (i : ℕ) (s : Step)
    → IsClearingPrice ss net p → IsBest ss net xs → slice_get ss i ≡ Some s
    → IsExecutedIn (p ∷ prices) (xs ∷ executions) 0 ss net i s
executed_first ss net p prices xs executions i s price best at =
    let found = volume_at ss xs i s best.execution at in
    (p, xs, found.0, refl, refl, found.1, executed_at ss net p xs i s found.0 price best at found.1)

executed_from : (blocks : List Block) (sel : List Bool) (t : ℕ) (hours : List (List Step)) (prices : List ℤ)
    (executions : List (List ℕ)) (k i : ℕ) (ss : List Step) (s : Step) → ArePrices blocks sel t hours prices
    → AreBestExecutions blocks sel t hours executions → slice_get hours k ≡ Some ss → slice_get ss i ≡ Some s
    → IsExecutedIn prices executions k ss (net_volume blocks sel (k + t)) i s
executed_from blocks sel t [] prices executions k i ss s are best period at = absurd (cc)
executed_from blocks sel t (rs ∷ hours) [] executions k i ss s are best period at = absurd are
executed_from blocks sel t (rs ∷ hours) (p ∷ prices) [] k i ss s are best period at = absurd best
executed_from blocks sel t (rs ∷ hours) (p ∷ prices) (xs ∷ executions) zero i ss s are best period at =
    let same : rs ≡ ss = same_steps rs ss period in
    let first : t ≡ zero + t = omega arith in
    subst (λ (m : ℕ). IsExecutedIn (p ∷ prices) (xs ∷ executions) zero ss (net_volume blocks sel m) i s) first
    (executed_first ss (net_volume blocks sel t) p prices xs executions i s
    (subst (λ (hour : List Step). IsClearingPrice hour (net_volume blocks sel t) p) same are.0)
    (subst (λ (hour : List Step). IsBest hour (net_volume blocks sel t) xs) same best.0) at)
executed_from blocks sel t (rs ∷ hours) (p ∷ prices) (xs ∷ executions) (suc k) i ss s are best period at =
    let next : k + suc t ≡ suc k + t = omega arith in
    subst (λ (m : ℕ). IsExecutedIn (p ∷ prices) (xs ∷ executions) (suc k) ss (net_volume blocks sel m) i s) next
    (executed_from blocks sel (suc t) hours prices executions k i ss s are.1 best.1 period at)

pub orders_executed : (problem : ProblemState) (sel : List Bool) (prices : List ℤ) (executions : List (List ℕ)) (k i : ℕ)
    (ss : List Step) (s : Step) → IsOutcome problem sel prices executions → slice_get problem.hours k ≡ Some ss
    → slice_get ss i ≡ Some s → IsExecutedIn prices executions k ss (net_volume problem.blocks sel (k + 1)) i s
orders_executed problem sel prices executions k i ss s is period at =
    executed_from problem.blocks sel 1 problem.hours prices executions k i ss s is.prices_are is.executions_are period at
