-- An eligible selection has an outcome, and only one.
use Rattle.dam_blocks.proofs.Common.{◌≡◌, ℕ, suc, ℤ, Bool, List, [], ◌∷◌, ap₂, refl, Step, IsBest, Block, ProblemState, AreHoursInRange, IsProblem, net_volume}
use Rattle.dam_blocks.proofs.Common.{IsEligible, AreBestExecutions, IsOutcome}
use Rattle.dam_blocks.proofs.EmptySelection.{ExistenceLaws, AreWithin}
use Rattle.dam_blocks.proofs.ResultExists.{BalanceLaw, within_from_prices}
use Rattle.dam_blocks.proofs.PricesUnique.{prices_unique}

best_executions : ExistenceLaws → (blocks : List Block) (sel : List Bool) (t : ℕ) (hours : List (List Step)) → AreHoursInRange hours
    → AreWithin blocks sel t hours → (executions : List (List ℕ)) × AreBestExecutions blocks sel t hours executions
best_executions laws blocks sel t [] are within = ([], tt)
best_executions laws blocks sel t (ss ∷ hours) are within =
    let best = laws.best ss (net_volume blocks sel t) are.0 within.0 in
    let rest = best_executions laws blocks sel (suc t) hours are.1 within.1 in
    (best.0 ∷ rest.0, (best.1, rest.1))

pub outcome_found : ExistenceLaws → BalanceLaw → (problem : ProblemState) (sel : List Bool) (w : ℤ) → IsProblem problem
    → IsEligible problem sel w → (prices : List ℤ) × (executions : List (List ℕ)) × IsOutcome problem sel prices executions
outcome_found laws law problem sel w is e =
    let found = best_executions laws problem.blocks sel 1 problem.hours is.hours
    (within_from_prices law problem.blocks sel 1 problem.hours e.prices e.are_prices) in
    (e.prices, found.0, record { prices_are = e.are_prices; executions_are = found.1 })

-- the law of one period
abbrev pub OneBest : Type 0
OneBest = (ss : List Step) (net : ℤ) (xs ys : List ℕ) → IsBest ss net xs → IsBest ss net ys → xs ≡ ys

one_each : OneBest → (blocks : List Block) (sel : List Bool) (t : ℕ) (hours : List (List Step)) (executions others : List (List ℕ))
    → AreBestExecutions blocks sel t hours executions → AreBestExecutions blocks sel t hours others → executions ≡ others
one_each law blocks sel t [] [] [] are too = refl
one_each law blocks sel t [] [] (ys ∷ others) are too = absurd too
one_each law blocks sel t [] (xs ∷ executions) others are too = absurd are
one_each law blocks sel t (ss ∷ hours) [] others are too = absurd are
one_each law blocks sel t (ss ∷ hours) (xs ∷ executions) [] are too = absurd too
one_each law blocks sel t (ss ∷ hours) (xs ∷ executions) (ys ∷ others) are too =
    ap₂ (λ (v : List ℕ) (vs : List (List ℕ)). v ∷ vs) (law ss (net_volume blocks sel t) xs ys are.0 too.0)
    (one_each law blocks sel (suc t) hours executions others are.1 too.1)

pub one_outcome : OneBest → (problem : ProblemState) (sel : List Bool) (prices others : List ℤ) (executions more : List (List ℕ))
    → IsOutcome problem sel prices executions → IsOutcome problem sel others more → (prices ≡ others) × (executions ≡ more)
one_outcome law problem sel prices others executions more a b = (
  prices_unique problem.blocks sel 1 problem.hours prices others a.prices_are b.prices_are,
  one_each law problem.blocks sel 1 problem.hours executions more a.executions_are b.executions_are,
)
