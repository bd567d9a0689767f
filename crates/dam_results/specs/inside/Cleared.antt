-- The periods of a selection, cleared one by one before its results are published.
use Rattle.std.specs.Prelude.{◌≡◌, ℕ, ◌-◌, ℤ, Bool, Option, Some, List, slice_get}
use Rattle.std.specs.Option.{option_and_then}
use Rattle.dam_hour.specs.Execution.{IsBalanced}
use Rattle.dam_hour.specs.Best.{IsBest}
use Rattle.dam_hour.specs.declared.step.Step.{Step}
use Rattle.dam_blocks.specs.declared.problem.Block.{Block}
use Rattle.dam_blocks.specs.Problem.{ProblemState}
use Rattle.dam_blocks.specs.Selection.{net_volume}
use Rattle.dam_blocks.specs.Market.{AreBestExecutions}
use Rattle.dam_results.specs.declared.published.PeriodResult.{PeriodResult}
use Rattle.dam_results.specs.Published.{IsPeriodResult, ArePeriodResults, prices_of}

-- period t, counted from 1, is a period of the day, and some execution balances there
pub record IsBalancedIn (problem : ProblemState) (sel : List Bool) (t : ℕ) : Type 0 where
  pub hour : List Step
  pub stands : slice_get problem.hours (t - 1) ≡ Some hour
  pub balanced : IsBalanced hour (net_volume problem.blocks sel t)

-- the published results of period t, counted from 1, and its best execution
pub record IsCleared (problem : ProblemState) (sel : List Bool) (t : ℕ) (published : PeriodResult)
    (executed : List ℕ) : Type 0 where
  pub hour : List Step
  pub stands : slice_get problem.hours (t - 1) ≡ Some hour
  pub result : IsPeriodResult problem.blocks sel t hour published
  pub best : IsBest hour (net_volume problem.blocks sel t) executed

-- the published results of these periods from the first on, their prices and their best executions
pub record AreCleared (blocks : List Block) (sel : List Bool) (hours : List (List Step))
    (periods : List PeriodResult) (prices : List ℤ) (executions : List (List ℕ)) : Type 0 where
  pub are_periods : ArePeriodResults blocks sel 1 hours periods
  pub are_prices : prices ≡ prices_of periods
  pub are_best : AreBestExecutions blocks sel 1 hours executions

-- the volume at place i of the k-th execution
abbrev pub volume_at : List (List ℕ) → ℕ → ℕ → Option ℕ
volume_at executions k i = option_and_then (λ xs. slice_get xs i) (slice_get executions k)
