-- The steps of a period at every depth, as they are kept.
use Rattle.std.specs.Prelude.{◌≡◌, ℕ, ◌+◌, ◌-◌, ◌*◌, ◌≤◌, Some, List, [], ◌++◌, length, map, drop}
use Rattle.std.specs.Prelude.{slice_get, slice_index_or}
use Rattle.dam_book.specs.Limits.{last_period, most_blocks}
use Rattle.dam_hour.specs.Limits.{most_steps, greatest_value}
use Rattle.dam_hour.specs.declared.step.Step.{Step}
use Rattle.dam_blocks.specs.declared.problem.Block.{Block}
use Rattle.dam_blocks.specs.Problem.{ProblemState}
use Rattle.dam_bound.specs.Relaxed.{as_steps}

-- the hours of a period, and for each depth the place of its hour among them
pub record LevelsState : Type 0 where
  pub hours : List (List Step)
  pub places : List ℕ

-- these are the steps at the depth
pub record IsAtDepth (levels : LevelsState) (depth : ℕ) (ss : List Step) : Type 0 where
  pub place : ℕ
  pub place_is : slice_get levels.places depth ≡ Some place
  pub hour_is : slice_get levels.hours place ≡ Some ss

-- at each depth the steps, and after them the blocks that it leaves undecided
abbrev pub AreLevels : ℕ → List Step → List Block → LevelsState → Type 0
AreLevels t ss blocks levels =
    (depth : ℕ) → depth ≤ length blocks → IsAtDepth levels depth (ss ++ as_steps t (drop depth blocks))

-- the steps of the last hour, in which every block is decided
abbrev pub last_steps : LevelsState → List Step
last_steps levels = slice_index_or levels.hours (length levels.hours - 1) []

-- these are the levels of the period at the place
pub record AreLevelsAt (hours : List (List Step)) (blocks : List Block) (place : ℕ) (levels : LevelsState) : Type 0 where
  pub last : slice_get hours place ≡ Some (last_steps levels)
  pub each : AreLevels (place + 1) (last_steps levels) blocks levels

-- the steps of each period at every depth
pub record AreDayLevels (blocks : List Block) (periods : List LevelsState) : Type 0 where
  pub few_periods : length periods ≤ last_period
  pub few_blocks : length blocks ≤ most_blocks
  pub each : (i : ℕ) (levels : LevelsState) → slice_get periods i ≡ Some levels
      → AreLevels (i + 1) (last_steps levels) blocks levels

-- the problem, apart from its rows, whose periods these are
abbrev pub problem_kept : List LevelsState → List Block → ProblemState
problem_kept periods blocks = record { hours = map last_steps periods; blocks = blocks; rows = [] }

-- the size of a period's part of a bound: the value of every step, and of every block that is accepted
abbrev pub greatest_period_bound : ℕ
greatest_period_bound = (most_steps + most_blocks) * greatest_value
