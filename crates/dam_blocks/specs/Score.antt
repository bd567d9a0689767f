-- The verdict on a selection.
use Rattle.std.specs.Prelude.{◌≡◌, ℕ, ◌-◌, ◌<◌, ◌≤◌, ℤ, pos, ◌≤ℤ◌, ◌<ℤ◌, Bool, true, Some, List, slice_get}
use Rattle.dam_hour.specs.Execution.{IsBalanced, IsUnbalanced}
use Rattle.dam_hour.specs.declared.step.Step.{Step}
use Rattle.dam_blocks.specs.declared.problem.Block.{Block}
use Rattle.dam_blocks.specs.declared.scoring.Verdict.{Verdict}
use Rattle.dam_blocks.specs.declared.scoring.Verdict.TheVariants.{NotAdmissible, Unbalanced, Losing, Eligible}
use Rattle.dam_blocks.specs.Problem.{ProblemState}
use Rattle.dam_blocks.specs.Selection.{accepts, net_volume, IsAdmissible}
use Rattle.dam_blocks.specs.Eligible.{ArePrices, family_surplus, IsEligible}

-- no execution of the period balances, and one of each period before it does
pub record IsFirstUnbalanced (problem : ProblemState) (selection : List Bool) (t : ℕ) : Type 0 where
  pub from_one : 1 ≤ t
  pub hour : List Step
  pub stands : slice_get problem.hours (t - 1) ≡ Some hour
  pub unbalanced : IsUnbalanced hour (net_volume problem.blocks selection t)
  pub before : (s : ℕ) (steps : List Step) → 1 ≤ s → s < t → slice_get problem.hours (s - 1) ≡ Some steps
      → IsBalanced steps (net_volume problem.blocks selection s)

-- the accepted block at the place loses, and no accepted one before it does
pub record IsFirstLosing (blocks : List Block) (selection : List Bool) (prices : List ℤ) (i : ℕ)
    : Type 0 where
  pub accepted : accepts selection i ≡ true
  pub loses : family_surplus blocks selection prices i <ℤ pos 0
  pub before : (j : ℕ) → j < i → accepts selection j ≡ true
      → pos 0 ≤ℤ family_surplus blocks selection prices j

-- the first of the faults, or the welfare
abbrev pub IsVerdict : ProblemState → List Bool → Verdict → Type 0
IsVerdict problem selection NotAdmissible = ¬ (IsAdmissible problem.blocks selection)
IsVerdict problem selection (Unbalanced t) =
    IsAdmissible problem.blocks selection × IsFirstUnbalanced problem selection t
IsVerdict problem selection (Losing i) =
    IsAdmissible problem.blocks selection
    × ((prices : List ℤ) × ArePrices problem.blocks selection 1 problem.hours prices
    × IsFirstLosing problem.blocks selection prices i)
IsVerdict problem selection (Eligible welfare) = IsEligible problem selection (pos welfare)
