-- Limits that every eligible selection keeps, and the slack that decisions leave under them.
use Rattle.std.specs.Prelude.{◌≡◌, ℕ, zero, suc, ◌*◌, ◌<◌, ℤ, pos, neg_ℤ, ◌+ℤ◌, ◌≤ℤ◌, Bool, true, false, List, [], length, slice_index_or}
use Rattle.std.specs.Int.{int_max}
use Rattle.dam_book.specs.Limits.{most_blocks, greatest_volume}
use Rattle.dam_blocks.specs.Problem.{ProblemState}
use Rattle.dam_blocks.specs.Magnitude.{IsWithin}
use Rattle.dam_blocks.specs.Selection.{accepts}
use Rattle.dam_blocks.specs.Eligible.{IsEligible}
use Rattle.dam_bound.specs.declared.net_limits.NetLimit.{NetLimit}

-- how many limits there are
abbrev pub most_limits : ℕ
most_limits = 32

-- how much slack a decision on a block with this number takes
abbrev pub slack_taken : Bool → ℤ → ℤ
slack_taken true net = int_max net (pos 0)
slack_taken false net = int_max (neg_ℤ net) (pos 0)

-- the number if the place counts, else 0
abbrev pub if_open : Bool → ℤ → ℤ
if_open true z = z
if_open false z = pos 0

-- what the decisions of a selection take on the first n places that are open
abbrev pub taken_under : List ℤ → List Bool → (ℕ → Bool) → ℕ → ℤ
taken_under nets selection free zero = pos 0
taken_under nets selection free (suc n) =
    taken_under nets selection free n +ℤ if_open (free n) (slack_taken (accepts selection n) (slice_index_or nets n (pos 0)))

-- every place is open
abbrev pub every_place : ℕ → Bool
every_place place = true

-- the size of the slack under a limit
abbrev pub greatest_slack : ℕ
greatest_slack = most_blocks * greatest_volume

-- a limit that every eligible selection keeps
pub record IsLimit (problem : ProblemState) (limit : NetLimit) : Type 0 where
  pub long : length limit.nets ≡ most_blocks
  pub small : (place : ℕ) (d : ℤ) → place < most_blocks → IsWithin greatest_volume (slice_index_or limit.nets place d)
  pub slack_is : IsWithin greatest_slack limit.slack
  pub keeps : (selection : List Bool) (w : ℤ) → IsEligible problem selection w
      → taken_under limit.nets selection every_place most_blocks ≤ℤ limit.slack

-- the limit at the place
abbrev pub limit_in : List NetLimit → ℕ → NetLimit
limit_in limits k = slice_index_or limits k (record { nets = []; slack = pos 0 })

-- the limits of the problem
pub record AreLimits (problem : ProblemState) (limits : List NetLimit) : Type 0 where
  pub many : length limits ≡ most_limits
  pub each : (k : ℕ) → k < most_limits → IsLimit problem (limit_in limits k)

-- a number for each limit, of this size at most
pub record AreSlacksWithin (greatest : ℕ) (slacks : List ℤ) : Type 0 where
  pub many : length slacks ≡ most_limits
  pub small : (k : ℕ) (d : ℤ) → k < most_limits → IsWithin greatest (slice_index_or slacks k d)

-- the slacks under limits
abbrev pub AreSlacks : List ℤ → Type 0
AreSlacks slacks = AreSlacksWithin greatest_slack slacks

-- what the decisions of the selection take on the places that are open is no more than the slack under each limit
abbrev pub HasSlack : List NetLimit → List Bool → (ℕ → Bool) → List ℤ → Type 0
HasSlack limits selection free slacks = (k : ℕ) → k < most_limits
    → taken_under (limit_in limits k).nets selection free most_blocks ≤ℤ slice_index_or slacks k (pos 0)
