-- A walk by prices: its nodes, and the account of it.
use Rattle.std.specs.Prelude.{◌≡◌, ℕ, zero, suc, ◌<◌, ◌≤◌, max, ℤ, pos, ◌+ℤ◌, ◌-ℤ◌, ◌≤ℤ◌, ◌<ℤ◌, ◌⊎◌, ◌&&◌, Bool, true, false, not}
use Rattle.std.specs.Prelude.{Option, Some, None, List, [], ◌∷◌, length, slice_index_or, slice_set}
use Rattle.std.specs.Int.{int_min, int_max}
use Rattle.dam_book.specs.Limits.{most_blocks}
use Rattle.dam_blocks.specs.declared.selection.Solution.{Solution}
use Rattle.dam_blocks.specs.Problem.{ProblemState}
use Rattle.dam_blocks.specs.Selection.{accepts}
use Rattle.dam_blocks.specs.Eligible.{IsEligible}
use Rattle.dam_bound.specs.declared.pricing.Pricing.{Pricing}
use Rattle.dam_bound.specs.declared.net_limits.NetLimit.{NetLimit}
use Rattle.dam_bound.specs.declared.net_limits.Slack.{Slack}
use Rattle.dam_bound.specs.NetLimits.{slack_taken, AreSlacks, HasSlack}
use Rattle.dam_bound.specs.Open.{is_among, IsOpen, AreFree}
use Rattle.dam_bound.specs.Prices.{bound_of, IsPricing}
use Rattle.dam_search.specs.declared.node.Node.{Node}
use Rattle.dam_search.specs.declared.walk_state.WalkState.{WalkState}
use Rattle.dam_search.specs.Piece.{IsMatched, Rises, welfare_found}
use Rattle.dam_search.specs.inside.Collect.{IsLong}

-- ---- the nodes

-- the decisions of a node: no undecided place is accepted, and no rejected one is accepted or undecided
pub record AreDecisions (accepted rejected : List Bool) (undecided : List ℕ) : Type 0 where
  pub as_long : length accepted ≡ most_blocks
  pub free : AreFree accepted undecided
  pub few : length undecided ≤ most_blocks
  pub apart : (place : ℕ) → accepts rejected place ≡ true
      → (accepts accepted place ≡ false) × (is_among place undecided ≡ false)

-- the prices bound the welfare of each selection, and their bound of the open ones is at most this number
pub record IsBounded (problem : ProblemState) (prices : Pricing) (accepted : List Bool) (undecided : List ℕ)
    (bound : ℤ) : Type 0 where
  pub is_pricing : IsPricing problem prices
  pub bound_reaches : bound_of prices accepted undecided ≤ℤ bound

-- what the decisions of each eligible open selection take on the undecided places is no more than the slack
pub record IsSlack (problem : ProblemState) (limits : List NetLimit) (accepted : List Bool) (undecided : List ℕ) (slack : Slack)
    : Type 0 where
  pub slacks : AreSlacks slack.slacks
  pub has : (selection : List Bool) (welfare : ℤ) → IsOpen accepted undecided selection → IsEligible problem selection welfare
      → HasSlack limits selection (λ place. is_among place undecided) slack.slacks

-- a node of a walk by prices, with its bound by prices of the problem without rows, and its slack under these limits
pub record IsNode (problem rowless : ProblemState) (limits : List NetLimit) (node : Node) : Type 0 where
  pub decisions : AreDecisions node.accepted node.rejected node.undecided.now
  pub bounded : IsBounded rowless node.pricing.now node.accepted node.undecided.now node.bound
  pub slack : IsSlack problem limits node.accepted node.undecided.now node.slack.now

-- the slack under a limit that the decisions of `accepted` on the first n places leave
abbrev pub slack_left : NetLimit → List Bool → ℕ → ℤ
slack_left limit accepted zero = limit.slack
slack_left limit accepted (suc n) =
    slack_left limit accepted n
    -ℤ slack_taken (accepts accepted n) (slice_index_or limit.nets n (pos 0))

-- the selection decides on the first places as the other one does
abbrev pub AgreesUnder : ℕ → List Bool → List Bool → Type 0
AgreesUnder depth accepted selection = (place : ℕ) → place < depth → accepts selection place ≡ accepts accepted place

-- the places with this one too, if it is so decided
abbrev pub with_place_if : Bool → List Bool → ℕ → List Bool
with_place_if true accepted place = slice_set accepted place true
with_place_if false accepted place = accepted

-- the places with all of these too
abbrev pub with_all : List Bool → List ℕ → List Bool
with_all accepted [] = accepted
with_all accepted (place ∷ undecided) = with_all (slice_set accepted place true) undecided

-- a bound after a decision on a block with this gain: one against its sign costs its size
abbrev pub bound_after : Bool → ℤ → ℤ → ℤ
bound_after true bound gain = bound +ℤ int_min gain (pos 0)
bound_after false bound gain = bound -ℤ int_max gain (pos 0)

-- ---- the account of the walk

-- a find: none, or an eligible open selection with its welfare
abbrev pub IsOpenFind : ProblemState → List Bool → List ℕ → Option Solution → Type 0
IsOpenFind problem accepted undecided None = Unit {0}
IsOpenFind problem accepted undecided (Some best) =
    IsOpen accepted undecided best.selection × IsEligible problem best.selection (pos best.welfare)

-- the find changes to an eligible open selection, or not at all, and only rises
pub record FindsOpen (problem : ProblemState) (accepted : List Bool) (undecided : List ℕ)
    (before after : Option Solution) : Type 0 where
  pub found : (after ≡ before) ⊎ IsOpenFind problem accepted undecided after
  pub rises : Rises before after

-- each eligible open selection has less welfare than the value read or ranks at or below the selection that was found
abbrev pub CoversOpen : ProblemState → List Bool → List ℕ → Option Solution → ℕ → Type 0
CoversOpen problem accepted undecided best read =
    (selection : List Bool) (welfare : ℤ) → IsOpen accepted undecided selection → IsEligible problem selection welfare
    → (welfare <ℤ pos read) ⊎ IsMatched welfare selection best

-- a walk before it goes on, if these are the greatest value read of its incumbent and the greatest that was offered
pub record IsReady (greatest_read greatest_offer : ℕ) (state : WalkState) : Type 0 where
  pub read : state.incumbent_read ≡ greatest_read
  pub long : IsLong state.best
  pub offered : welfare_found state.best ≤ greatest_offer

-- a walk over the open selections: its find and value read before and after, the greatest value offered to its
-- incumbent before, and the greatest value read of it and offered to it after
pub record IsWalkedOpen (problem : ProblemState) (accepted : List Bool) (undecided : List ℕ)
    (greatest_offer_before greatest_read_after greatest_offer_after : ℕ) (before after : WalkState)
    : Type 0 where
  pub finds : FindsOpen problem accepted undecided before.best after.best
  pub covers : CoversOpen problem accepted undecided after.best after.incumbent_read
  pub grows : before.incumbent_read ≤ after.incumbent_read
  pub read : after.incumbent_read ≡ greatest_read_after
  pub offered : greatest_offer_after ≡ max greatest_offer_before (welfare_found after.best)

-- ---- the order of the decisions

-- no two of the places are the same
abbrev pub are_distinct : List ℕ → Bool
are_distinct [] = true
are_distinct (place ∷ places) = not (is_among place places) && are_distinct places

-- the places from `depth` on of this number of blocks, each once
pub record IsDecisionOrder (depth count : ℕ) (order : List ℕ) : Type 0 where
  pub few : length order ≤ most_blocks
  pub distinct : are_distinct order ≡ true
  pub within : (place : ℕ) → is_among place order ≡ true → (depth ≤ place) × (place < count)
  pub whole : (place : ℕ) → depth ≤ place → place < count → is_among place order ≡ true
