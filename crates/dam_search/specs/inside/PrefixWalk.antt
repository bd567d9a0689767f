-- The account of a walk from a prefix: the selection that it finds, its cost, and its effect on the
-- incumbent.
use Rattle.std.specs.Prelude.{◌≡◌, ℕ, ◌+◌, ◌-◌, ◌*◌, ◌^◌, ◌<◌, ◌≤◌, max, ℤ, pos, ◌<ℤ◌, ◌⊎◌, Bool, true, false, Option}
use Rattle.std.specs.Prelude.{List, [], length}
use Rattle.dam_blocks.specs.declared.selection.Solution.{Solution}
use Rattle.dam_blocks.specs.Problem.{ProblemState}
use Rattle.dam_blocks.specs.Eligible.{IsEligible}
use Rattle.dam_bound.specs.Prefix.{IsCompletion}
use Rattle.dam_bound.specs.Relaxed.{live_count}
use Rattle.dam_search.specs.declared.walk_state.WalkState.{WalkState}
use Rattle.dam_search.specs.Piece.{IsFind, IsMatched, Rises, welfare_found, HasNeeded}

-- the find changes to an eligible completion of the prefix, or not at all, and only rises
pub record Finds (problem : ProblemState) (prefix : List Bool) (before after : Option Solution)
    : Type 0 where
  pub found : (after ≡ before) ⊎ IsFind problem prefix after
  pub rises : Rises before after

-- once the walk is done, each eligible completion has less welfare than the value read or ranks at
-- or below the selection that was found
abbrev pub Covers : ProblemState → List Bool → Option Solution → ℕ → Type 0
Covers problem prefix best read =
    (selection : List Bool) (welfare : ℤ) → IsCompletion prefix selection → IsEligible problem selection welfare
    → (welfare <ℤ pos read) ⊎ IsMatched welfare selection best

-- the nodes visited before and after, if this number of blocks is undecided and the value was read
-- before
pub record Spends (problem : ProblemState) (prefix : List Bool)
    (undecided_count greatest_read node_limit before after : ℕ) (done : Bool) : Type 0 where
  pub grows : before ≤ after
  pub within : after ≤ node_limit
  pub all : after + 1 ≤ before + 2 ^ (undecided_count + 1)
  pub live : (v : ℕ) → v ≤ greatest_read → after ≤ before + 1 + 2 * live_count problem v prefix undecided_count
  pub unfinished : done ≡ false → after ≡ node_limit
  pub over_all : done ≡ false → node_limit + 1 < before + 2 ^ (undecided_count + 1)
  pub over_live : done ≡ false → (v : ℕ) → v ≤ greatest_read
      → node_limit < before + 1 + 2 * live_count problem v prefix undecided_count

-- the greatest value read by the walk before and after, compared with the greatest value read of
-- its incumbent
pub record ReadsIncumbent (undecided_count visited_before visited_after read_before read_after greatest_read_before
    greatest_read_after : ℕ) : Type 0 where
  pub grows : read_before ≤ read_after
  pub greatest_read : greatest_read_after ≡ max greatest_read_before read_after
  pub asked : visited_before < visited_after → 0 < undecided_count → read_after ≡ greatest_read_after
  pub unvisited : visited_after ≡ visited_before → read_after ≡ read_before
  pub full : undecided_count ≡ 0 → read_after ≡ read_before

-- a walk before it goes on: it may visit this number of nodes, and these are the greatest value read
-- of its incumbent and the greatest that was offered
pub record IsGoing (problem : ProblemState) (node_limit greatest_read greatest_offer : ℕ) (state : WalkState)
    : Type 0 where
  pub within : state.visited ≤ node_limit
  pub read : state.incumbent_read ≤ greatest_read
  pub best : IsFind problem [] state.best
  pub offered : welfare_found state.best ≤ greatest_offer

-- a walk from the prefix, and whether it is done: its find, value read and visited nodes before and
-- after, and the greatest value read of its incumbent and offered to it before and after
pub record IsWalked (problem : ProblemState) (prefix : List Bool)
    (node_limit greatest_read_before greatest_offer_before greatest_read_after greatest_offer_after : ℕ)
    (before after : WalkState) (done : Bool) : Type 0 where
  pub finds : Finds problem prefix before.best after.best
  pub covers : done ≡ true → Covers problem prefix after.best after.incumbent_read
  pub spends : Spends problem prefix (length problem.blocks - length prefix) greatest_read_before
      node_limit before.visited after.visited done
  pub needed : done ≡ true → HasNeeded problem prefix (length problem.blocks - length prefix)
      after.incumbent_read (after.visited - before.visited)
  pub reads : ReadsIncumbent (length problem.blocks - length prefix) before.visited after.visited
      before.incumbent_read after.incumbent_read greatest_read_before greatest_read_after
  pub offered : greatest_offer_after ≡ max greatest_offer_before (welfare_found after.best)
