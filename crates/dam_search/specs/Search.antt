-- The answer of a search, and the meaning of its limit on nodes.
use Rattle.std.specs.Prelude.{◌≡◌, ℕ, ◌-◌, ◌^◌, ◌<◌, pos, true, Option, Result, Ok, Err, length}
use Rattle.dam_blocks.specs.declared.selection.Solution.{Solution}
use Rattle.dam_blocks.specs.Problem.{ProblemState}
use Rattle.dam_blocks.specs.Selection.{choice}
use Rattle.dam_blocks.specs.Result.{IsResult}
use Rattle.dam_search.specs.declared.fault.SearchFault.{SearchFault}
use Rattle.dam_search.specs.declared.fault.SearchFault.TheVariants.{Memory, AnswerMissingOrRepeated, Unfinished}
use Rattle.dam_search.specs.Piece.{node_count, live_nodes, HasNeeded, IsSound, IsSpent}
use Rattle.dam_search.specs.Answer.{IsReached}

-- a piece of the cutting that was searched to its end within the limit: its answer is sound and done, and read no
-- more than some eligible selection has
pub record IsFinished (problem : ProblemState) (depth node_limit piece : ℕ) : Type 0 where
  pub best : Option Solution
  pub incumbent_read : ℕ
  pub visited : ℕ
  pub sound : IsSound problem (choice depth piece) best incumbent_read true
  pub reached : IsReached problem incumbent_read
  pub spent :
      IsSpent problem (choice depth piece) (length problem.blocks - depth)
      0 node_limit visited incumbent_read true

-- the least piece of the cutting that isn't finished: it visited as many nodes as it may, which is less than either
-- bound on those that it can need
pub record IsUnfinished (problem : ProblemState) (depth node_limit piece visited : ℕ) : Type 0 where
  pub in_cutting : piece < 2 ^ depth
  pub limit_met : visited ≡ node_limit
  pub over_all : node_limit < node_count (length problem.blocks - depth)
  pub over_live : node_limit < live_nodes problem 0 (choice depth piece) (length problem.blocks - depth)
  pub least : (lesser : ℕ) → lesser < piece → IsFinished problem depth node_limit lesser

-- the limit is at least the number of nodes that each piece of the cutting must visit, even if the result's
-- welfare, which is this one, is read from the start. A lesser limit gives no result. This is a necessary
-- number, not a sufficient one
abbrev pub LimitHasNeeded : ProblemState → ℕ → ℕ → ℕ → Type 0
LimitHasNeeded problem depth node_limit welfare = (piece : ℕ) → piece < 2 ^ depth
    → HasNeeded problem (choice depth piece) (length problem.blocks - depth) welfare node_limit

-- the answer of a search by the cutting of this depth, with this limit on the nodes of each piece. A selection is the
-- problem's result, and the limit is at least the number of nodes that each piece must visit: a lesser one gives no
-- result. `Unfinished` names the least piece that isn't finished. Memory may run out. No answer about a piece is missing
-- or repeated
abbrev pub IsSearched : ProblemState → ℕ → ℕ → Result Solution SearchFault → Type 0
IsSearched problem depth node_limit (Ok best) =
    IsResult problem best.selection (pos best.welfare)
    × LimitHasNeeded problem depth node_limit best.welfare
IsSearched problem depth node_limit (Err (Unfinished piece visited)) =
    IsUnfinished problem depth node_limit piece visited
IsSearched problem depth node_limit (Err Memory) = Unit {0}
IsSearched problem depth node_limit (Err (AnswerMissingOrRepeated piece)) = ⊥
