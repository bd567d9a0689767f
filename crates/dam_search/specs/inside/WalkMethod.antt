-- The method by which the pieces of a cutting are walked.
use Rattle.std.specs.Prelude.{◌≡◌, ℕ, ◌-◌, ◌≤◌, length}
use Rattle.std.proofs.Props.{props}
use Rattle.dam_blocks.specs.Problem.{ProblemState}
use Rattle.dam_bound.specs.NetLimits.{AreLimits}
use Rattle.dam_bound.specs.Relaxed.{without_rows}
use Rattle.dam_search.specs.declared.search_context.WalkMethod.{WalkMethod}
use Rattle.dam_search.specs.declared.search_context.WalkMethod.TheVariants.{ByPrices, ByPrefixes}
use Rattle.dam_search.specs.Piece.{node_count}
use Rattle.dam_search.specs.inside.Conflicts.{AreConflicts}
use Rattle.dam_search.specs.inside.PriceWalk.{IsDecisionOrder}

-- the method is for the pieces of the problem's cutting of this depth, and suits the limit on nodes: by prices only if no
-- piece can have more nodes
abbrev pub IsWalkMethod : ProblemState → ProblemState → ℕ → ℕ → WalkMethod → Type 0
IsWalkMethod problem rowless depth node_limit (ByPrices conflicts limits decision_order) =
    AreConflicts problem conflicts × AreLimits rowless limits.limits
    × IsDecisionOrder depth (length problem.blocks) decision_order.items
    × (node_count (length problem.blocks - depth) ≤ node_limit)
IsWalkMethod problem rowless depth node_limit (ByPrefixes relaxed) = relaxed ≡ without_rows problem

-- there is at most one proof that the method suits, as of each fact that a struct keeps
pub is_walk_method-proposition : (problem rowless : ProblemState) (depth node_limit : ℕ) (method : WalkMethod)
    → IsProp (IsWalkMethod problem rowless depth node_limit method)
is_walk_method-proposition problem rowless depth node_limit (ByPrices conflicts limits decision_order) = hlevel props
is_walk_method-proposition problem rowless depth node_limit (ByPrefixes relaxed) = hlevel props
