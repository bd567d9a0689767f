-- No search of a book has more nodes than the greatest limit allows.
use Rattle.std.proofs.Common.{ℕ, ◌+◌, ◌-◌, ◌^◌, ◌<◌, ◌≤◌, min, length, arith}
use lib.Pow.{pow_mono}
use Rattle.dam_book.specs.Limits.{most_blocks}
use Rattle.dam_book.specs.Book.{BookState}
use Rattle.dam_blocks.specs.Problem.{ProblemState, IsProblem, problem_of}
use Rattle.dam_plan.specs.Limits.{most_nodes}
use Rattle.dam_search.specs.Piece.{node_count}
use Rattle.dam_plan.specs.Plan.{PlanTerms}
use Rattle.dam_engines.specs.Clear.{IsCutShort}

nodes_within : (left : ℕ) → left ≤ most_blocks → node_count left ≤ most_nodes
nodes_within left few =
    let fits : left + 1 ≤ most_blocks + 1 = omega (arith, few) in
    let powers : 2 ^ (left + 1) ≤ 2 ^ (most_blocks + 1) = pow_mono fits in
    omega (arith, powers)

pub nodes_of_problem : (problem : ProblemState) → IsProblem problem → node_count (length problem.blocks) ≤ most_nodes
nodes_of_problem problem is = nodes_within (length problem.blocks) is.few_blocks

pub not_cut_short : (plan : PlanTerms) (book : BookState) (piece visited : ℕ) → IsProblem (problem_of book) → most_nodes ≤ plan.node_limit
    → ¬ (IsCutShort plan book piece visited)
not_cut_short plan book piece visited is limit cut =
    let blocks = length (problem_of book).blocks in
    let few : blocks - min plan.cut blocks ≤ most_blocks = omega (arith, is.few_blocks) in
    let within = nodes_within (blocks - min plan.cut blocks) few in
    let over = cut.unfinished.over_all in
    let no : 0 < 0 = omega (arith, within, over, limit) in
    omega (arith, no)
