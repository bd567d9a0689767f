-- How a search is shared out.
use Rattle.std.specs.Prelude.{ℕ, ◌≤◌}
use Rattle.dam_plan.specs.Limits.{most_workers, most_cut, most_nodes}

-- how many workers there are, how many blocks the cutting decides, and how many nodes of a piece
-- may be visited
pub record PlanTerms : Type 0 where
  pub workers : ℕ
  pub cut : ℕ
  pub node_limit : ℕ

-- each number is within its limits
pub record IsPlan (p : PlanTerms) : Type 0 where
  pub some_worker : 1 ≤ p.workers
  pub few_workers : p.workers ≤ most_workers
  pub shallow : p.cut ≤ most_cut
  pub some_node : 1 ≤ p.node_limit
  pub few_nodes : p.node_limit ≤ most_nodes
