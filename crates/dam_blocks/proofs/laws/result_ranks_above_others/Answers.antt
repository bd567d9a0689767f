-- The order's two cases, and the result ranks above each other eligible selection.
use Rattle.dam_blocks.proofs.BestSelection.{above_cases, best_cases}
use Rattle.dam_blocks.proofs.laws.result_ranks_above_others.Goals as goal

pub returns : goal.returns
returns c = record { above = above_cases; others = best_cases }
