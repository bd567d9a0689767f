-- The laws of one period give the prices and the welfare with no block.
use Rattle.dam_blocks.proofs.EmptySelection.{empty_eligible}
use Rattle.dam_blocks.proofs.laws.empty_is_eligible.Goals as goal

pub returns : goal.returns
returns c = λ problem is. empty_eligible
    (record { ends = c.best_execution_exists.ensures.ends; best = c.best_execution_exists.ensures.best; welfare = c.best_has_greatest_welfare.ensures.best }) problem is.hours
