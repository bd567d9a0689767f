-- The better limit raises the welfare of the selections that accept the block, and no other; at each
-- limit there is a result.
use Rattle.dam_blocks.proofs.EmptySelection.{ExistenceLaws}
use Rattle.dam_blocks.proofs.Repricing.{kept, same_outcome}
use Rattle.dam_blocks.proofs.WorstLimit.{worst_limit}
use Rattle.dam_blocks.proofs.market.a_better_limit_keeps_a_block.Goals as goal

pub returns : goal.returns
returns c =
    let laws : ExistenceLaws =
    record { ends = c.best_execution_exists.ensures.ends; best = c.best_execution_exists.ensures.best; welfare = c.best_has_greatest_welfare.ensures.best } in
    record { accepted = kept; outcome = same_outcome; worst = worst_limit laws c.balances_within_offers.ensures.within }
