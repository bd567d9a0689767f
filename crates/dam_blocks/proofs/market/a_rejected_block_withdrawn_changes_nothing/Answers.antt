-- The selections of the other problem are those that reject the block.
use Rattle.dam_blocks.proofs.Withdrawing.{result_without, outcome_without, sums_without}
use Rattle.dam_blocks.proofs.market.a_rejected_block_withdrawn_changes_nothing.Goals as goal

pub returns-clause-result : goal.returns-clause-result
returns-clause-result c = result_without

pub returns-clause-outcome : goal.returns-clause-outcome
returns-clause-outcome c problem other place block selection welfare prices executions is without eligible outcome off =
    outcome_without problem other place block selection prices executions is without eligible.as_long outcome off

pub returns-clause-sums : goal.returns-clause-sums
returns-clause-sums c = sums_without
