-- Eligibility is decided, and the empty selection is eligible, so that trying every choice ends with the best.
use Rattle.dam_blocks.proofs.ResultExists.{result_exists}
use Rattle.dam_blocks.proofs.laws.result_exists.Goals as goal

pub returns : goal.returns
returns c = λ problem is. result_exists
    (record { ends = c.best_execution_exists.ensures.ends; best = c.best_execution_exists.ensures.best; welfare = c.best_has_greatest_welfare.ensures.best })
    c.balances_within_offers.ensures.within problem is (c.empty_is_eligible.ensures problem is)
