-- In each period the net volume is within the offers, so that something balances and one execution is the best.
use Rattle.dam_blocks.proofs.EmptySelection.{ExistenceLaws}
use Rattle.dam_blocks.proofs.Outcomes.{outcome_found, one_outcome}
use Rattle.dam_blocks.proofs.market.an_eligible_selection_has_an_outcome.Goals as goal

pub returns : goal.returns
returns c =
    let laws : ExistenceLaws =
    record { ends = c.best_execution_exists.ensures.ends; best = c.best_execution_exists.ensures.best; welfare = c.best_has_greatest_welfare.ensures.best } in
    record { some = outcome_found laws c.balances_within_offers.ensures.within; one = one_outcome c.best_execution_is_unique.ensures.best }
