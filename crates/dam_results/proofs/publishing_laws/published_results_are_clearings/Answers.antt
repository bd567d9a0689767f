-- The published welfare is the welfare of the result.
use Rattle.dam_results.proofs.BestSelections.{published-cleared}
use Rattle.dam_results.proofs.publishing_laws.published_results_are_clearings.Goals as goal

pub returns : goal.returns
returns c = published-cleared c.best_selection_is_result.ensures.best
