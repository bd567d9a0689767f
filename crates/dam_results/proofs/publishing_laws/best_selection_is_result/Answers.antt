-- Of two selections, one ranks above the other; so "no eligible one ranks above it" is "it is better than each other eligible one".
use Rattle.dam_results.proofs.BestSelections.{best-result, result-best}
use Rattle.dam_results.proofs.publishing_laws.best_selection_is_result.Goals as goal

pub returns-clause-best : goal.returns-clause-best
returns-clause-best c = result-best
    (record {
      either = c.ranking_is_total.ensures.either;
      apart = c.ranking_is_total.ensures.apart;
      itself = c.ranking_is_total.ensures.itself;
      same =
          c.ranking_is_total.ensures.same;
      one = c.verdict_tells_eligibility.ensures.one;
    })

pub returns-clause-result : goal.returns-clause-result
returns-clause-result c = best-result
    (record {
      either = c.ranking_is_total.ensures.either;
      apart = c.ranking_is_total.ensures.apart;
      itself = c.ranking_is_total.ensures.itself;
      same =
          c.ranking_is_total.ensures.same;
      one = c.verdict_tells_eligibility.ensures.one;
    })
