-- The welfare of the first selection is reached.
use Rattle.dam_search.proofs.Seats.{first_reached}
use Rattle.dam_search.proofs.search_context.SearchContext.of.Goals as goal

pub returns-clause-reached : goal.returns-clause-reached
returns-clause-reached g c =
    first_reached c.args.problem.now c.first_selection-first_welfare.result c.first_selection-first_welfare.ensures.eligible
