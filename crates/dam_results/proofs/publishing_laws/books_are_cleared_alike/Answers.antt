-- A problem has one best selection, and that is published in one way.
use Rattle.dam_results.proofs.BestSelections.{cleared-alike}
use Rattle.dam_results.proofs.publishing_laws.books_are_cleared_alike.Goals as goal

pub returns : goal.returns
returns c = cleared-alike (record {
  best = c.best_selection_is_result.ensures.result;
  result = c.result_is_unique.ensures;
  published =
      c.selections_are_published_alike.ensures;
})
