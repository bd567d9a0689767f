-- The answer of the search of the book's problem is the answer for the book.
use Rattle.std.proofs.Common.{Err, length, min, subst}
use Rattle.std.proofs.lemmas.Result.{err_from_is_err_and}
use Rattle.dam_blocks.specs.Problem.{ProblemState}
use Rattle.dam_search.specs.Search.{IsSearched}
use Rattle.dam_engines.specs.Clear.{PlanHasNeeded}
use Rattle.dam_engines.proofs.Fronts.{search_fault-book}
use Rattle.dam_engines.proofs.clear.clear_book.Goals as goal

pub returns-in_err-best-clause-fault : goal.returns-in_err-best-clause-fault
returns-in_err-best-clause-fault g c =
    let p = err_from_is_err_and c.from_residual-in_err-best.result c.from_residual-in_err-best.ensures.1 in
    let made = c.in_ok-problem.ensures.ok in
    let plan = c.args.plan in let fault = c.in_err-best.field-0.0 in
    rw (p.1, p.2) (search_fault-book plan c.args.book.now fault made.0
    (subst (λ (problem : ProblemState). IsSearched problem (min plan.cut (length problem.blocks)) plan.node_limit (Err fault)) made.1
    c.in_err-best.ensures))

pub returns-clause-done : goal.returns-clause-done
returns-clause-done g c =
    let made = c.in_ok-problem.ensures.ok in
    let clearing = c.published_results_are_clearings.ensures c.args.book.now _ _ _ _ _ _ made.0 made.1 c.in_ok-best.ensures.0
    c.in_ok-published.ensures in
    let found = c.in_ok-published.published in
    let needed : PlanHasNeeded c.args.plan c.in_ok-problem.problem = record {
      selection = _;
      welfare = _;
      best = c.in_ok-best.ensures.0;
      needed = c.in_ok-best.ensures.1;
    } in (
      (found.welfare, found.periods.items, found.rows.items, clearing, c.in_ok-results_text.ensures),
      subst (λ (problem : ProblemState). PlanHasNeeded c.args.plan problem) made.1 needed,
    )
