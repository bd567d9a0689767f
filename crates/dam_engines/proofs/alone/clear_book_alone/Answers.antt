-- The published results of the problem's result are the clearing of the closed book.
use Rattle.std.proofs.Common.{◌≡◌, ℕ, length, min, subst, sym, arith}
use Rattle.dam_blocks.specs.Problem.{ProblemState}
use Rattle.dam_search.specs.Search.{LimitHasNeeded}
use Rattle.dam_engines.specs.Clear.{PlanHasNeeded, terms_alone}
use Rattle.dam_engines.proofs.alone.clear_book_alone.Goals as goal

pub returns-clause-done : goal.returns-clause-done
returns-clause-done c =
    let made = c.in_ok-problem.ensures.ok in
    let clearing = c.published_results_are_clearings.ensures c.args.book.now _ _ _ _ _ _ made.0 made.1 c.in_ok-best.ensures.0
    c.in_ok-published.ensures in
    let found = c.in_ok-published.published in
    let best = c.in_ok-best.best in
    let problem = c.in_ok-problem.problem in
    let uncut : min 0 (length problem.blocks) ≡ 0 = omega arith in
    let needed : PlanHasNeeded (terms_alone c.args.node_limit) problem = record {
      selection = best.selection;
      welfare = best.welfare;
      best = c.in_ok-best.ensures.0;
      needed = subst (λ (depth : ℕ). LimitHasNeeded problem depth c.args.node_limit best.welfare) (sym uncut) c.in_ok-best.ensures.1;
    } in (
      (found.welfare, found.periods.items, found.rows.items, clearing, c.in_ok-results_text.ensures),
      subst (λ (problem : ProblemState). PlanHasNeeded (terms_alone c.args.node_limit) problem) made.1 needed,
    )
