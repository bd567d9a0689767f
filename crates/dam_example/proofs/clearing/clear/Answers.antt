-- The published results of the result are the clearing of the closed book.
use Rattle.dam_example.proofs.clearing.clear.Goals as goal

pub returns : goal.returns
returns g c =
    let made = c.in_ok-problem.ensures.ok in let is_result = c.in_ok-best.ensures.0 in
    c.published_results_are_clearings.ensures c.args.book.now _ _ _ _ _ _ made.0 made.1 is_result c.in_ok-results.ensures
