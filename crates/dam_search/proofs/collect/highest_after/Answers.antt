-- The selection found before stays, or the answer's own takes its place.
use Rattle.dam_search.proofs.Common.{Option, Some, sym, subst, Solution, Rises}
use Rattle.dam_search.proofs.Ranks.{stays}
use Rattle.dam_search.proofs.collect.highest_after.Goals as goal

pub returns-in_default-clause-before : goal.returns-in_default-clause-before
returns-in_default-clause-before c = stays c.args.best

pub returns-then-ranks_above_found-clause-answer : goal.returns-then-ranks_above_found-clause-answer
returns-then-ranks_above_found-clause-answer c =
    subst (λ (o : Option Solution). Rises o (Some c.in-Some.candidate)) (sym c.in-Some.is) (stays (Some c.in-Some.candidate))

pub returns-else-ranks_above_found-clause-before : goal.returns-else-ranks_above_found-clause-before
returns-else-ranks_above_found-clause-before c = stays c.args.best
