-- Of two selections the first ranks above the second, or at or below it.
use Rattle.dam_search.proofs.Common.{pos, Bool, true, false, Option, Some, MatchBool, sym, subst, Solution, RanksAtOrBelow, IsMatched, Rises}
use Rattle.dam_blocks.specs.Result.{RanksAbove}
use Rattle.dam_search.proofs.Ranks.{above_below}
use Rattle.dam_search.proofs.walk_state.ranks_above_found.Goals as goal

compared : (r : Bool) (a b : Solution) → MatchBool r (RanksAbove (pos a.welfare) a.selection (pos b.welfare) b.selection)
    (RanksAtOrBelow (pos a.welfare) a.selection (pos b.welfare) b.selection)
    → MatchBool r (Rises (Some b) (Some a)) (IsMatched (pos a.welfare) a.selection (Some b))
compared true a b h = above_below (pos a.welfare) a.selection (pos b.welfare) b.selection h
compared false a b h = h

pub returns-in-Some : goal.returns-in-Some
returns-in-Some c =
    subst (λ (o : Option Solution). MatchBool c.ranks_above.result (Rises o (Some c.args.candidate.now))
    (IsMatched (pos c.args.candidate.now.welfare) c.args.candidate.now.selection o)) (sym c.in-Some.is)
    (compared c.ranks_above.result c.args.candidate.now c.in-Some.best c.ranks_above.ensures)
