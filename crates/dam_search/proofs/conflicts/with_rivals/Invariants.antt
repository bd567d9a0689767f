-- The places so far are excluded.
use Rattle.dam_search.specs.inside.Conflicts.{Excludes}
use Rattle.dam_search.proofs.conflicts.with_rivals.Given as goal

abbrev pub invariant-loop-other : goal.invariant-loop-other
invariant-loop-other g l = Excludes (g.P.PriceOracle.problem l.oracle) l.place l.excluded
