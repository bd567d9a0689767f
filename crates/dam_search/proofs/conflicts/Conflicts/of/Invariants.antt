-- The rows so far are the conflicts of their blocks.
use Rattle.dam_search.specs.inside.Conflicts.{AreConflicts}
use Rattle.dam_search.proofs.conflicts.Conflicts.of.Given as goal

abbrev pub invariant-loop-place : goal.invariant-loop-place
invariant-loop-place g l = AreConflicts l.problem l.conflicts
