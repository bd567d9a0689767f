-- The least unfinished of the answers so far.
use Rattle.std.proofs.Common.{take}
use Rattle.dam_search.specs.inside.Collect.{IsLeastUnfinished}
use Rattle.dam_search.proofs.collect.least_unfinished.Given as goal

abbrev pub invariant-loop-answer : goal.invariant-loop-answer
invariant-loop-answer l = IsLeastUnfinished (take l.answer-index l.answers) l.least
