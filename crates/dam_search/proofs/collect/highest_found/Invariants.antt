-- The highest selection that the answers so far found.
use Rattle.dam_search.proofs.Common.{take, IsLong, IsHighestFound}
use Rattle.dam_search.proofs.collect.highest_found.Given as goal

abbrev pub invariant-loop-answer : goal.invariant-loop-answer
invariant-loop-answer l = IsHighestFound (take l.answer-index l.answers) l.best × IsLong l.best
