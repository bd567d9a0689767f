-- The counts of the answers so far.
use Rattle.std.proofs.Common.{take}
use Rattle.dam_search.specs.inside.Collect.{AreAnswerCounts}
use Rattle.dam_search.proofs.collect.answer_counts.Given as goal

abbrev pub invariant-loop-answer : goal.invariant-loop-answer
invariant-loop-answer l = AreAnswerCounts (take l.answer-index l.answers) l.counts
