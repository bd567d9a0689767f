-- The best of the choices so far.
use Rattle.std.proofs.Common.{pos}
use Rattle.dam_blocks.proofs.Choices.{IsBestSoFar}
use Rattle.dam_blocks.proofs.result.best_of_all.Given as goal

abbrev pub invariant-loop-number : goal.invariant-loop-number
invariant-loop-number g l = IsBestSoFar l.problem l.count l.number l.best.selection (pos l.best.welfare)
