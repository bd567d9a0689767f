-- The periods so far are summed.
use Rattle.std.proofs.Common.{drop}
use Rattle.dam_bound.proofs.Bounding.{IsBoundSoFar}
use Rattle.dam_bound.proofs.relaxed.Relaxed.bound.Given as goal

abbrev pub invariant-loop-place : goal.invariant-loop-place
invariant-loop-place g l = IsBoundSoFar l.self.blocks l.accepted (drop l.depth l.self.blocks) l.self.hours l.place l.total
