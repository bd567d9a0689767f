-- The rests of the two are ordered as they are.
use Rattle.dam_blocks.proofs.Common.{◌≡◌, drop, accepts_first}
use Rattle.dam_blocks.proofs.result.accepts_first.Given as goal

abbrev pub invariant-loop-place : goal.invariant-loop-place
invariant-loop-place l = accepts_first (drop l.place l.first) (drop l.place l.second) ≡ accepts_first l.first l.second
