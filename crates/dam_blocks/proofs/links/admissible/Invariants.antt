-- Each accepted place so far is allowed.
use Rattle.dam_blocks.proofs.Common.{◌≡◌, ℕ, ◌<◌, true, accepts, IsAllowed}
use Rattle.dam_blocks.proofs.links.admissible.Given as goal

abbrev pub invariant-loop-place : goal.invariant-loop-place
invariant-loop-place g l = (i : ℕ) → i < l.place → accepts l.selection i ≡ true → IsAllowed l.problem.blocks l.selection i
