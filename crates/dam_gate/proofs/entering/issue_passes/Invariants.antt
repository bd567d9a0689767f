-- The passes of those so far.
use Rattle.std.proofs.Common.{◌≡◌, ℕ, List, Some, map, take}
use Rattle.dam_gate.specs.Pass.{knowing_nothing}
use Rattle.dam_gate.proofs.entering.issue_passes.Given as goal

abbrev pub invariant-loop-who : goal.invariant-loop-who
invariant-loop-who g l = l.passes.items ≡ map (λ (who : List ℕ). knowing_nothing (Some who)) (take l.who-index l.participants)
