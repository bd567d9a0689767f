-- The name of the gate that was just opened
use Rattle.dam_gate.proofs.day.run_packed.Given as goal

abbrev pub ghosts-run_at_own_gate : goal.ghosts-run_at_own_gate
ghosts-run_at_own_gate g a = record { opening = a.start.opening }
