-- The name of the gate that is opened.
use Rattle.dam_refusals.proofs.refused_calls.enter_all.Given as goal

abbrev pub ghosts-enter_at_gate : goal.ghosts-enter_at_gate
ghosts-enter_at_gate g a = record { opening = a.opening }
