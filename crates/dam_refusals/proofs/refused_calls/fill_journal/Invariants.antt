-- The name of the gate that is opened.
use Rattle.dam_refusals.proofs.refused_calls.fill_journal.Given as goal

abbrev pub ghosts-fill_at_gate : goal.ghosts-fill_at_gate
ghosts-fill_at_gate g a = record { opening = a.opening }
