-- The name of the gate that is opened.
use Rattle.dam_refusals.proofs.refused_calls.give_refused_commands.Given as goal

abbrev pub ghosts-give_refused_at_gate : goal.ghosts-give_refused_at_gate
ghosts-give_refused_at_gate g a = record { opening = a.opening }
