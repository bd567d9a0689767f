-- The keeper has an entry for each command so far; and the name of the gate that is opened.
use Rattle.std.proofs.Common.{◌≡◌, length}
use Rattle.dam_refusals.proofs.day.hold_day.Given as goal

abbrev pub invariant-loop-command : goal.invariant-loop-command
invariant-loop-command g l = length l.keeper.journal.entries ≡ l.command-index

abbrev pub ghosts-hold_at_gate : goal.ghosts-hold_at_gate
ghosts-hold_at_gate g a = record { opening = a.opening }
