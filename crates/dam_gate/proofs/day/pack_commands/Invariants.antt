-- Those so far are packed.
use Rattle.std.proofs.Common.{◌≡◌, take}
use Rattle.dam_gate.proofs.day.pack_commands.Given as goal

abbrev pub invariant-loop-command : goal.invariant-loop-command
invariant-loop-command l = l.packed.items ≡ take l.command-index l.commands
