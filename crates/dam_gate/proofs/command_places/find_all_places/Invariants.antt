-- The places of the commands so far are found.
use Rattle.std.proofs.Common.{take}
use Rattle.dam_gate.specs.inside.Entering.{AreAllPlaces}
use Rattle.dam_gate.proofs.command_places.find_all_places.Given as goal

abbrev pub invariant-loop-place : goal.invariant-loop-place
invariant-loop-place l = AreAllPlaces l.commands (take l.place l.commands) l.participants l.all_places.items
