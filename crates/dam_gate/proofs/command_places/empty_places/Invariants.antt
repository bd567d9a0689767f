-- Those so far have no place.
use Rattle.std.proofs.Common.{◌≡◌, [], replicate}
use Rattle.dam_gate.proofs.command_places.empty_places.Given as goal

abbrev pub invariant-loop : goal.invariant-loop
invariant-loop l = l.all_places.items ≡ replicate l.counter []
