-- The commands so far are taken, and these are the participants who give them.
use Rattle.std.proofs.Common.{◌≡◌, ◌≤◌, [], length, take}
use Rattle.std.specs.List.{filter}
use Rattle.dam_gate.specs.Limits.{most_participants}
use Rattle.dam_gate.specs.Pass.{is_close}
use Rattle.dam_gate.specs.Day.{givers_of}
use Rattle.dam_gate.specs.inside.Entering.{AreGivers}
use Rattle.dam_gate.proofs.givers.find_givers.Given as goal

abbrev pub invariant-loop-place : goal.invariant-loop-place
invariant-loop-place l = record {
  few : length l.participants.items ≤ most_participants;
  givers : AreGivers l.participants.items (take l.place l.commands);
  order : l.participants.items ≡ givers_of (take l.place l.commands);
  no_close : filter is_close (take l.place l.commands) ≡ [];
}
