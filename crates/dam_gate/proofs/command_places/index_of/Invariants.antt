-- The participant is none of those so far.
use Rattle.std.proofs.Common.{◌≡◌, false, take}
use Rattle.dam_gate.specs.Day.{is_one_of}
use Rattle.dam_gate.proofs.command_places.index_of.Given as goal

abbrev pub invariant-loop-at : goal.invariant-loop-at
invariant-loop-at l = is_one_of (take l.at l.participants) l.who ≡ false
