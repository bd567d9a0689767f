-- Those so far, and those that are left.
use Rattle.std.proofs.Common.{◌≡◌, ◌+◌, ◌≤◌, drop}
use Rattle.dam_blocks.specs.inside.Hindrances.{count_accepted}
use Rattle.dam_blocks.proofs.hindrances.count_accepted.Given as goal

abbrev pub invariant-loop-place : goal.invariant-loop-place
invariant-loop-place l = record {
  few : l.accepted ≤ l.place-index;
  sum : l.accepted + count_accepted l.selection (drop l.place-index l.places) ≡ count_accepted l.selection l.places;
}
