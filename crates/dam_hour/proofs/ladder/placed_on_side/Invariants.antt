-- The steps so far that are of the side.
use Rattle.std.proofs.Common.{◌≤◌, length, drop}
use Rattle.dam_hour.proofs.Ladders.{AreSoFar}
use Rattle.dam_hour.proofs.ladder.placed_on_side.Given as goal

abbrev pub invariant-loop-place : goal.invariant-loop-place
invariant-loop-place g l = record {
  few : length l.placed.items ≤ l.place;
  so_far : AreSoFar l.side l.placed.items l.place (drop l.place l.steps) l.steps;
}
