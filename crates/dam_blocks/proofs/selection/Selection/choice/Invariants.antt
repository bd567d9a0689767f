-- The places so far are chosen, and the rest of the number chooses the rest.
use Rattle.std.proofs.Common.{◌-◌, ◌<◌, ◌^◌}
use Rattle.dam_blocks.proofs.Choices.{IsChosen}
use Rattle.dam_blocks.proofs.selection.Selection.choice.Given as goal

abbrev pub invariant-loop-place : goal.invariant-loop-place
invariant-loop-place l = record {
  small : l.rest < 2 ^ (l.count - l.place);
  chosen : IsChosen l.count l.number l.place l.rest l.selection;
}
