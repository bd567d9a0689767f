-- Those so far.
use Rattle.dam_blocks.specs.Selection.{are_of_one_group}
use Rattle.dam_blocks.proofs.Hindering.{AreFoundSoFar}
use Rattle.dam_blocks.proofs.hindrances.group_places.Given as goal

abbrev pub invariant-loop-at : goal.invariant-loop-at
invariant-loop-at l = AreFoundSoFar (λ b. are_of_one_group l.block b) l.blocks l.at l.places.items
