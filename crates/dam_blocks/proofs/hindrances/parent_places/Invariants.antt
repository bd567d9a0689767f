-- Those so far.
use Rattle.dam_blocks.specs.Family.{names}
use Rattle.dam_blocks.proofs.Hindering.{AreFoundSoFar}
use Rattle.dam_blocks.proofs.hindrances.parent_places.Given as goal

abbrev pub invariant-loop-at : goal.invariant-loop-at
invariant-loop-at l = AreFoundSoFar (λ b. names b l.block) l.blocks l.at l.places.items
