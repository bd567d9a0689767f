-- The levels of the depths so far.
use Rattle.dam_bound.proofs.Levelling.{AreLevelsSoFar}
use Rattle.dam_bound.proofs.levels.Levels.of.Given as goal

abbrev pub invariant-loop-block : goal.invariant-loop-block
invariant-loop-block g l = AreLevelsSoFar l.period l.steps l.blocks l.block-index l.hours.items l.places.items
