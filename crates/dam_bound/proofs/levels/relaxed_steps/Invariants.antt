-- The steps so far, and the blocks that are left.
use Rattle.dam_bound.proofs.Common.{◌≡◌, ◌++◌, drop, as_steps}
use Rattle.dam_bound.proofs.levels.relaxed_steps.Given as goal

abbrev pub invariant-loop-block : goal.invariant-loop-block
invariant-loop-block g l = l.relaxed.items ++ as_steps l.period (drop l.block-index l.blocks) ≡ l.steps ++ as_steps l.period l.blocks
