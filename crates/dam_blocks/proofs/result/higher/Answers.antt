-- Each of the two ranks at or below the higher.
use Rattle.dam_blocks.proofs.Ranks.{ranks_self, above_below}
use Rattle.dam_blocks.proofs.result.higher.Goals as goal

pub returns-then-ranks_above-clause-first : goal.returns-then-ranks_above-clause-first
returns-then-ranks_above-clause-first c = ranks_self _ _

pub returns-then-ranks_above-clause-second : goal.returns-then-ranks_above-clause-second
returns-then-ranks_above-clause-second c = above_below _ _ _ _ c.if-ranks_above.ensures

pub returns-else-ranks_above-clause-second : goal.returns-else-ranks_above-clause-second
returns-else-ranks_above-clause-second c = ranks_self _ _
