-- With the worse limit, the selections that accept the block have less welfare, and the rest is the
-- same.
use Rattle.dam_blocks.proofs.Repricing.{unchanged}
use Rattle.dam_blocks.proofs.market.a_worse_limit_keeps_a_rejection.Goals as goal

pub returns : goal.returns
returns c = record { result = unchanged }
