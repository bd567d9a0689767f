-- The fewer blocks' result is eligible among all of them, with the block rejected.
use Rattle.dam_blocks.proofs.Withdrawing.{more_welfare}
use Rattle.dam_blocks.proofs.market.a_block_more_never_lowers_welfare.Goals as goal

pub returns : goal.returns
returns c = record {
  welfare = λ problem other place block selection fewer welfare less is_whole is_rest without all few.
      more_welfare problem other place block selection fewer less welfare is_whole is_rest without few all;
}
