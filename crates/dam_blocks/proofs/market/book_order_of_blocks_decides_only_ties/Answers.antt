-- Block by block.
use Rattle.dam_blocks.proofs.BlockOrder.{counterpart, same_welfare}
use Rattle.dam_blocks.proofs.market.book_order_of_blocks_decides_only_ties.Goals as goal

pub returns : goal.returns
returns c = record {
  selections = λ problem other selection welfare is_one is_other change eligible.
      (let found = counterpart problem other selection welfare is_one is_other change eligible in
      (found.0, found.1.same, found.1.prices, found.1.eligible));
  welfare = same_welfare;
}
