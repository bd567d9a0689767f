-- One choice more, and all of them.
use Rattle.std.proofs.Common.{arith}
use Rattle.dam_blocks.proofs.Choices.{one_tried, all_tried}
use Rattle.dam_blocks.proofs.result.best_of_all.Goals as goal

pub loop-number-preserved : goal.loop-number-preserved
loop-number-preserved g c =
    one_tried _ _ _ c.choice.result _ _ _ _ c.choice.ensures c.loop-number.invariant c.best_after_trying-best.ensures.eligible
    c.best_after_trying-best.ensures.kept c.best_after_trying-best.ensures.tried

pub returns : goal.returns
returns g c =
    all_tried _ _ c.loop-number.number _ _ c.block_count-count.ensures.value
    (omega (arith, c.block_count-count.ensures.value, c.block_count-count.ensures.valid.few_blocks))
    (omega (arith, c.choice_count-number-end.ensures)) c.loop-number.invariant
