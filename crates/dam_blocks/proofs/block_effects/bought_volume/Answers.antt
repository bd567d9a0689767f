-- A block more.
use Rattle.dam_blocks.proofs.Common.{pos, ap, ◌∙◌, sym, arith, rules, ints, slice_get_read, greatest_volume}
use Rattle.dam_blocks.specs.Selection.{bought_volume_of_block}
use Rattle.dam_blocks.proofs.RunningSums.{sum_more, sum_same}
use Rattle.dam_blocks.proofs.block_effects.bought_volume.Goals as goal
use Rattle.dam_blocks.proofs.block_effects.bought_volume.Goals.{then-has, else-has}

pub loop-place-preserved : goal.loop-place-preserved
loop-place-preserved c =
    let few = c.requires in
    elim c.if-has.branch [
      | then-has w ↦
          sum_more (bought_volume_of_block c.args.period) greatest_volume _ _ _ _ _ _ c.index-blocks-place.result
          (slice_get_read _ _ _ _ (search rules) c.loop-place-test.true c.index-blocks-place.is) (sym c.has.ensures.value ∙ w.if-has.true)
          (ap pos w.from-total.ensures
          ∙ w.bought_volume_of_block.ensures.value) (omega (arith, ints)) (omega (arith, ints)) (omega (arith, ints, few, w.total-is))
          c.loop-place.invariant
      | else-has w ↦ sum_same (bought_volume_of_block c.args.period) greatest_volume _ _ _ _ _ (sym c.has.ensures.value
          ∙ w.if-has.false) (omega (arith, ints)) c.loop-place.invariant
    ]
