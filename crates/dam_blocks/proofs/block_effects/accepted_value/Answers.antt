-- A block more.
use Rattle.dam_blocks.proofs.Common.{◌∙◌, sym, arith, rules, ints, slice_get_read, greatest_value, value_in}
use Rattle.dam_blocks.proofs.RunningSums.{sum_more, sum_same}
use Rattle.dam_blocks.proofs.block_effects.accepted_value.Goals as goal
use Rattle.dam_blocks.proofs.block_effects.accepted_value.Goals.{then-has, else-has}

pub loop-place-preserved : goal.loop-place-preserved
loop-place-preserved c =
    let few = c.requires in
    elim c.if-has.branch [
      | then-has w ↦
          sum_more (value_in c.args.period) greatest_value _ _ _ _ w.value_in-total.result _ c.index-blocks-place.result
          (slice_get_read _ _ _ _ (search rules) c.loop-place-test.true c.index-blocks-place.is) (sym c.has.ensures.value ∙ w.if-has.true)
          w.value_in-total.ensures.value w.value_in-total.ensures.size.at_least w.value_in-total.ensures.size.at_most
          (omega (arith, ints, few, w.total-is)) c.loop-place.invariant
      | else-has w ↦ sum_same (value_in c.args.period) greatest_value _ _ _ _ _ (sym c.has.ensures.value
          ∙ w.if-has.false) (omega (arith, ints)) c.loop-place.invariant
    ]
