-- A block more.
use Rattle.dam_blocks.proofs.Common.{◌∙◌, sym, arith, rules, ints, slice_get_read, surplus_of}
use Rattle.std.proofs.lemmas.Bool.{and_from, and_left, and_right}
use Rattle.dam_blocks.specs.Magnitude.{greatest_surplus}
use Rattle.dam_blocks.proofs.RunningSums.{sum_more, sum_same}
use Rattle.dam_blocks.proofs.Families.{accepts_descendant}
use Rattle.dam_blocks.proofs.surpluses.surplus_of_descendants.Goals as goal
use Rattle.dam_blocks.proofs.surpluses.surplus_of_descendants.Goals.{then-has+then-descends, else-has, else-has-via-then-has+else-descends}
use Rattle.dam_blocks.proofs.surpluses.surplus_of_descendants.Goals.{else-has-via-else-has}

pub loop-other-preserved : goal.loop-other-preserved
loop-other-preserved c =
    let few = c.requires in
    let both = accepts_descendant c.args.blocks.now c.args.selection c.args.place c.loop-other.other in
    elim c.if-has.branch [
      | then-has+then-descends w ↦
          sum_more (surplus_of c.args.prices.now) greatest_surplus _ _ _ _ w.surplus-total.result _ c.index-blocks-other.result
          (slice_get_read _ _ _ _ (search rules) c.loop-other-test.true c.index-blocks-other.is)
          (both ∙ and_from _ _ (sym c.has.ensures.value ∙ w.if-has.true) (sym w.descends.ensures ∙ w.if-descends.true))
          w.surplus-total.ensures.value w.surplus-total.ensures.size.at_least w.surplus-total.ensures.size.at_most
          (omega (arith, ints, few, w.total-is)) c.loop-other.invariant
      | else-has w ↦ (elim w.else-has.branch [
        | else-has-via-then-has+else-descends v ↦
            sum_same (surplus_of c.args.prices.now) greatest_surplus _ _ _ _ _
            (both ∙ and_right _ _ (sym v.descends.ensures ∙ v.if-descends.false)) (omega (arith, ints, w.total-is)) c.loop-other.invariant
        | else-has-via-else-has v ↦
            sum_same (surplus_of c.args.prices.now) greatest_surplus _ _ _ _ _
            (both ∙ and_left _ _ (sym c.has.ensures.value ∙ v.if-has.false)) (omega (arith, ints, w.total-is)) c.loop-other.invariant
      ])
    ]
