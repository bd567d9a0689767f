-- A block more.
use Rattle.dam_bound.proofs.Common.{◌≡◌, ◌∙◌, rules, slice_get_read, value_in, over_periods}
use mir.Syntax.{w64}
use mir.Val.{to_z, of_z}
use Rattle.dam_bound.proofs.MakingClasses.{number_more}
use Rattle.dam_bound.proofs.class_making.values_of.Goals as goal

pub loop-place-preserved : goal.loop-place-preserved
loop-place-preserved c =
    let narrow : to_z w64 (of_z w64 c.value_in_first.result) ≡ c.value_in_first.result = search rules in
    number_more (λ o. over_periods (λ t. value_in t o) 1 c.args.count) c.args.blocks.now c.loop-place.place c.index-blocks-place.result
    c.loop-place.values _ (slice_get_read _ _ _ _ (search rules) c.loop-place-test.true c.index-blocks-place.is) c.requires.few
    (narrow ∙ c.value_in_first.ensures.value) c.loop-place.invariant
