-- A block more, and all of them.
use Rattle.dam_bound.proofs.Common.{◌+◌, ◌∙◌, ap, rules, slice_get_read, net_volume_of_block}
use Rattle.dam_bound.proofs.MakingClasses.{number_more, nets_within, net_fits}
use Rattle.dam_bound.proofs.class_making.net_volumes_in.Goals as goal

pub loop-place-preserved : goal.loop-place-preserved
loop-place-preserved c =
    let b = c.index-blocks-place.result in
    number_more (net_volume_of_block (c.args.at + 1)) c.args.blocks.now c.loop-place.place b c.loop-place.nets _
    (slice_get_read _ _ _ _ (search rules) c.loop-place-test.true c.index-blocks-place.is) c.requires.few
    (net_fits _ c.net_volume_of_block.ensures.low c.net_volume_of_block.ensures.high ∙ c.net_volume_of_block.ensures.value
    ∙ ap (λ (t : _). net_volume_of_block t b.order) c.at-period.ensures)
    c.loop-place.invariant

pub returns-clause-size : goal.returns-clause-size
returns-clause-size c =
    nets_within c.requires.orders.0 (c.args.at + 1) c.args.blocks.now c.loop-place.place c.loop-place.nets c.requires.orders.1
    c.loop-place-test.false c.loop-place.invariant
