-- An hour more.
use Rattle.dam_blocks.proofs.Common.{Vec, length, ap, ◌∙◌, refl, arith, slice_get_read, Step}
use Rattle.std.proofs.lemmas.List.{take_all, length-map}
use Rattle.dam_blocks.proofs.RowByRow.{hour_more, few_of_period}
use Rattle.dam_blocks.proofs.problem_making.hours_of.Goals as goal

pub build-requires : goal.build-requires
build-requires g c =
    let at = slice_get_read c.args.hourly.now _ _ _ refl c.loop-steps-test.true c.steps-item.is in
    let few = few_of_period (λ (steps : Vec Step g.row.A.Denot). steps.items) c.args.hourly.now _ _ at in
    let all = c.requires in
    omega (arith, few, all, ap length c.deref.ensures.value)

pub loop-steps-preserved : goal.loop-steps-preserved
loop-steps-preserved g c =
    let at = slice_get_read c.args.hourly.now _ _ _ refl c.loop-steps-test.true c.steps-item.is in
    hour_more (λ (steps : Vec Step g.row.A.Denot). steps.items) c.args.hourly.now c.loop-steps.steps-index _
    c.in_ok-build.field-0 _ _ at (c.in_ok-build.ensures ∙ c.deref.ensures.value) c.in_ok-push.ensures.items c.loop-steps.invariant

pub returns : goal.returns
returns g c =
    let long = length-map c.args.hourly.now (λ (steps : Vec Step g.row.A.Denot). steps.items) in
    c.loop-steps.invariant ∙ take_all c.loop-steps.steps-index _ (omega (arith, long, c.loop-steps-test.false))
