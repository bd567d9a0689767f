-- There is a step for each block at most.
use Rattle.std.proofs.Common.{length, length-append, ap, ◌∙◌, arith}
use Rattle.dam_bound.specs.Relaxed.{as_steps}
use Rattle.dam_bound.proofs.Ranges.{few_steps}
use Rattle.dam_bound.proofs.levels.relaxed_hour.Goals as goal

pub build-requires : goal.build-requires
build-requires g c =
    let steps = c.requires.steps in let blocks = c.requires.blocks in
    let is = ap length (c.deref.ensures.value ∙ c.in_ok-relaxed.ensures) in
    omega (
      arith,
      steps,
      blocks,
      is,
      length-append c.args.steps.now (as_steps c.args.period c.args.blocks.now),
      few_steps c.args.period c.args.blocks.now,
    )
