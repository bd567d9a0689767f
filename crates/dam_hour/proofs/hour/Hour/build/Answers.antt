-- A step more, which is in range.
use Rattle.dam_hour.proofs.Common.{List, sym, subst, arith, Step, AreInRange}
use Rattle.std.proofs.lemmas.Grind.{common_steps}
use Rattle.dam_hour.proofs.Ranges.{in_range_push}
use Rattle.dam_hour.proofs.hour.Hour.build.Goals as goal

pub loop-step-preserved : goal.loop-step-preserved
loop-step-preserved g c =
    let pushed = c.in_ok-push.ensures.items in
    record {
      items = grind (arith, common_steps);
      in_range = subst (λ (ss : List Step). AreInRange ss) (sym pushed)
          (in_range_push c.loop-step.in_range_steps.items c.use_range.result c.loop-step.invariant.in_range c.use_range.ensures.limit
          c.use_range.ensures.volume);
    }
