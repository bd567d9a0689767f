-- A volume more.
use Rattle.std.proofs.Common.{arith}
use Rattle.dam_hour.proofs.VolumesInTurn.{fill_more}
use Rattle.dam_hour.proofs.execution.volumes_in_turn.Goals as goal

pub loop-step-preserved : goal.loop-step-preserved
loop-step-preserved g c =
    fill_more c.args.price c.args.steps.now c.loop-step.step-index c.step-item.result c.loop-step.volumes.items c.push.new.self.items _
    c.executed_at-share.result c.on.result
    c.loop-step.left.buys c.loop-step.left.sells c.after-left.result.buys c.after-left.result.sells
    c.loop-step.invariant c.in_ok-push.ensures.items (omega arith) c.step-item.is c.on.ensures c.executed_at-share.ensures.value
    c.after-left.ensures.buys c.after-left.ensures.sells
