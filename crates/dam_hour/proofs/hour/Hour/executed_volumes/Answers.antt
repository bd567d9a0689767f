-- The volume that is left after the better steps fills the steps at the price in book order: the best
-- execution.
use Rattle.dam_hour.proofs.Common.{List, ap, ◌∙◌, Step, volumes_in_turn, total_on}
use Rattle.std.proofs.lemmas.Result.{IfOk-weaker}
use Rattle.dam_hour.proofs.Answering.{execution_answer}
use Rattle.dam_hour.proofs.hour.Hour.executed_volumes.Goals as goal

pub returns : goal.returns
returns g c net totals =
    let steps = c.args.self.now in let traded = c.args.traded.now in let left = c.remaining.result in
    IfOk-weaker c.volumes_in_turn.result _ _
    (λ volumes filled.
    execution_answer steps net traded.low traded.bought traded.sold left.buys left.sells volumes.items totals
    c.remaining.ensures.buys c.remaining.ensures.sells
    (filled ∙ ap (λ (all : List Step). volumes_in_turn traded.low all (λ side. total_on side left.buys left.sells)) c.steps.ensures.value))
    c.volumes_in_turn.ensures
