use Rattle.dam_desk.proofs.Growth.{replies_run}
use Rattle.dam_desk.proofs.laws.replies_are_answers.Goals as goal

pub returns : goal.returns
returns c state last lines answers run = replies_run c.runs_grow.ensures.entries state lines answers last run
