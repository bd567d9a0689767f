use Rattle.std.proofs.lemmas.Result.{on_ok_weaker}
use Rattle.dam_desk.proofs.intake.Intake.enter_day.Goals as goal

pub returns-in_default-clause-step : goal.returns-in_default-clause-step
returns-in_default-clause-step c before journal at =
    on_ok_weaker c.begin_day.result (λ answered. record { answer = answered.answer; at = answered.at })
    (c.begin_day.ensures.step before journal (record { day = at.day; text = at.text }))
