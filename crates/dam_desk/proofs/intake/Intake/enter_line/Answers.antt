use Rattle.std.proofs.Common.{◌++◌, Option, ℕ, ap, ◌∙◌, subst}
use Rattle.std.proofs.lemmas.Result.{on_ok_weaker}
use Rattle.dam_desk.specs.DeskJournal.{answer_to}
use Rattle.dam_desk.specs.InputLines.{IsMeaning}
use Rattle.dam_desk.proofs.Steps.{periods_same}
use Rattle.dam_desk.proofs.intake.Intake.enter_line.Goals as goal

pub returns-clause-step : goal.returns-clause-step
returns-clause-step c before journal text at line =
    on_ok_weaker c.enter_and_answer.result (λ answered. record {
      meaning = c.in_ok-meaning.meaning;
      means = subst (λ (d : Option ℕ). IsMeaning d text c.in_ok-meaning.meaning) (periods_same c.args.self.now.day journal at.day) (c.in_ok-meaning.ensures text line);
      answer = answered.answer
          ∙ ap (λ (n : ℕ). c.args.self.now.answers.items ++ answer_to n journal c.in_ok-meaning.meaning) c.saturating_add-self.ensures;
      at = answered.at;
    }) (c.enter_and_answer.ensures.step before journal (record { day = at.day; text = at.text }))
