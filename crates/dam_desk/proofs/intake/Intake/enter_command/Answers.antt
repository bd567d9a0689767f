-- A command that has room is entered.
use Rattle.std.proofs.Common.{◌+◌, ◌++◌, ℕ, refl, sym, ap, ◌∙◌}
use Rattle.dam_book.specs.Book.{book_after, reply_to}
use Rattle.dam_results.specs.Replies.{reply_line}
use Rattle.dam_desk.proofs.Lists.{on_ok_all}
use Rattle.dam_desk.proofs.Steps.{command_entered}
use Rattle.dam_desk.proofs.intake.Intake.enter_command.Goals as goal

pub returns-clause-step : goal.returns-clause-step
returns-clause-step c before journal at =
    let day = c.in-Some.day in
    let command = c.args.command.now in
    let same = c.entered_count-number.ensures in
    on_ok_all c.apply_and_append_entry.result _ _ _ _ _ (λ book entered entries replies.
    command_entered c.args.self.now _ before journal day c.apply_and_append_entry.new.self command at c.in-Some.is refl (record {
      room = sym c.is_full.ensures.value ∙ c.if-is_full.false;
      periods = c.apply_and_append_entry.ensures.periods;
      book = λ cs is. book ∙ ap (λ b. book_after b command) is ∙ sym (c.runs_grow.ensures.book day.periods cs command);
      entered = entered ∙ ap (λ (n : ℕ). n + 1) same;
    }) refl entries
    (replies ∙ ap (λ (n : ℕ). c.args.self.now.answers.items ++ reply_line (n + 1) (reply_to day.book command)) same))
    c.apply_and_append_entry.ensures.book c.apply_and_append_entry.ensures.entered c.apply_and_append_entry.ensures.entries c.apply_and_append_entry.ensures.replies
