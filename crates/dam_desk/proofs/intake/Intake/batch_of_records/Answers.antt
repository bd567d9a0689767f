-- The lines of the batch are those of its records.
use Rattle.std.proofs.Common.{◌≡◌, ◌++◌, true, List, ℕ, Option, sym, ap, ◌∙◌}
use Rattle.dam_book.specs.Book.{commands_of}
use Rattle.dam_store.specs.FileLines.{text_of}
use Rattle.dam_desk.specs.inside.Intake.{records_text}
use Rattle.dam_desk.specs.inside.TextLines.{is_ended}
use Rattle.dam_desk.specs.declared.desk_day.DeskDay.{DeskDay}
use Rattle.dam_desk.proofs.Texts.{ended_records}
use Rattle.dam_desk.proofs.intake.Intake.batch_of_records.Goals as goal

pub returns : goal.returns
returns c =
    let begins = c.args.self.now.begins in
    let commands = commands_of c.args.self.now.entries.items in
    let ended : is_ended c.records_to_enter.result.now ≡ true = ap is_ended c.records_to_enter.ensures ∙ ended_records c.in-Some.day begins commands in
    c.in_ok-push_lines.ensures ended
    ∙ ap (λ (ls : List (List ℕ)). text_of ls ++ c.records_to_enter.result.now) c.in_ok-batch.ensures
    ∙ c.records_to_enter.ensures ∙ ap (λ (d : Option DeskDay). records_text d begins commands) (sym c.in-Some.is)
