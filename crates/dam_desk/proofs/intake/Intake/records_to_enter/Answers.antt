-- The records of the batch are all, or those after the record of the day.
use Rattle.std.proofs.Common.{Bool, Some, sym, ap, ◌∙◌}
use Rattle.std.specs.List.{flat_map}
use Rattle.dam_book.specs.Book.{commands_of}
use Rattle.dam_results.specs.Records.{record_of_day}
use Rattle.dam_results.specs.Written.{command_line, record_line}
use Rattle.dam_desk.specs.inside.Intake.{records_text}
use Rattle.dam_desk.proofs.Lists.{fits_before, left_after}
use Rattle.dam_desk.proofs.intake.Intake.records_to_enter.Goals as goal

pub slice_bounds-result-count : goal.slice_bounds-result-count
slice_bounds-result-count c = fits_before c.day_record.result.now c.args.records.now (record_line (record_of_day c.args.day.now.periods))
    (flat_map command_line (commands_of c.args.self.now.entries.items)) c.day_record.ensures c.requires

pub slice_bounds-result-start : goal.slice_bounds-result-start
slice_bounds-result-start c = fits_before c.day_record.result.now c.args.records.now (record_line (record_of_day c.args.day.now.periods))
    (flat_map command_line (commands_of c.args.self.now.entries.items)) c.day_record.ensures c.requires

pub returns-then-self : goal.returns-then-self
returns-then-self c = c.requires
    ∙ ap (λ (b : Bool). records_text (Some c.args.day.now) b (commands_of c.args.self.now.entries.items)) (sym c.if-self.true)

pub returns : goal.returns
returns c =
    left_after c.day_record.result.now c.args.records.now (record_line (record_of_day c.args.day.now.periods))
    (flat_map command_line (commands_of c.args.self.now.entries.items)) c.day_record.ensures c.requires
    ∙ ap (λ (b : Bool). records_text (Some c.args.day.now) b (commands_of c.args.self.now.entries.items)) (sym c.if-self.false)
