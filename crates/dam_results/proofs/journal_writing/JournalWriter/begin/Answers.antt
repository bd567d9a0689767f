-- The record of the day is the written journal of no commands.
use Rattle.std.proofs.Common.{◌∙◌, [], ap, sym, subst, append-nil}
use Rattle.dam_results.specs.Records.{record_of_day}
use Rattle.dam_results.specs.Written.{record_line}
use Rattle.dam_results.specs.inside.Writer.{Wrote}
use Rattle.dam_results.proofs.WriterLines.{wrote_none}
use Rattle.dam_results.proofs.journal_writing.JournalWriter.begin.Goals as goal

pub returns-clause-written : goal.returns-clause-written
returns-clause-written c =
    let from = c.from_writer-out.ensures in
    let none = wrote_none c.from_writer-out.result from.fields from.wrote (from.cfg ∙ c.new.ensures)
    (ap (λ v. v.items) from.wtr ∙ c.new-2.ensures.items) from.empty in
    subst (Wrote c.write_day_record.new.out) (sym (append-nil (record_line (record_of_day c.args.periods)))) (c.in_ok-write_day_record.ensures.line [] none)
