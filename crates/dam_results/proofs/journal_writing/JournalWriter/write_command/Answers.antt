-- The written journal of one command more.
use Rattle.std.proofs.Common.{subst}
use Rattle.std.proofs.lemmas.List.{flat_map_more}
use Rattle.std.proofs.lemmas.Result.{on_ok_weaker}
use Rattle.dam_results.specs.Records.{record_of_day}
use Rattle.dam_results.specs.Written.{command_line, record_line, written}
use Rattle.dam_results.specs.inside.Writer.{Wrote}
use Rattle.dam_results.proofs.journal_writing.JournalWriter.write_command.Goals as goal

pub returns-clause-written : goal.returns-clause-written
returns-clause-written c =
    on_ok_weaker c.write_command_record.result (λ writes periods commands at.
    subst (Wrote c.write_command_record.new.out) (flat_map_more command_line (record_line (record_of_day periods)) commands c.args.command.now)
    (writes.line (written periods commands) at)) c.write_command_record.ensures
