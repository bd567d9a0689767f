-- The next record starts at the first byte that doesn't end a line.
use Rattle.std.proofs.Common.{sym, ◌∙◌}
use Rattle.dam_results.proofs.FieldParts.{rest_of}
use Rattle.dam_results.proofs.RecordsLeft.{no_row, starts_row}
use Rattle.dam_results.proofs.csv_records.from_next_record.Goals as goal

pub returns-in_err-start : goal.returns-in_err-start
returns-in_err-start c = rw c.from_residual.ensures (no_row c.args.text.now (sym c.in_err-start.was ∙ c.record_start.ensures))

pub returns : goal.returns
returns c =
    rw (rest_of c.in_ok-start.start c.args.text.now)
    (starts_row c.args.text.now c.in_ok-start.start (sym c.in_ok-start.was ∙ c.record_start.ensures))
