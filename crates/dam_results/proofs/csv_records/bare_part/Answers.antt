-- A field without quotes ends at the first comma or line end, or at the end of the text.
use Rattle.std.proofs.Common.{◌+◌}
use Rattle.dam_results.proofs.FieldParts.{bare-none, bare-some, rest_of}
use Rattle.dam_results.proofs.csv_records.bare_part.Goals as goal

pub returns-in-None-clause-ends : goal.returns-in-None-clause-ends
returns-in-None-clause-ends c = λ begun. bare-none begun c.args.text.now c.in-None.ensures

pub returns-in-Some-clause-ends : goal.returns-in-Some-clause-ends
returns-in-Some-clause-ends c = λ begun.
    rw (rest_of (c.in-Some.end + 1) c.args.text.now) (bare-some begun c.args.text.now c.in-Some.end c.in-Some.ensures)
