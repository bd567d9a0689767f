-- A part in quotes ends at the next quote, or at the end of the text.
use Rattle.std.proofs.Common.{◌+◌}
use Rattle.dam_results.proofs.FieldParts.{quoted-none, quoted-some, rest_of}
use Rattle.dam_results.proofs.csv_records.quoted_part.Goals as goal

pub returns-in-None : goal.returns-in-None
returns-in-None c = λ begun. quoted-none begun c.args.text.now c.in-None.ensures

pub returns-in-Some : goal.returns-in-Some
returns-in-Some c = λ begun.
    rw (rest_of (c.in-Some.end + 1) c.args.text.now) (quoted-some begun c.args.text.now c.in-Some.end c.in-Some.ensures)
