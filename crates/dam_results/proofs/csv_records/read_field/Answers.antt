-- A field is read by the quote that begins it, or without one.
use Rattle.std.proofs.Common.{[]}
use Rattle.std.proofs.lemmas.Result.{IfOk-weaker}
use Rattle.dam_results.proofs.FieldParts.{EndsField-bare, EndsField-quoted}
use Rattle.dam_results.proofs.csv_records.read_field.Goals as goal

pub returns-in-Some : goal.returns-in-Some
returns-in-Some c =
    IfOk-weaker c.read_quoted.result _ _
    (λ read ends. EndsField-quoted c.args.text.now c.in-Some.quoted.now _ _ _ c.in-Some.ensures ends) c.read_quoted.ensures

pub returns-in-None : goal.returns-in-None
returns-in-None c = EndsField-bare c.args.text.now _ _ _ c.in-None.ensures (c.bare_part.ensures.ends [])
