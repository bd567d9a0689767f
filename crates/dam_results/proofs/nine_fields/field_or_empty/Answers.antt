-- A field by its place.
use Rattle.std.proofs.Common.{ap, ◌∙◌}
use Rattle.dam_results.specs.inside.Reader.{bytes_of}
use Rattle.dam_results.proofs.FieldByField.{field_or_empty-at, field_or_empty-past}
use Rattle.dam_results.proofs.nine_fields.field_or_empty.Goals as goal

pub returns-in-Some : goal.returns-in-Some
returns-in-Some c =
    c.bytes.ensures ∙ ap bytes_of c.in-Some.ensures.lookup.1
    ∙ field_or_empty-at c.args.fields.now c.args.place c.in-Some.field.now c.in-Some.ensures.lookup.3.0

pub returns-in-None : goal.returns-in-None
returns-in-None c = field_or_empty-past c.args.fields.now c.args.place c.in-None.ensures.lookup.3
