-- The kind of a record is its first field.
use Rattle.std.proofs.Common.{◌∙◌}
use Rattle.dam_results.specs.inside.Reader.{fields_of}
use Rattle.dam_results.proofs.FieldByField.{first_kind}
use Rattle.dam_results.proofs.journal_reading.kind_field.Goals as goal

pub returns : goal.returns
returns c = c.field_or_empty.ensures ∙ first_kind (fields_of c.args.fields.now)
