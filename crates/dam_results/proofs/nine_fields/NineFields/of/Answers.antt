-- A record of nine fields is the list of its fields by place.
use Rattle.std.proofs.Common.{◌∙◌, sym}
use Rattle.std.proofs.lemmas.List.{length-map}
use Rattle.dam_results.specs.inside.Reader.{bytes_of, fields_of}
use Rattle.dam_results.proofs.FieldByField.{nine}
use Rattle.dam_results.proofs.Rules.{nine_alike}
use Rattle.dam_results.proofs.nine_fields.NineFields.of.Goals as goal

pub returns : goal.returns
returns c =
    nine (fields_of c.args.fields.now) (length-map c.args.fields.now bytes_of ∙ c.if-fields-ne9.false)
    ∙ sym (nine_alike _ _ _ _ _ _ _ _ _ _ _ _ _ _ _ _ _ _ c.field_or_empty.ensures c.field_or_empty-2.ensures
    c.field_or_empty-3.ensures c.field_or_empty-4.ensures c.field_or_empty-5.ensures c.field_or_empty-6.ensures
    c.field_or_empty-7.ensures c.field_or_empty-8.ensures c.field_or_empty-9.ensures)
