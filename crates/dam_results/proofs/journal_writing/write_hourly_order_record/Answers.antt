-- The record of an hourly order.
use Rattle.std.proofs.Common.{◌≡◌, ◌∙◌, ℕ, List, ◌∷◌, [], ap, codes}
use Rattle.dam_book.specs.Fields.{price_text, volumes_text}
use Rattle.dam_book.specs.declared.order.Order.TheVariants.{Hour}
use Rattle.dam_book.specs.declared.command.Command.TheVariants.{Submit}
use Rattle.dam_results.specs.Records.{Fields, record_of_command, side_word}
use Rattle.dam_results.proofs.WriterLines.{writes_command}
use Rattle.dam_results.proofs.journal_writing.write_hourly_order_record.Goals as goal

abbrev hour_fields : List ℕ → List ℕ → List ℕ → List ℕ → List ℕ → Fields
hour_fields who name side price volumes = codes "submit" ∷ who ∷ name ∷ codes "hour" ∷ side ∷ price ∷ volumes ∷ [] ∷ [] ∷ []

same_fields : (w x n m s t p q v u : List ℕ) → w ≡ x → n ≡ m → s ≡ t → p ≡ q → v ≡ u → hour_fields w n s p v ≡ hour_fields x m t q u
same_fields w x n m s t p q v u a b d e f = cc

pub returns : goal.returns
returns c =
    let o = c.args.order.now in
    let row = hour_fields c.as_bytes.result.now c.as_bytes-2.result.now c.side_field.result.now c.as_slice.result.now
    c.as_slice-2.result.now in
    let command = Submit c.args.who.now c.args.name.now (Hour o) in
    let price : c.as_slice.result.now ≡ price_text o.price = c.as_slice.ensures.value ∙ c.in_ok-price.ensures.1
    ∙ ap price_text c.price.ensures in
    let volumes : c.as_slice-2.result.now ≡ volumes_text ((o.period, o.qty) ∷ []) = c.as_slice-2.ensures.value
    ∙ c.in_ok-volumes.ensures.1 in
    let same : row ≡ record_of_command command = same_fields _ _ _ _ _ _ _ _ _ _ c.as_bytes.ensures.value c.as_bytes-2.ensures.value
    (c.side_field.ensures ∙ ap side_word c.side.ensures) price volumes in
    writes_command c.args.out.now c.write_record.new.out c.write_record.result row command
    (c.as_bytes.ensures.valid, c.as_bytes-2.ensures.valid, c.in_ok-volumes.ensures.0) same c.write_record.ensures
