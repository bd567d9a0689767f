-- Each doubled quote continues the field, and the part after the last quote ends it.
use Rattle.std.proofs.Common.{◌≡◌, ℕ, List, [], ◌∷◌, ◌++◌, ap, ◌∙◌, length, arith}
use Rattle.csv.specs.Writing.{quote_mark}
use Rattle.csv.specs.declared.parser.State.TheVariants as st
use Rattle.dam_results.proofs.FieldParts.{Continues-doubled, EndsField-from, EndsField-after_quote}
use Rattle.dam_results.proofs.csv_records.read_joined.Goals as goal

pub loop-doubled-smaller : goal.loop-doubled-smaller
loop-doubled-smaller c =
    let part = c.quoted_part.ensures [] in
    let less = part.shorter in
    let long = ap length c.in-Some.ensures in
    omega arith

pub loop-doubled-preserved : goal.loop-doubled-preserved
loop-doubled-preserved c =
    let begun : List ℕ = c.loop-doubled.field.items ++ quote_mark ∷ [] in
    let more : c.extend_from_slice.new.self.items ≡ begun ++ c.quoted_part.result.0.now =
    c.in_ok-extend_from_slice.ensures.items
    ∙ ap (λ (xs : List ℕ). xs ++ c.quoted_part.result.0.now) c.in_ok-push.ensures.items in
    rw more (Continues-doubled c.args.first.now c.args.text.now c.loop-doubled.field.items c.loop-doubled.rest.now c.in-Some.doubled.now
    (begun ++ c.quoted_part.result.0.now) c.quoted_part.result.1.now c.loop-doubled.invariant c.in-Some.ensures
    (c.quoted_part.ensures begun))

pub returns : goal.returns
returns c =
    let ends = c.bare_part.ensures.ends c.loop-doubled.field.items in
    rw c.in_ok-extend_from_slice-2.ensures.items
    (EndsField-from st.AfterQuote st.AfterQuote c.args.first.now c.args.text.now c.loop-doubled.field.items c.loop-doubled.rest.now _ _ _
    c.loop-doubled.invariant (EndsField-after_quote _ _ _ _ _ c.in_default.ensures ends))
