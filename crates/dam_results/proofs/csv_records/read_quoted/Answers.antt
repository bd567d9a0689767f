-- A field in quotes ends after its first part if no bytes come before the next comma or line end, and is joined otherwise.
use Rattle.std.proofs.Common.{◌≡◌, ◌==◌, ℕ, true, List, [], ◌∷◌, length, append-nil, refl, arith}
use Rattle.std.proofs.lemmas.Bool.Decides.{nat_tests}
use Rattle.std.proofs.lemmas.Result.{IfOk-weaker}
use Rattle.csv.specs.declared.parser.State.TheVariants as st
use Rattle.dam_results.proofs.FieldParts.{EndsField-from, EndsField-after_quote}
use Rattle.dam_results.proofs.csv_records.read_quoted.Goals as goal

empty : (xs : List ℕ) → (length xs == 0) ≡ true → xs ≡ []
empty [] e = refl
empty (x ∷ xs) e = absurd (let some : length (x ∷ xs) ≡ 0 = grind (arith, nat_tests) in omega arith)

pub returns-then-is_empty : goal.returns-then-is_empty
returns-then-is_empty c =
    let none : c.bare_part.result.0.now ≡ [] = empty c.bare_part.result.0.now (rw c.is_empty.ensures at c.if-is_empty.true) in
    let ends = rw (none, append-nil) at (c.bare_part.ensures.ends c.quoted_part.result.0.now) in
    EndsField-from st.InQuoted st.AfterQuote [] c.args.text.now c.quoted_part.result.0.now c.quoted_part.result.1.now _ _ _
    (c.quoted_part.ensures []) (EndsField-after_quote _ _ _ _ _ (c.bare_part.ensures.unquoted none) ends)

pub returns-else-is_empty : goal.returns-else-is_empty
returns-else-is_empty c =
    IfOk-weaker c.read_joined.result _ _ (λ read ends.
    EndsField-from st.InQuoted st.AfterQuote [] c.args.text.now c.quoted_part.result.0.now c.quoted_part.result.1.now _ _ _
    (c.quoted_part.ensures []) ends) c.read_joined.ensures
