-- The records that a text has left.
use Rattle.std.proofs.Common.{◌≡◌, ◌||◌, ℕ, zero, suc, ◌+◌, ◌<◌, ◌==◌, Bool, true, false, cond, not, List, [], ◌∷◌, length}
use Rattle.std.proofs.Common.{take, drop, get_or, Option, Some, None, refl, sym, ap, ◌∙◌, arith, add-one, length-drop}
use Rattle.std.specs.List.{position, position_or_len}
use Rattle.std.proofs.lemmas.List.{drop_all}
use Rattle.csv.specs.Machine.{Read, next_record, ends_at_end, is_end, fields_after, field_after}
use Rattle.csv.specs.declared.parser.Action.{Action}
use Rattle.csv.specs.Reading.{default_config, records_from}
use Rattle.csv.specs.declared.parser.State.{State}
use Rattle.csv.specs.declared.parser.State.TheVariants as st
use Rattle.dam_results.specs.Records.{Fields, records_of}
use Rattle.dam_results.specs.inside.Reader.{most_kept, ends_line, BeginsWithRecord, StartsRecord, TakesFirst}
use Rattle.dam_results.proofs.Machine.{IsAfter, next_record-after, next_record-shorter}
use Rattle.dam_results.proofs.SpelledRecords.{blank_from}
use Rattle.dam_results.proofs.FieldParts.{IsFirst, first-of, none-of, at_first}

records_from-None : (n : ℕ) (s : State) (xs : List ℕ) → next_record default_config s [] [] xs ≡ None
    → records_from default_config n s xs ≡ []
unfolding records_from
records_from-None zero s xs e = refl
records_from-None (suc n) s xs e = rw e refl

records_from-Some : (n : ℕ) (s : State) (xs : List ℕ) (p : Read) → next_record default_config s [] [] xs ≡ Some p
    → records_from default_config (suc n) s xs ≡ p.0 ∷ records_from default_config n p.1 p.2
unfolding records_from
records_from-Some n s xs p e = rw e refl

-- as many turns as there are bytes, and one more, give all the records
enough : (n m : ℕ) (s : State) (xs : List ℕ) → ends_at_end s ≡ false → length xs < n → length xs < m
    → records_from default_config n s xs ≡ records_from default_config m s xs
enough zero m s xs e p q = absurd (omega arith)
enough (suc n) zero s xs e p q = absurd (omega arith)
enough (suc n) (suc m) s xs e p q =
    elim (next_record default_config s [] [] xs) as
    (λ (o : Option Read). next_record default_config s [] [] xs ≡ o → records_from default_config
    (suc n) s xs ≡ records_from default_config (suc m) s xs) [
      | None ↦ λ none. records_from-None (suc n) s xs none ∙ sym (records_from-None (suc m) s xs none)
      | Some r ↦ λ some.
          let less : length r.2 < length xs = next_record-shorter s xs r e some in
          let after : IsAfter r xs = next_record-after s [] [] xs r some in
          let same : records_from default_config n r.1 r.2 ≡ records_from default_config m r.1 r.2 = enough n m r.1 r.2 after.closed
          (omega arith) (omega arith) in
          records_from-Some n s xs r some ∙ (ap (λ (rows : List Fields). r.0 ∷ rows) same ∙ sym (records_from-Some m s xs r some))
    ] refl

-- ---- between two records

same_move : (r n : Bool) (skip other : State × Action) → cond n skip (cond (r || n) skip other) ≡ cond (r || n) skip other
same_move true true skip other = refl
same_move true false skip other = refl
same_move false true skip other = refl
same_move false false skip other = refl

after_return : (xs : List ℕ) → next_record default_config st.AfterCr [] [] xs ≡ next_record default_config st.StartRecord [] [] xs
unfolding next_record
after_return [] = refl
after_return (c ∷ rest) =
    ap (λ (m : State × Action). cond (is_end m.1) (Some (fields_after m.1 [] [], m.0, rest))
    (next_record default_config m.0 (fields_after m.1 [] []) (field_after m.1 c []) rest)) (same_move (c == 13) (c == 10) _ _)

between : (n : ℕ) (s : State) (xs : List ℕ) → ends_at_end s ≡ false
    → records_from default_config n s xs ≡ records_from default_config n st.StartRecord xs
between n st.StartRecord xs e = refl
between n st.AfterCr xs e = blank_from n st.AfterCr st.StartRecord xs xs (after_return xs)
between n st.StartField xs e = absurd cc
between n st.InField xs e = absurd cc
between n st.InQuoted xs e = absurd cc
between n st.AfterQuote xs e = absurd cc
between n st.InEscape xs e = absurd cc
between n st.InComment xs e = absurd cc

line_end : (c : ℕ) (rest : List ℕ) → ends_line c ≡ true
    → next_record default_config st.StartRecord [] [] (c ∷ rest) ≡ next_record default_config st.StartRecord [] [] rest
unfolding next_record
line_end c rest e = rw e refl

no_line_end : (c : ℕ) (rest : List ℕ) → ends_line c ≡ false
    → next_record default_config st.StartRecord [] [] (c ∷ rest) ≡ next_record default_config st.StartField [] [] (c ∷ rest)
unfolding next_record
no_line_end c rest e = rw e refl

abbrev starts : ℕ → Bool
starts b = not (ends_line b)

past_line_ends : (xs : List ℕ) → next_record default_config st.StartRecord [] [] xs
    ≡ next_record default_config st.StartRecord [] [] (drop (position_or_len starts xs) xs)
past_line_ends [] = refl
past_line_ends (c ∷ rest) =
    let n = position_or_len starts rest in
    let one : 1 + n ≡ suc n = omega arith in
    elim (ends_line c) as (λ (t : Bool). ends_line c ≡ t → next_record default_config st.StartRecord [] [] (c ∷ rest)
    ≡ next_record default_config st.StartRecord [] [] (drop (cond (not (not t)) (1 + n) 0) (c ∷ rest))) [
      | true ↦ λ e. rw one (line_end c rest e ∙ past_line_ends rest)
      | false ↦ λ e. refl
    ] refl

nothing_left : next_record default_config st.StartRecord [] [] [] ≡ None
unfolding next_record
nothing_left = refl

pub no_row : (xs : List ℕ) → None ≡ position starts xs → records_of xs ≡ []
no_row xs none =
    let rest : drop (position_or_len starts xs) xs ≡ [] = drop_all _ xs (none-of starts xs none) in
    records_from-None (length xs + 1) st.StartRecord xs (past_line_ends xs ∙ rw rest nothing_left)

not_true : (b : Bool) → not b ≡ true → b ≡ false
not_true true e = absurd cc
not_true false e = refl

pub starts_row : (xs : List ℕ) (start : ℕ) → Some start ≡ position starts xs → StartsRecord xs (drop start xs)
starts_row xs start some =
    let first : IsFirst starts xs start = first-of starts xs start some in
    let at = at_first starts xs start first in
    let skipped = rw (sym first.at, at.rest) at (past_line_ends xs) in
    record {
      same = skipped ∙ no_line_end (get_or xs start 0) (drop (start + 1) xs) (not_true _ at.passes)
          ∙ ap (λ (ys : List ℕ). next_record default_config st.StartField [] [] ys) (sym at.rest);
      shorter = omega (arith, length-drop start xs);
    }

-- ---- one record

-- the fields read so far, of which the first are kept
pub record ReadsFields (text rest : List ℕ) (kept : Fields) : Type 0 where
  pub fields : Fields
  pub same : next_record default_config st.StartField [] [] text ≡ next_record default_config st.StartField fields [] rest
  pub first : kept ≡ take most_kept fields

-- the first of the records left
pub takes_first : (text start rest : List ℕ) (kept : Fields) → StartsRecord text start → BeginsWithRecord start rest kept
    → TakesFirst (records_of text) (records_of rest) kept
takes_first text start rest kept begins row =
    let p : Read = (row.fields, row.next, rest) in
    let read : next_record default_config st.StartRecord [] [] text ≡ Some p = begins.same ∙ row.read in
    let less : length rest < length text = next_record-shorter st.StartRecord text p refl read in
    let first : records_of text ≡ row.fields ∷ records_from default_config (length text) row.next rest =
    rw add-one (records_from-Some (length text) st.StartRecord text p read) in
    let others : records_from default_config (length text) row.next rest ≡ records_of rest =
    enough (length text) (length rest + 1) row.next rest row.between less (omega arith) ∙ between (length rest + 1) row.next rest row.between in
    record { fields = row.fields; records = first ∙ ap (λ (rows : List Fields). row.fields ∷ rows) others; first = row.first }
