-- After the record of a day, the record of another day is no command.
use Rattle.std.proofs.Common.{◌≡◌, ℕ, suc, ◌+◌, ◌-◌, ◌≤◌, ◌<◌, ◌%◌, ◌^◌, false, true, List, [], ◌∷◌, ◌++◌, Option, Some, None, IfSome, length, refl, sym, ap, ◌∙◌, subst, arith, length-append}
use Rattle.std.specs.Prelude.{decimal}
use Rattle.std.specs.List.{join_with_byte}
use Rattle.std.proofs.lemmas.Bool.Decides.{nat_tests}
use Rattle.std.proofs.lemmas.Fmt.{decimal_by_steps}
use Rattle.std.proofs.lemmas.List.Folds.{list_any-append}
use Rattle.csv.specs.Machine.{Read, next_record}
use Rattle.csv.specs.Reading.{default_config, records_from, records_next}
use Rattle.csv.specs.Writing.{default_writer, fields_text, is_blank, needs_quotes, row_text}
use Rattle.csv.specs.declared.parser.State.{State}
use Rattle.csv.specs.declared.parser.State.TheVariants as st
use Rattle.csv.proofs.RoundTrip.{read-write}
use Rattle.dam_book.specs.Book.{is_day}
use Rattle.dam_book.specs.declared.command.Command.{Command}
use Rattle.dam_book.specs.declared.command.Command.TheVariants.{Submit, Amend, Cancel, Close}
use Rattle.dam_results.specs.Journal.{ReadsAs}
use Rattle.dam_results.specs.Records.{Fields, record_of_day, kind_field, record_of_command}
use Rattle.dam_results.specs.Written.{record_line}
use Rattle.dam_desk.specs.Limits.{most_line}
use Rattle.dam_desk.specs.InputLines.{IsMeaning, record_of, text_after}
use Rattle.dam_desk.specs.declared.desk_day.DeskDay.{DeskDay}
use Rattle.dam_desk.specs.declared.meaning.Meaning.TheVariants.{Command as Commands}
use Rattle.dam_desk.specs.inside.Intake.{periods_of}

first_from : (n : ℕ) (s : State) (xs : List ℕ) (row : Fields) (t : State) (ys : List ℕ)
    → next_record default_config s [] [] xs ≡ Some (row, t, ys)
    → records_from default_config (suc n) s xs ≡ row ∷ records_from default_config n t ys
unfolding records_from
first_from n s xs row t ys e = rw e refl

abbrev HasNoMark : List ℕ → Type 0
HasNoMark text = needs_quotes default_writer text ≡ false

digit_has_none : (m : ℕ) → m < 10 → HasNoMark ((48 + m) ∷ [])
digit_has_none m small = grind (arith, nat_tests)

number_has_none : (n : ℕ) → n < 2 ^ 64 → HasNoMark (decimal n)
number_has_none n small = decimal_by_steps (λ m ds. HasNoMark ds) digit_has_none
    (λ m ds l h. rw (list_any-append, h) (digit_has_none (m % 10) (omega arith))) n small

-- the record of a day is written without quotes
day_without_quotes : (periods : ℕ) → is_day periods ≡ true → row_text default_writer (record_of_day periods) ≡ record_line (record_of_day periods)
unfolding fields_text is_blank
day_without_quotes periods day =
    let few : periods ≤ 100 = grind (arith, nat_tests) in
    rw (number_has_none periods (omega arith)) refl

-- the record of a day, and then what comes after it
after_day : (periods : ℕ) → is_day periods ≡ true → (text : List ℕ) (n : ℕ)
    → records_from default_config (suc n) st.StartRecord (record_line (record_of_day periods) ++ text)
    ≡ record_of_day periods ∷ records_from default_config n st.StartRecord text
after_day periods day text n =
    subst (λ (line : List ℕ). records_from default_config (suc n) st.StartRecord (line ++ text)
    ≡ record_of_day periods ∷ records_from default_config n st.StartRecord text) (day_without_quotes periods day)
    (first_from n st.StartRecord (row_text default_writer (record_of_day periods) ++ text) (record_of_day periods) st.StartRecord text
    (read-write (record_of_day periods) text))

abbrev first_of : List Fields → Fields
first_of [] = []
first_of (row ∷ rows) = row

abbrev rest_of : List Fields → List Fields
rest_of [] = []
rest_of (row ∷ rows) = rows

-- the first record is the same, however many are read
next_first : (more other : State → List ℕ → List Fields) (next : Option Read) (row : Fields) (rows : List Fields)
    → records_next more next ≡ row ∷ rows → first_of (records_next other next) ≡ row
next_first more other None row rows e = ap first_of e
next_first more other (Some read) row rows e = ap first_of e

same_first : (n m : ℕ) (text : List ℕ) (row : Fields) (rows : List Fields)
    → records_from default_config (suc n) st.StartRecord text ≡ row ∷ rows → first_of (records_from default_config (suc m) st.StartRecord text) ≡ row
unfolding records_from
same_first n m text row rows e =
    next_first (records_from default_config n) (records_from default_config m) (next_record default_config st.StartRecord [] [] text) row rows e

no_day_kind : (command : Command) (periods : ℕ) → record_of_command command ≡ record_of_day periods → ⊥
no_day_kind (Submit who name order) periods e = absurd (omega (arith, ap (λ (row : Fields). length (kind_field row)) e))
no_day_kind (Amend who name price volumes) periods e = absurd (omega (arith, ap (λ (row : Fields). length (kind_field row)) e))
no_day_kind (Cancel who name) periods e = absurd (omega (arith, ap (λ (row : Fields). length (kind_field row)) e))
no_day_kind Close periods e = absurd (omega (arith, ap (λ (row : Fields). length (kind_field row)) e))

pub no_day_after : (periods : ℕ) → is_day periods ≡ true → (text : List ℕ) (first : ℕ) (command : Command)
    → ReadsAs (record_line (record_of_day periods) ++ text) first (command ∷ []) → (other : ℕ) → ReadsAs text other [] → ⊥
no_day_after periods day text first command reads other alone =
    let whole = record_line (record_of_day periods) ++ text in
    let long = length-append (join_with_byte 44 (record_of_day periods)) (10 ∷ []) in
    let both = length-append (record_line (record_of_day periods)) text in
    let m = length whole - 1 in
    let size : length whole + 1 ≡ suc (suc m) = omega arith in
    let size_alone : length text + 1 ≡ suc (length text) = omega arith in
    let found : record_of_day periods ∷ records_from default_config (suc m) st.StartRecord text ≡ record_of_day first ∷ record_of_command command ∷ [] =
    sym (after_day periods day text (suc m))
    ∙ ap (λ (k : ℕ). records_from default_config k st.StartRecord whole) (sym size) ∙ reads.records.written in
    let is_day_row = same_first (length text) m text (record_of_day other) []
    (ap (λ (k : ℕ). records_from default_config k st.StartRecord text) (sym size_alone) ∙ alone.records.written) in
    no_day_kind command other (sym (ap (λ (rows : List Fields). first_of (rest_of rows)) found) ∙ is_day_row)

-- after the record of the day, the line is the record of a command
pub means_command : (day : Option ℕ) (line text : List ℕ) (before periods : ℕ) (commands : List Command) (command : Command)
    → IfSome day (λ p. is_day p ≡ true) → text ≡ text_after day line → before ≡ length (record_of day) → ¬ (before ≡ 0)
    → length line ≤ most_line → ReadsAs text periods commands → commands ≡ command ∷ [] → IsMeaning day line (Commands command)
means_command None line text before periods commands command valid is before_is some few reads one = absurd (some before_is)
means_command (Some p) line text before periods commands command valid is before_is some few reads one =
    let read : ReadsAs (text_after (Some p) line) periods (command ∷ []) =
    subst (ReadsAs (text_after (Some p) line) periods) one (subst (λ (t : List ℕ). ReadsAs t periods commands) is reads) in (
      record { short = few; other = λ q day_line. no_day_after p valid (line ++ 10 ∷ []) periods command read q day_line.1 },
      (periods, read),
    )

pub valid_day : (day : Option DeskDay) → IfSome (periods_of day) (λ p. is_day p ≡ true)
valid_day None = tt
valid_day (Some day) = day.valid
