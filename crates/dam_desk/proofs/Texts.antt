-- The lines of a text.
use Rattle.std.proofs.Common.{◌≡◌, Bool, Some, ℕ, zero, suc, ◌<◌, ◌==◌, true, false, not, nat_eq, List, [], ◌∷◌, ◌++◌, length, take, drop, slice_index, refl, sym, ap, ◌∙◌, arith, append_assoc}
use Rattle.std.proofs.lemmas.Bool.{or_parts, or_from, eqb-true, false_from_ne_true, both_ways, not-false}
use Rattle.std.proofs.lemmas.Bool.Decides.{Decides-eqb}
use Rattle.std.proofs.lemmas.Slice.Eq.{slice_eq-Decides}
use Rattle.std.specs.Cmp.Lexicographic.{pointwise}
use Rattle.std.specs.List.{AllByRecursion, flat_map, join_with_byte}
use Rattle.dam_book.specs.declared.command.Command.{Command}
use Rattle.dam_results.specs.Records.{record_of_day, record_of_command}
use Rattle.dam_results.specs.Written.{command_line, written}
use Rattle.dam_store.specs.FileLines.{has_byte, text_of}
use Rattle.dam_desk.specs.inside.Intake.{records_text}
use Rattle.dam_desk.specs.inside.TextLines.{BeginsWith, is_ended}
use Rattle.dam_desk.specs.declared.desk_day.DeskDay.{DeskDay}

pub none_has : (bytes : List ℕ) → ((k : ℕ) → k < length bytes → (slice_index bytes k == 10) ≡ true → ⊥) → has_byte 10 bytes ≡ false
none_has [] none = refl
none_has (b ∷ bytes) none = or_from (b == 10) (has_byte 10 bytes) (false_from_ne_true (b == 10) (none 0 (omega arith))) (none_has bytes
    (λ k low. none (suc k) (omega arith)))

split_at : (bytes : List ℕ) (k : ℕ) → k < length bytes → bytes ≡ take k bytes ++ slice_index bytes k ∷ drop (suc k) bytes
split_at [] k low = absurd (omega arith)
split_at (b ∷ bytes) zero low = refl
split_at (b ∷ bytes) (suc k) low = ap (λ (l : List ℕ). b ∷ l) (split_at bytes k (omega arith))

none_before : (bytes : List ℕ) (k : ℕ) → ((j : ℕ) → j < k → (slice_index bytes j == 10) ≡ true → ⊥) → has_byte 10 (take k bytes) ≡ false
none_before bytes zero none = refl
none_before [] (suc k) none = refl
none_before (b ∷ bytes) (suc k) none = or_from (b == 10) (has_byte 10 (take k bytes)) (false_from_ne_true (b == 10) (none 0
    (omega arith))) (none_before bytes k (λ j low. none (suc j) (omega arith)))

-- the first line feed ends the first line
pub first_of : (bytes : List ℕ) (k : ℕ) → k < length bytes → ((j : ℕ) → j < k → (slice_index bytes j == 10) ≡ true → ⊥)
    → (slice_index bytes k == 10) ≡ true → BeginsWith bytes (take k bytes) (drop (suc k) bytes)
first_of bytes k low none newline = record {
  split = split_at bytes k low ∙ ap (λ (x : ℕ). take k bytes ++ x ∷ drop (suc k) bytes) (eqb-true (slice_index bytes k) 10 newline);
  whole = none_before bytes k none;
}

pub text_snoc : (lines : List (List ℕ)) (line : List ℕ) → text_of (lines ++ line ∷ []) ≡ text_of lines ++ (line ++ 10 ∷ [])
text_snoc [] line = refl
text_snoc (l ∷ lines) line = ap (λ (t : List ℕ). l ++ 10 ∷ t) (text_snoc lines line)
    ∙ sym (append_assoc l (10 ∷ text_of lines) (line ++ 10 ∷ []))

pub text_more : (lines more : List (List ℕ)) → text_of (lines ++ more) ≡ text_of lines ++ text_of more
text_more [] more = refl
text_more (l ∷ lines) more = ap (λ (t : List ℕ). l ++ 10 ∷ t) (text_more lines more) ∙ sym (append_assoc l (10 ∷ text_of lines) (text_of more))

-- one line more, of which these bytes had come before
pub line_more : (lines : List (List ℕ)) (begun line after : List ℕ)
    → text_of lines ++ (begun ++ (line ++ 10 ∷ after)) ≡ text_of (lines ++ (begun ++ line) ∷ []) ++ after
line_more lines begun line after =
    ap (λ (t : List ℕ). text_of lines ++ t) (sym (append_assoc begun line (10 ∷ after)) ∙ sym (append_assoc (begun ++ line) (10 ∷ []) after))
    ∙ sym (append_assoc (text_of lines) ((begun ++ line) ++ 10 ∷ []) after)
    ∙ ap (λ (t : List ℕ). t ++ after) (sym (text_snoc lines (begun ++ line)))

pub none_both : (front back : List ℕ) → has_byte 10 front ≡ false → has_byte 10 back ≡ false → has_byte 10 (front ++ back) ≡ false
none_both [] back none also = also
none_both (b ∷ front) back none also =
    let both = or_parts (b == 10) (has_byte 10 front) none in
    or_from (b == 10) (has_byte 10 (front ++ back)) both.0 (none_both front back both.1 also)

pub all_snoc : {X : Type 0} (P : X → Type 0) (xs : List X) (x : X) → AllByRecursion P xs → P x → AllByRecursion P (xs ++ x ∷ [])
all_snoc P [] x all also = (also, tt)
all_snoc P (y ∷ xs) x all also = (all.0, all_snoc P xs x all.1 also)

pub all_both : {X : Type 0} (P : X → Type 0) (xs ys : List X) → AllByRecursion P xs → AllByRecursion P ys → AllByRecursion P (xs ++ ys)
all_both P [] ys all also = also
all_both P (x ∷ xs) ys all also = (all.0, all_both P xs ys all.1 also)

-- what comes after a line feed ends as the whole
pub ended_after : (front back : List ℕ) → is_ended (front ++ 10 ∷ back) ≡ is_ended back
ended_after [] [] = refl
ended_after [] (b ∷ back) = refl
ended_after (a ∷ []) back = ended_after [] back
ended_after (a ∷ b ∷ front) back = ended_after (b ∷ front) back

-- bytes with no line feed that end with one are none
pub ended_none : (bytes : List ℕ) → has_byte 10 bytes ≡ false → is_ended bytes ≡ true → bytes ≡ []
ended_none [] none ended = refl
ended_none (b ∷ []) none ended = let both = or_parts (b == 10) false none in absurd (both_ways (b == 10) both.0 ended)
ended_none (b ∷ c ∷ bytes) none ended =
    let both = or_parts (b == 10) (has_byte 10 (c ∷ bytes)) none in
    absurd (omega (arith, ap length (ended_none (c ∷ bytes) both.1 ended)))

ended_line : (line back : List ℕ) → is_ended ((line ++ 10 ∷ []) ++ back) ≡ is_ended back
ended_line line back = ap is_ended (append_assoc line (10 ∷ []) back) ∙ ended_after line back

pub ended_commands : (commands : List Command) → is_ended (flat_map command_line commands) ≡ true
ended_commands [] = refl
ended_commands (c ∷ commands) = ended_line (join_with_byte 44 (record_of_command c)) (flat_map command_line commands) ∙ ended_commands commands

pub ended_written : (periods : ℕ) (commands : List Command) → is_ended (written periods commands) ≡ true
ended_written periods commands = ended_line (join_with_byte 44 (record_of_day periods)) (flat_map command_line commands) ∙ ended_commands commands

pub commands_more : (commands more : List Command)
    → flat_map command_line (commands ++ more) ≡ flat_map command_line commands ++ flat_map command_line more
commands_more [] more = refl
commands_more (c ∷ commands) more =
    ap (λ (t : List ℕ). command_line c ++ t) (commands_more commands more)
    ∙ sym (append_assoc (command_line c) (flat_map command_line commands) (flat_map command_line more))

pub ended_records : (day : DeskDay) (begins : Bool) (commands : List Command) → is_ended (records_text (Some day) begins commands) ≡ true
ended_records day true commands = ended_written day.periods commands
ended_records day false commands = ended_commands commands

-- texts that aren't unequal
pub same_text : (xs ys : List ℕ) (unequal : Bool) → unequal ≡ not (pointwise nat_eq xs ys) → unequal ≡ false → xs ≡ ys
same_text xs ys unequal is equal = (slice_eq-Decides Decides-eqb xs ys (pointwise nat_eq xs ys) refl).0 (not-false (pointwise nat_eq xs ys) (sym is ∙ equal))

-- texts that are unequal
pub other_text : (xs ys : List ℕ) (unequal : Bool) → unequal ≡ not (pointwise nat_eq xs ys) → unequal ≡ true → ¬ (xs ≡ ys)
other_text xs ys unequal is differ same =
    both_ways unequal (is ∙ ap not ((slice_eq-Decides Decides-eqb xs ys (pointwise nat_eq xs ys) refl).1 same)) differ
