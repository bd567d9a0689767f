-- The text as which a line is read.
use Rattle.std.proofs.Common.{◌≡◌, ℕ, ◌+◌, ◌-◌, List, [], ◌∷◌, ◌++◌, Option, Some, None, length, take, drop, sym, ap, ◌∙◌, subst, arith, length-append}
use Rattle.std.proofs.lemmas.List.{drop_at, take_rest}
use Rattle.std.specs.List.{join_with_byte}
use Rattle.dam_book.specs.declared.command.Command.{Command}
use Rattle.dam_results.specs.Journal.{ReadsAs}
use Rattle.dam_results.specs.Records.{record_of_day}
use Rattle.dam_results.specs.declared.journal_reading.JournalFault.{JournalFault}
use Rattle.dam_desk.specs.InputLines.{AreOfOne, IsSameFault, record_of, text_after}
use Rattle.dam_desk.specs.declared.fault.InputLineFault.{InputLineFault}

-- the line with its line feed, after the record of the day
pub alone : (day : Option ℕ) (line text : List ℕ) (before : ℕ) → text ≡ text_after day line → before ≡ length (record_of day)
    → take (length text - before) (drop before text) ≡ line ++ 10 ∷ []
alone day line text before is before_is =
    take_rest text before ∙ ap (drop before) is ∙ drop_at (record_of day) (line ++ 10 ∷ []) before (sym before_is)

record_long : (periods before : ℕ) → before ≡ length (record_of (Some periods)) → before ≡ 0 → ⊥
record_long periods before before_is none =
    let long : length (record_of (Some periods)) ≡ length (join_with_byte 44 (record_of_day periods)) + 1 = length-append (join_with_byte 44 (record_of_day periods)) (10 ∷ []) in
    omega (arith, long, before_is, none)

-- with no day yet, a journal of a line that is no day has a command
pub not_one_alone : (day : Option ℕ) (line text : List ℕ) (before periods : ℕ) (commands : List Command)
    → text ≡ text_after day line → before ≡ length (record_of day) → before ≡ 0
    → ((q : ℕ) → ¬ (ReadsAs (line ++ 10 ∷ []) q [])) → ReadsAs text periods commands → ¬ (AreOfOne day commands)
not_one_alone None line text before periods commands is before_is none no_day reads one =
    no_day periods (subst (λ (t : List ℕ). ReadsAs t periods []) is (subst (ReadsAs text periods) one reads))
not_one_alone (Some p) line text before periods commands is before_is none no_day reads one = record_long p before before_is none

pub not_one_after : (day : Option ℕ) (before : ℕ) (commands : List Command) → before ≡ length (record_of day) → ¬ (before ≡ 0)
    → ¬ (length commands ≡ 1) → ¬ (AreOfOne day commands)
not_one_after None before commands before_is some other one = some before_is
not_one_after (Some p) before commands before_is some other one = other one

pub same_fault : (before n : ℕ) (why : JournalFault) (fault is : InputLineFault) → before ≡ n → is ≡ fault → IsSameFault before why fault
    → IsSameFault n why is
same_fault before n why fault is at same has =
    subst (λ (f : InputLineFault). IsSameFault n why f) (sym same) (subst (λ (k : ℕ). IsSameFault k why fault) at has)
