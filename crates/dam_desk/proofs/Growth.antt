-- A journal and its replies, with one line more.
use Rattle.std.proofs.Common.{◌≡◌, ◌⊎◌, inl, inr, suc, ◌+◌, ◌-◌, ◌<◌, ◌≤◌, ℕ, true, false, not, if◌then◌else◌, List, [], ◌∷◌, ◌++◌, Option, Some, None, length, refl, sym, ap, ◌∙◌, subst, arith, append_assoc, append-nil, length-append}
use Rattle.std.proofs.lemmas.Bool.{cases_Bool, cond-true, cond-false, leb-false}
use Rattle.std.specs.List.{AllByRecursion, flat_map}
use Rattle.dam_book.specs.Book.{commands_of, entries_of, is_day, reply_to, run}
use Rattle.dam_book.specs.Limits.{most_entries}
use Rattle.dam_book.specs.declared.command.Command.{Command}
use Rattle.dam_book.specs.declared.command.Command.TheVariants.{Submit, Amend, Cancel, Close}
use Rattle.dam_book.specs.declared.command.Entry.{Entry}
use Rattle.dam_results.specs.Journal.{IsCommand, ReadsAs}
use Rattle.dam_results.specs.Replies.{day_line, entry_line}
use Rattle.dam_results.specs.Written.{journal_text, written}
use Rattle.dam_desk.specs.DeskJournal.{JournalContent, DeskState, AreAnswers, AreAnswersToEntered, ReadsBack, answer_to, day_of, enters, journal_after_line, next, desk_replies_text, state_after}
use Rattle.dam_desk.specs.InputLines.{IsMeaning}
use Rattle.dam_book.specs.Command.{is_journal_full}
use Rattle.dam_desk.specs.declared.meaning.Meaning.{Meaning}
use Rattle.dam_desk.specs.declared.meaning.Meaning.TheVariants.{Day as Days, Command as Commands, Fault}
use Rattle.dam_desk.proofs.Texts.{all_snoc}

abbrev with_one : JournalContent → Command → JournalContent
with_one j command = record { periods = j.periods; commands = j.commands ++ command ∷ [] }

abbrev EntriesGrow : Type 0
EntriesGrow = (periods : ℕ) (cs : List Command) (c : Command) → entries_of periods (cs ++ c ∷ [])
    ≡ entries_of periods cs ++ record { number = length cs + 1; command = c; reply = reply_to (run periods cs) c } ∷ []

lines_snoc : (es : List Entry) (e : Entry) → flat_map entry_line (es ++ e ∷ []) ≡ flat_map entry_line es ++ entry_line e
lines_snoc [] e = append-nil (entry_line e)
lines_snoc (x ∷ es) e = ap (λ (t : List ℕ). entry_line x ++ t) (lines_snoc es e)
    ∙ sym (append_assoc (entry_line x) (flat_map entry_line es) (entry_line e))

command_grows : EntriesGrow → (number : ℕ) (j : JournalContent) (command : Command) → is_journal_full (length j.commands) command ≡ false
    → desk_replies_text (journal_after_line (Some j) (Commands command)) ≡ desk_replies_text (Some j) ++ answer_to number (Some j) (Commands command)
command_grows grow number j command room =
    let entry : Entry = record { number = length j.commands + 1; command = command; reply = reply_to (run j.periods j.commands) command } in
    let entries = entries_of j.periods j.commands in
    ap (λ (o : JournalContent). desk_replies_text (Some o)) (cond-false (is_journal_full (length j.commands) command) j (with_one j command) room)
    ∙ ap (λ (es : List Entry). day_line j.periods ++ flat_map entry_line es) (grow j.periods j.commands command)
    ∙ ap (λ (t : List ℕ). day_line j.periods ++ t) (lines_snoc entries entry)
    ∙ sym (append_assoc (day_line j.periods) (flat_map entry_line entries) (entry_line entry))
    ∙ ap (λ (t : List ℕ). desk_replies_text (Some j) ++ t) (sym (cond-false (is_journal_full (length j.commands) command) _ (entry_line entry) room))

command_step : EntriesGrow → (number : ℕ) (j : JournalContent) (command : Command)
    → (journal_after_line (Some j) (Commands command) ≡ Some j)
    ⊎ (desk_replies_text (journal_after_line (Some j) (Commands command)) ≡ desk_replies_text (Some j) ++ answer_to number (Some j) (Commands command))
command_step grow number j command = elim (cases_Bool (is_journal_full (length j.commands) command)) [
  | inl full ↦ inl (ap Some (cond-true (is_journal_full (length j.commands) command) j (with_one j command) full))
  | inr room ↦ inr (command_grows grow number j command room)
]

pub replies_step : EntriesGrow → (number : ℕ) (journal : Option JournalContent) (meaning : Meaning)
    → (journal_after_line journal meaning ≡ journal)
    ⊎ (desk_replies_text (journal_after_line journal meaning) ≡ desk_replies_text journal ++ answer_to number journal meaning)
replies_step grow number None (Days periods) = inr (append-nil (day_line periods))
replies_step grow number None (Commands command) = inl refl
replies_step grow number None (Fault fault) = inl refl
replies_step grow number (Some j) (Days periods) = inl refl
replies_step grow number (Some j) (Commands command) = command_step grow number j command
replies_step grow number (Some j) (Fault fault) = inl refl

-- the answer, if it is a reply
abbrev reply_of : ℕ → Option JournalContent → Meaning → List ℕ
reply_of number journal meaning = if enters journal meaning then answer_to number journal meaning else []

command_reply : EntriesGrow → (number : ℕ) (j : JournalContent) (command : Command)
    → desk_replies_text (journal_after_line (Some j) (Commands command)) ≡ desk_replies_text (Some j) ++ reply_of number (Some j) (Commands command)
command_reply grow number j command =
    let full = is_journal_full (length j.commands) command in
    let answer = answer_to number (Some j) (Commands command) in
    elim (cases_Bool full) [
      | inl is ↦ ap (λ (o : JournalContent). desk_replies_text (Some o)) (cond-true full j (with_one j command) is)
          ∙ sym (append-nil (desk_replies_text (Some j)))
          ∙ ap (λ (t : List ℕ). desk_replies_text (Some j) ++ t) (sym (cond-false (not full) answer [] (ap not is)))
      | inr room ↦ command_grows grow number j command room
          ∙ ap (λ (t : List ℕ). desk_replies_text (Some j) ++ t) (sym (cond-true (not full) answer [] (ap not room)))
    ]

reply_step : EntriesGrow → (number : ℕ) (journal : Option JournalContent) (meaning : Meaning)
    → desk_replies_text (journal_after_line journal meaning) ≡ desk_replies_text journal ++ reply_of number journal meaning
reply_step grow number None (Days periods) = append-nil (day_line periods)
reply_step grow number None (Commands command) = refl
reply_step grow number None (Fault fault) = refl
reply_step grow number (Some j) (Days periods) = sym (append-nil (desk_replies_text (Some j)))
reply_step grow number (Some j) (Commands command) = command_reply grow number j command
reply_step grow number (Some j) (Fault fault) = sym (append-nil (desk_replies_text (Some j)))

-- the replies among the answers make the journal's replies longer
pub replies_run : EntriesGrow → (state : DeskState) (lines : List (List ℕ)) (answers : List ℕ) (last : DeskState) → AreAnswers state lines answers last
    → (replies : List ℕ) × AreAnswersToEntered state lines replies × (desk_replies_text last.journal ≡ desk_replies_text state.journal ++ replies)
replies_run grow state [] answers last run =
    ([], refl, ap (λ (s : DeskState). desk_replies_text s.journal) run.1 ∙ sym (append-nil (desk_replies_text state.journal)))
replies_run grow state (line ∷ lines) answers last run =
    let more = replies_run grow (state_after state run.0) lines run.2 last run.4 in
    let reply = reply_of (next state.answered) state.journal run.0 in (
      reply ++ more.0,
      (run.0, run.1, more.0, refl, more.1),
      more.2 ∙ ap (λ (t : List ℕ). t ++ more.0) (reply_step grow (next state.answered) state.journal run.0)
          ∙ append_assoc (desk_replies_text state.journal) reply more.0,
    )

abbrev EntriesAreOf : Type 0
EntriesAreOf = (periods : ℕ) (cs : List Command) → commands_of (entries_of periods cs) ≡ cs

abbrev WrittenRead : Type 0
WrittenRead = (periods : ℕ) (entries : List Entry) → is_day periods ≡ true → AllByRecursion IsCommand (commands_of entries)
    → length entries ≤ most_entries → ReadsAs (journal_text periods entries) periods (commands_of entries)

as_many : (es : List Entry) → length (commands_of es) ≡ length es
as_many [] = refl
as_many (e ∷ es) = ap suc (as_many es)

reads_from : EntriesAreOf → WrittenRead → (periods : ℕ) (cs : List Command) → is_day periods ≡ true → AllByRecursion IsCommand cs
    → length cs ≤ most_entries → ReadsAs (written periods cs) periods cs
reads_from of read periods cs day valid few =
    let es = entries_of periods cs in
    let same = of periods cs in
    let many : length es ≡ length cs = sym (as_many es) ∙ ap length same in
    let fits : length es ≤ most_entries = subst (λ (n : ℕ). n ≤ most_entries) (sym many) few in
    subst (λ (xs : List Command). ReadsAs (written periods xs) periods xs) same
    (read periods es day (subst (AllByRecursion IsCommand) (sym same) valid) fits)

below : (held : ℕ) → held < most_entries - 1 → held + 1 ≤ most_entries
below held less = omega (arith, less)

room_for : (held : ℕ) (command : Command) → is_journal_full held command ≡ false → held + 1 ≤ most_entries
room_for held (Submit who name order) room = below held (leb-false (most_entries - 1) held room)
room_for held (Amend who name price volumes) room = below held (leb-false (most_entries - 1) held room)
room_for held (Cancel who name) room = below held (leb-false (most_entries - 1) held room)
room_for held Close room = let less : held < most_entries = leb-false most_entries held room in omega (arith, less)

reads_command : EntriesAreOf → WrittenRead → (j : JournalContent) (command : Command) → ReadsBack (Some j) → IsCommand command
    → ReadsBack (journal_after_line (Some j) (Commands command))
reads_command of read j command reads valid = elim (cases_Bool (is_journal_full (length j.commands) command)) [
  | inl full ↦ subst (λ (o : JournalContent). ReadsBack (Some o)) (sym (cond-true (is_journal_full (length j.commands) command) j (with_one j command) full)) reads
  | inr room ↦
      let few : length (j.commands ++ command ∷ []) ≤ most_entries =
      subst (λ (n : ℕ). n ≤ most_entries) (sym (length-append j.commands (command ∷ []))) (room_for (length j.commands) command room) in
      subst (λ (o : JournalContent). ReadsBack (Some o)) (sym (cond-false (is_journal_full (length j.commands) command) j (with_one j command) room))
      (reads_from of read j.periods (j.commands ++ command ∷ []) reads.records.day
      (all_snoc IsCommand j.commands command reads.records.valid valid) few)
]

reads_step : EntriesAreOf → WrittenRead → (journal : Option JournalContent) (line : List ℕ) (meaning : Meaning) → ReadsBack journal
    → IsMeaning (day_of journal) line meaning → ReadsBack (journal_after_line journal meaning)
reads_step of read None line (Days periods) reads means =
    let none : 0 ≤ most_entries = omega arith in
    reads_from of read periods [] means.1.records.day tt none
reads_step of read None line (Commands command) reads means = tt
reads_step of read None line (Fault fault) reads means = tt
reads_step of read (Some j) line (Days periods) reads means = reads
reads_step of read (Some j) line (Commands command) reads means = reads_command of read j command reads means.1.1.records.valid.0
reads_step of read (Some j) line (Fault fault) reads means = reads

pub reads_run : EntriesAreOf → WrittenRead → (state : DeskState) (lines : List (List ℕ)) (answers : List ℕ) (last : DeskState) → ReadsBack state.journal
    → AreAnswers state lines answers last → ReadsBack last.journal
reads_run of read state [] answers last reads run = subst (λ (s : DeskState). ReadsBack s.journal) (sym run.1) reads
reads_run of read state (line ∷ lines) answers last reads run =
    reads_run of read (state_after state run.0) lines run.2 last (reads_step of read state.journal line run.0 reads run.1) run.4
