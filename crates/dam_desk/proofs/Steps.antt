-- One line of the input, answered.
use Rattle.std.proofs.Common.{◌≡◌, ◌+◌, ℕ, Bool, true, false, List, [], ◌∷◌, ◌++◌, Option, Some, None, length, refl, sym, ap, ◌∙◌, subst, arith, append_assoc, length-append}
use Rattle.std.proofs.lemmas.Bool.{cond-false}
use Rattle.std.specs.List.{flat_map}
use Rattle.dam_book.specs.Book.{run, commands_of, reply_to}
use Rattle.dam_book.specs.declared.command.Command.{Command}
use Rattle.dam_book.specs.declared.command.Entry.{Entry}
use Rattle.dam_results.specs.Records.{record_of_day}
use Rattle.dam_results.specs.Replies.{reply_line}
use Rattle.dam_results.specs.Written.{command_line, record_line, written}
use Rattle.dam_desk.specs.DeskJournal.{JournalContent, answer_to, day_of, desk_journal_text, journal_after_line}
use Rattle.dam_book.specs.Command.{is_journal_full}
use Rattle.dam_desk.specs.inside.DeskDay.{IsDayWith}
use Rattle.dam_desk.specs.inside.Intake.{Answered, HasJournal, IsAt, entered_text, periods_of, records_text}
use Rattle.dam_desk.specs.declared.desk_day.DeskDay.{DeskDay}
use Rattle.dam_desk.specs.declared.meaning.Meaning.TheVariants.{Command as Commands}
use Rattle.dam_desk.specs.declared.intake.Intake.{Intake}
use Rattle.dam_desk.proofs.Texts.{commands_more}

pub periods_same : (day : Option DeskDay) (journal : Option JournalContent) → HasJournal day journal → periods_of day ≡ day_of journal
periods_same None None has = refl
periods_same None (Some j) has = absurd has
periods_same (Some day) None has = absurd has
periods_same (Some day) (Some j) has = ap Some has.same_day

-- the journal of a desk with a day
pub record IsOf (day : DeskDay) (journal : Option JournalContent) : Type 0 where
  pub of : JournalContent
  pub is : journal ≡ Some of
  pub has : IsDayWith day of.periods of.commands

pub some_journal : (day : DeskDay) (journal : Option JournalContent) → HasJournal (Some day) journal → IsOf day journal
some_journal day None has = absurd has
some_journal day (Some j) has = record { of = j; is = refl; has = has }

pub written_more : (periods : ℕ) (commands more : List Command)
    → written periods (commands ++ more) ≡ written periods commands ++ flat_map command_line more
written_more periods commands more =
    ap (λ (t : List ℕ). record_line (record_of_day periods) ++ t) (commands_more commands more)
    ∙ sym (append_assoc (record_line (record_of_day periods)) (flat_map command_line commands) (flat_map command_line more))

records_more : (old new : DeskDay) (begins : Bool) (commands more : List Command) → new.periods ≡ old.periods
    → records_text (Some new) begins (commands ++ more) ≡ records_text (Some old) begins commands ++ flat_map command_line more
records_more old new true commands more same =
    ap (λ (p : ℕ). written p (commands ++ more)) same ∙ written_more old.periods commands more
records_more old new false commands more same = commands_more commands more

-- a command that is entered, and the day before and after it
pub record Enters (old new : DeskDay) (command : Command) : Type 0 where
  pub room : is_journal_full old.entered command ≡ false
  pub periods : new.periods ≡ old.periods
  pub book : (cs : List Command) → old.book ≡ run old.periods cs → new.book ≡ run old.periods (cs ++ command ∷ [])
  pub entered : new.entered ≡ old.entered + 1

pub command_entered : (old new : Intake) (before : List ℕ) (journal : Option JournalContent) (day later : DeskDay) (command : Command)
    → IsAt old before journal → old.day ≡ Some day → new.day ≡ Some later → Enters day later command → new.begins ≡ old.begins
    → commands_of new.entries.items ≡ commands_of old.entries.items ++ command ∷ []
    → new.answers.items ≡ old.answers.items ++ reply_line (day.entered + 1) (reply_to day.book command)
    → Answered old new before journal (Commands command)
command_entered old new before journal day later command at was now enters begins entries text =
    let of = some_journal day journal (subst (λ (d : Option DeskDay). HasJournal d journal) was at.day) in
    let j = of.of in
    let more : JournalContent = record { periods = j.periods; commands = j.commands ++ command ∷ [] } in
    let room : is_journal_full (length j.commands) command ≡ false = ap (λ (n : ℕ). is_journal_full n command) (sym of.has.entered) ∙ enters.room in
    let after : journal_after_line journal (Commands command) ≡ Some more =
    ap (λ (o : Option JournalContent). journal_after_line o (Commands command)) of.is
    ∙ ap Some (cond-false (is_journal_full (length j.commands) command) j more room) in
    let answer : answer_to old.answered journal (Commands command) ≡ reply_line (day.entered + 1) (reply_to day.book command) =
    ap (λ (o : Option JournalContent). answer_to old.answered o (Commands command)) of.is
    ∙ cond-false (is_journal_full (length j.commands) command) _ _ room
    ∙ ap (λ (n : ℕ). reply_line (n + 1) (reply_to (run j.periods j.commands) command)) (sym of.has.entered)
    ∙ ap (λ b. reply_line (day.entered + 1) (reply_to b command)) (sym of.has.book) in
    let old_text : before ++ records_text (Some day) old.begins (commands_of old.entries.items) ≡ written j.periods j.commands =
    ap (λ (d : Option DeskDay). before ++ records_text d old.begins (commands_of old.entries.items)) (sym was) ∙ at.text
    ∙ ap desk_journal_text of.is in
    let records : entered_text new ≡ records_text (Some day) old.begins (commands_of old.entries.items) ++ flat_map command_line (command ∷ []) =
    ap (λ (d : Option DeskDay). records_text d new.begins (commands_of new.entries.items)) now
    ∙ ap (λ (b : Bool). records_text (Some later) b (commands_of new.entries.items)) begins
    ∙ ap (records_text (Some later) old.begins) entries
    ∙ records_more day later old.begins (commands_of old.entries.items) (command ∷ []) enters.periods in
    record {
      answer = text ∙ ap (λ (t : List ℕ). old.answers.items ++ t) (sym answer);
      at = subst (IsAt new before) (sym after) (record {
        day = subst (λ (d : Option DeskDay). HasJournal d (Some more)) (sym now) (record {
          same_day = enters.periods ∙ of.has.same_day;
          book = enters.book j.commands (of.has.book ∙ ap (λ (p : ℕ). run p j.commands) (sym of.has.same_day))
              ∙ ap (λ (p : ℕ). run p (j.commands ++ command ∷ [])) of.has.same_day;
          entered = omega (arith, enters.entered, of.has.entered, length-append j.commands (command ∷ []));
        });
        text = ap (λ (t : List ℕ). before ++ t) records
            ∙ sym (append_assoc before (records_text (Some day) old.begins (commands_of old.entries.items)) (flat_map command_line (command ∷ [])))
            ∙ ap (λ (t : List ℕ). t ++ flat_map command_line (command ∷ [])) old_text
            ∙ sym (written_more j.periods j.commands (command ∷ []));
      });
    }

pub nothing_yet : (day : Option DeskDay) (entries : List Entry) → entries ≡ [] → records_text day false (commands_of entries) ≡ []
nothing_yet None entries none = refl
nothing_yet (Some day) entries none = ap (λ (es : List Entry). flat_map command_line (commands_of es)) none
