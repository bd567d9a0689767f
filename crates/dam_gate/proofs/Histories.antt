-- One entry more keeps a history legal, and its book the run of its commands.
use Rattle.std.proofs.Common.{◌≡◌, ℕ, suc, ◌+◌, ◌-◌, ◌<◌, Bool, true, false, List, [], ◌∷◌, ◌++◌, length, refl, sym, ap, ◌∙◌, subst, arith}
use Rattle.std.proofs.Common.{length-append, is_some, if◌then◌else◌, Option, Some}
use Rattle.dam_book.specs.declared.command.Command.{Command}
use Rattle.dam_book.specs.declared.command.Command.TheVariants.{Submit, Amend, Cancel, Close}
use Rattle.dam_book.specs.declared.command.Entry.{Entry}
use Rattle.dam_book.specs.declared.reason.Reason.{Reason}
use Rattle.dam_book.specs.Book.{BookState, empty_book, carried_out, refusal, book_after, reply_to, run, run_from, commands_of}
use Rattle.dam_book.specs.Book.{IsLegalFrom}
use Rattle.dam_book.specs.Limits.{most_entries}
use Rattle.dam_gate.specs.Journal.{JournalState, IsHistory, IsJournal, FoundRoom, next_entry, journal_after}
use Rattle.dam_book.specs.Command.{is_journal_full}
use Rattle.std.proofs.lemmas.Bool.{leb-false}

carried_out-periods : (b : BookState) (c : Command) → (carried_out b c).periods ≡ b.periods
carried_out-periods b (Submit who name order) = refl
carried_out-periods b (Amend who name price volumes) = refl
carried_out-periods b (Cancel who name) = refl
carried_out-periods b Close = refl

pub book_after-periods : (b : BookState) (c : Command) → (book_after b c).periods ≡ b.periods
book_after-periods b c =
    elim (is_some (refusal b c)) as (λ (t : Bool). (if t then b else carried_out b c).periods ≡ b.periods)
    [ true ↦ refl | false ↦ carried_out-periods b c ]

pub run_from-snoc : (b : BookState) (es : List Entry) (e : Entry)
    → run_from b (commands_of (es ++ e ∷ [])) ≡ book_after (run_from b (commands_of es)) e.command
run_from-snoc b [] e = refl
run_from-snoc b (x ∷ es) e = run_from-snoc (book_after b x.command) es e

pub IsLegalFrom-snoc : (n : ℕ) (b : BookState) (es : List Entry) (e : Entry) → IsLegalFrom n b es → e.number ≡ n + length es
    → e.reply ≡ reply_to (run_from b (commands_of es)) e.command
    → IsLegalFrom n b (es ++ e ∷ [])
IsLegalFrom-snoc n b [] e legal number reply = (omega (arith, number), reply, tt)
IsLegalFrom-snoc n b (x ∷ es) e legal number reply =
    (legal.0, legal.1, IsLegalFrom-snoc (suc n) (book_after b x.command) es e legal.2 (omega (arith, number)) reply)

FoundRoom-snoc : (held : ℕ) (es : List Entry) (e : Entry) → FoundRoom held es → is_journal_full (held + length es) e.command ≡ false
    → FoundRoom held (es ++ e ∷ [])
FoundRoom-snoc held [] e found room = (
  let same : held + 0 ≡ held = omega arith in
      subst (λ (n : ℕ). is_journal_full n e.command ≡ false) same room,
  tt,
)
FoundRoom-snoc held (x ∷ es) e found room =
    let same : held + suc (length es) ≡ suc held + length es = omega arith in
    (found.0, FoundRoom-snoc (suc held) es e found.1 (subst (λ (n : ℕ). is_journal_full n e.command ≡ false) same room))

pub room_left : (held : ℕ) (c : Command) → is_journal_full held c ≡ false → held < most_entries
room_left held (Submit who name order) left = omega (arith, leb-false (most_entries - 1) held left)
room_left held (Amend who name price volumes) left = omega (arith, leb-false (most_entries - 1) held left)
room_left held (Cancel who name) left = omega (arith, leb-false (most_entries - 1) held left)
room_left held Close left = leb-false most_entries held left

-- the journal's entries with the entry of one command more, for which there is room
pub history-after : (j : JournalState) (c : Command) → IsJournal j → is_journal_full (length j.entries) c ≡ false
    → IsHistory j.book.periods (j.entries ++ next_entry j c ∷ [])
history-after j c is room =
    let e = next_entry j c in
    record {
      day = is.history.day;
      legal = IsLegalFrom-snoc 1 (empty_book j.book.periods) j.entries e is.history.legal (omega arith)
          (ap (λ (b : BookState). reply_to b c) is.book_is);
      few = omega (arith, length-append j.entries (e ∷ []), room_left (length j.entries) c room);
      room =
          FoundRoom-snoc 0 j.entries e is.history.room
          (let same : length j.entries ≡ 0 + length j.entries = omega arith in subst (λ (n : ℕ). is_journal_full n c ≡ false) same room);
    }

pub journal_after_is : (j : JournalState) (c : Command) → IsJournal j → is_journal_full (length j.entries) c ≡ false → IsJournal (journal_after j c)
journal_after_is j c is room =
    let same = book_after-periods j.book c in
    let all = j.entries ++ next_entry j c ∷ [] in
    let after : run j.book.periods (commands_of all) ≡ book_after j.book c =
    run_from-snoc (empty_book j.book.periods) j.entries (next_entry j c) ∙ ap (λ (b : BookState). book_after b c) (sym is.book_is) in
    record {
      history = subst (λ (n : ℕ). IsHistory n all) (sym same) (history-after j c is room);
      book_is = sym after ∙ ap (λ (n : ℕ). run n (commands_of all)) (sym same);
    }

-- a command that is refused leaves the book
pub refused_stays : (b : BookState) (c : Command) (r : Reason) → refusal b c ≡ Some r → book_after b c ≡ b
refused_stays b c r is = ap (λ (o : Option Reason). if is_some o then b else carried_out b c) is
