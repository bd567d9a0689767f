-- A run that was served, by the disk that it leaves.
use Rattle.std.proofs.Common.{◌≡◌, ◌++◌, List, ℕ, Option, Result, Ok, Err, IfErr, IfSome, IsTrue, MatchResult, inl, inr, sym, subst}
use Rattle.sqlite_disk.specs.Disk.{Only}
use Rattle.sqlite_disk.specs.declared.Disk.{Ghosts}
use Rattle.std.proofs.lemmas.Result.{IfErr-weaker}
use Rattle.dam_device.specs.Device.{SourceState, SinkState}
use Rattle.dam_store.specs.Store.{disk_of}
use Rattle.dam_desk.specs.Desk.{DeskHasAnswered, Finishes, IsLegalAndUnambiguous, IsServedToTheEnd, IsUnopened, LinesAreAnswered, MayLeave, Served, at_first}
use Rattle.dam_desk.specs.DeskRun.{EndsUnopened, IsRun}
use Rattle.dam_desk.specs.DeskJournal.{JournalContent, DeskState, AreAnswers, AreAnswersToEntered, ReadsBack, desk_replies_text}
use Rattle.dam_desk.specs.declared.desk.Desk.{Desk}
use Rattle.dam_desk.specs.declared.fault.DeskFault.{DeskFault}
use Rattle.dam_desk.proofs.Desks.{answered_so_far}

pub err_both : {X Y : Type 0} (r : Result X Y) (P Q R : Y → Type 0) → ((y : Y) → P y → Q y → R y) → IfErr r P → IfErr r Q → IfErr r R
err_both (Ok x) P Q R then p q = tt
err_both (Err y) P Q R then p q = then y p q

pub errors_of : {X Y : Type 0} (r : Result X Y) (P : X → Type 0) (Q : Y → Type 0) → MatchResult r P Q → IfErr r Q
errors_of (Ok x) P Q is = tt
errors_of (Err y) P Q is = is

module _ {D : Type 0} {g : Ghosts D} (desk : Desk D g) (disk : D) (same : disk ≡ disk_of desk.store) (journal : Option JournalContent) (first : List ℕ) (replies_are : first ≡ desk_replies_text journal) (given : List ℕ) (old new : Option (List ℕ)) where
  abbrev pub Left : List ℕ → Type 0
  Left file = IsTrue (g.is_clean disk) × g.may_leave disk file

  moved : (P : List ℕ → (List ℕ → Type 0) → Type 0) → P first (MayLeave desk) → P (desk_replies_text journal) Left
  moved P has =
      subst (λ (d : D). P (desk_replies_text journal) (λ file. IsTrue (g.is_clean d) × g.may_leave d file)) (sym same)
      (subst (λ (t : List ℕ). P t (MayLeave desk)) replies_are has)

  pub served_still : (why : DeskFault) → Served (at_first journal) given first why old new (MayLeave desk)
      → Served (at_first journal) given (desk_replies_text journal) why old new Left
  served_still why served = moved (λ t outcomes. Served (at_first journal) given t why old new outcomes) served

  pub answered_still : DeskHasAnswered desk (at_first journal) given first old new
      → LinesAreAnswered (at_first journal) given (desk_replies_text journal) old new Left
  answered_still taken =
      moved (λ t outcomes. LinesAreAnswered (at_first journal) given t old new outcomes)
      (answered_so_far desk (at_first journal) given first old new taken)

  pub is_served : ((state last : DeskState) (lines : List (List ℕ)) (answers : List ℕ) → ReadsBack state.journal → AreAnswers state lines answers last
      → ReadsBack last.journal)
      → ((state last : DeskState) (lines : List (List ℕ)) (answers : List ℕ) → AreAnswers state lines answers last
      → (replies : List ℕ) × AreAnswersToEntered state lines replies × (desk_replies_text last.journal ≡ desk_replies_text state.journal ++ replies))
      → ((j : Option JournalContent) → ReadsBack j → IfSome j IsLegalAndUnambiguous)
      → ReadsBack journal → Finishes (at_first journal) given first old new (MayLeave desk) → IsServedToTheEnd journal given old new Left
  is_served grow answer legal reads finishes =
      let all = moved (λ t outcomes. Finishes (at_first journal) given t old new outcomes) finishes in
      let replies = answer (at_first journal) all.last all.lines all.answers all.answered in
      record {
        finishes = all;
        replies = replies.0;
        among = replies.1;
        replayed = replies.2;
        unambiguous = legal all.last.journal (grow (at_first journal) all.last all.lines all.answers reads all.answered);
      }

-- the run on a disk that had these bytes, all synced, and for which no call had failed
pub at_rest : {D R W : Type 0} {g : Ghosts D} (old new : D) (start : List ℕ) (reader_was reader : SourceState R) (writer_was writer : SinkState W)
    (result : Result (Unit {0}) DeskFault) → g.seen old ≡ start → Only start (g.may_leave old) → g.faults old ≡ 0
    → IsRun g (g.seen old) (g.faults old) (IsUnopened g old new) reader_was reader writer_was writer new result
    → IsRun g start 0 (EndsUnopened g start new) reader_was reader writer_was writer new result
at_rest {D} {R} {W} {g} old new start reader_was reader writer_was writer result seen synced none run =
    let is = subst (λ (n : ℕ). IsRun g start n (IsUnopened g old new) reader_was reader writer_was writer new result) none
    (subst (λ (bytes : List ℕ). IsRun g bytes (g.faults old) (IsUnopened g old new) reader_was reader writer_was writer new result) seen run) in
    record {
      served = is.served;
      no_fault = is.no_fault;
      answered = is.answered;
      faulty = IfErr-weaker result _ _ (λ why end. elim end [
        | inl unopened ↦ inl (record { old = old; seen = seen; synced = synced; no_fault = none; unopened = unopened.0 }, unopened.1)
        | inr ended ↦ inr ended
      ]) is.faulty;
      usable = is.usable;
      devices = is.devices;
    }
