-- A desk that was opened, or wasn't.
use Rattle.std.proofs.Common.{◌≡◌, ◌⊎◌, inl, inr, ℕ, List, [], Option, true, false, IsTrue, refl, sym, ap, ◌∙◌, subst}
use Rattle.std.proofs.lemmas.Bool.{both_ways}
use Rattle.sqlite_disk.specs.Disk.{MoreFaults}
use Rattle.sqlite_disk.specs.declared.Disk.{Ghosts}
use Rattle.dam_store.specs.Faults.{is_failed_read, is_failed_sync, is_failed_write as store_failed_write, is_failure, is_refused_file, IsRefused}
use Rattle.dam_store.specs.FileLines.{StandsFor, stands_for, text_of}
use Rattle.dam_store.specs.Store.{IsUntouched, disk_of, held_lines}
use Rattle.dam_store.specs.declared.fault.StoreFault.{StoreFault}
use Rattle.dam_store.specs.declared.fault.StoreFault.TheVariants as store
use Rattle.dam_desk.specs.Desk.{IsOpened, IsUnopened}
use Rattle.dam_desk.specs.Faults.{IsOpenFault, is_failed_call, is_failed_sync as desk_failed_sync, is_failed_write, is_read, is_write, of_store}
use Rattle.dam_desk.specs.declared.desk_day.DeskDay.{DeskDay}
use Rattle.dam_desk.specs.declared.desk.Desk.{Desk}
use Rattle.dam_desk.specs.declared.fault.DeskFault.{DeskFault}
use Rattle.dam_desk.specs.inside.Intake.{HasJournal, IsReplayOf}
use Rattle.dam_desk.proofs.Cases.{by_store}

same_lines : (lines other : List (List ℕ)) (file : List ℕ) → StandsFor lines file → StandsFor other file → lines ≡ other
same_lines lines other file a b = let is = sym a ∙ b in cc

module _ {D : Type 0} {g : Ghosts D} (desk : Desk D g) (disk found : D) (text replies : List ℕ) (day : Option DeskDay) where
  pub opened : IsReplayOf text day replies → desk.intake.day ≡ day → desk.intake.line ≡ [] → desk.intake.answered ≡ 0
      → (IsTrue (g.is_clean (disk_of desk.store)) → IsTrue (g.is_clean found))
      → (IsTrue (g.is_clean found) → (lines : List (List ℕ)) × StandsFor lines (g.seen disk) × (text ≡ text_of lines))
      → g.seen found ≡ g.seen disk
      → (IsTrue (g.is_clean (disk_of desk.store)) → StandsFor (held_lines desk.store) (g.seen found))
      → IsOpened desk disk replies
  opened is same_day same_line none clean read seen stands = record {
    journal = is.journal;
    opens = λ honest. let lines = read (clean honest) in (lines.0, lines.1, sym lines.2 ∙ is.same_text, is.reads);
    fresh = record {
      intake = record {
        answered = none;
        day = subst (λ (d : Option DeskDay). HasJournal d is.journal) (sym same_day) is.has;
        line = same_line;
        unended = refl;
      };
      reads = is.reads;
      file = λ honest.
          let lines = read (clean honest) in
          let same = same_lines (held_lines desk.store) lines.0 (g.seen disk) (subst (StandsFor (held_lines desk.store)) seen (stands honest)) lines.1 in
          ap text_of same ∙ sym lines.2 ∙ is.same_text;
    };
    same_replies = is.same_replies;
  }

-- a fault of the store in one of three kinds
abbrev pub IsKind : List ℕ → StoreFault → Type 0
IsKind file why = (is_failure why ≡ true) ⊎ (IsRefused file why ⊎ (why ≡ store.Memory))

kind : (file : List ℕ) (why : StoreFault) → (why ≡ store.Memory → ⊥) → IsKind file why → (is_failure why ≡ true) ⊎ IsRefused file why
kind file why other (inl failed) = inl failed
kind file why other (inr (inl refused)) = inr refused
kind file why other (inr (inr memory)) = absurd (other memory)

pub store_cause : (file : List ℕ) (why : StoreFault) → IsKind file why → IsOpenFault file (of_store why)
store_cause file why is =
    by_store (λ fault told. IsKind file fault → IsOpenFault file told) (λ memory. inr tt) (kind file) why is

-- a write that failed is a call that failed
pub write_failure : (why : StoreFault) → store_failed_write why ≡ true → is_failure why ≡ true
write_failure store.Memory failed = failed
write_failure store.NotAStore failed = failed
write_failure store.TooLong failed = failed
write_failure store.Full failed = failed
write_failure store.Broken failed = failed
write_failure (store.Read error) failed = refl
write_failure (store.Write error) failed = refl
write_failure (store.Sync error) failed = refl

-- so is a read
read_failure : (why : StoreFault) → is_failed_read why ≡ true → is_failure why ≡ true
read_failure store.Memory failed = failed
read_failure store.NotAStore failed = failed
read_failure store.TooLong failed = failed
read_failure store.Full failed = failed
read_failure store.Broken failed = failed
read_failure (store.Read error) failed = refl
read_failure (store.Write error) failed = refl
read_failure (store.Sync error) failed = refl

-- a sync counts as a write
sync_failure : (why : StoreFault) → is_failed_sync why ≡ true → store_failed_write why ≡ true
sync_failure store.Memory failed = failed
sync_failure store.NotAStore failed = failed
sync_failure store.TooLong failed = failed
sync_failure store.Full failed = failed
sync_failure store.Broken failed = failed
sync_failure (store.Read error) failed = failed
sync_failure (store.Write error) failed = refl
sync_failure (store.Sync error) failed = refl

pub write_of : (why : StoreFault) → store_failed_write why ≡ true → is_failed_write (of_store why) ≡ true
write_of why failed =
    by_store (λ fault told. store_failed_write fault ≡ true → is_failed_write told ≡ true) (λ is. is) (λ fault other is. is) why failed

pub call_of : (why : StoreFault) → is_failed_call (of_store why) ≡ is_failure why
call_of why = by_store (λ fault told. is_failed_call told ≡ is_failure fault) refl (λ fault other. refl) why

pub sync_of : (why : StoreFault) → desk_failed_sync (of_store why) ≡ is_failed_sync why
sync_of why = by_store (λ fault told. desk_failed_sync told ≡ is_failed_sync fault) refl (λ fault other. refl) why

abbrev IsNoStream : DeskFault → Type 0
IsNoStream why = (is_read why ≡ false) × (is_write why ≡ false)

store_no_stream : (why : StoreFault) → IsNoStream (of_store why)
store_no_stream why = by_store (λ fault told. IsNoStream told) (refl, refl) (λ fault other. (refl, refl)) why

early_kind : (file : List ℕ) (why : StoreFault) → (is_refused_file why ≡ true → IsRefused file why)
    → (is_failed_read why ≡ true) ⊎ ((is_failed_sync why ≡ true) ⊎ ((is_refused_file why ≡ true) ⊎ (why ≡ store.Memory))) → IsKind file why
early_kind file why refusal (inl failed) = inl (read_failure why failed)
early_kind file why refusal (inr (inl failed)) = inl (write_failure why (sync_failure why failed))
early_kind file why refusal (inr (inr (inl refused))) = inr (inl (refusal refused))
early_kind file why refusal (inr (inr (inr memory))) = inr (inr memory)

-- no store was found
pub unopened_early : {D : Type 0} (g : Ghosts D) (old new : D) (why : StoreFault) → IsUntouched g old new
    → (is_failure why ≡ true → MoreFaults (g.faults old) (g.faults new)) → (is_failure why ≡ false → g.faults new ≡ g.faults old)
    → (is_refused_file why ≡ true → IsTrue (g.is_clean new) → IsRefused (g.seen old) why)
    → (is_failed_read why ≡ true) ⊎ ((is_failed_sync why ≡ true) ⊎ ((is_refused_file why ≡ true) ⊎ (why ≡ store.Memory))) → IsUnopened g old new (of_store why)
unopened_early g old new why untouched more same refusal kinds = record {
  cause = λ honest. store_cause (g.seen old) why (early_kind (g.seen old) why (λ refused. refusal refused honest) kinds);
  failed = λ failed. more (sym (call_of why) ∙ failed);
  none_failed = λ none. same (sym (call_of why) ∙ none);
  no_stream = store_no_stream why;
  untouched = λ unwritten. untouched;
  no_journal = λ honest none. untouched;
  crash = λ honest file left. inl (untouched.crash file left);
}

module _ {D : Type 0} (g : Ghosts D) (old mid : D) (text : List ℕ) (untouched : IsUntouched g old mid) (same : g.faults mid ≡ g.faults old)
    (read : IsTrue (g.is_clean mid) → (lines : List (List ℕ)) × StandsFor lines (g.seen old) × (text ≡ text_of lines)) where
  -- the end of the file wasn't repaired
  pub unopened_late : (new : D) (why : StoreFault) (day : Option DeskDay) (replies : List ℕ) → IsReplayOf text day replies
      → g.is_clean new ≡ g.is_clean mid → (is_failure why ≡ true → MoreFaults (g.faults mid) (g.faults new))
      → (store_failed_write why ≡ true) ⊎ ((why ≡ store.Memory) × (new ≡ mid))
      → (IsTrue (g.is_clean new) → (file : List ℕ) → g.may_leave new file → stands_for file ≡ stands_for (g.seen mid))
      → IsUnopened g old new (of_store why)
  unopened_late new why day replies is clean more failed crash = record {
    cause = λ honest.
        store_cause (g.seen old) why (elim failed [ inl wrote ↦ inl (write_failure why wrote) | inr memory ↦ inr (inr memory.0) ]);
    failed = λ call. subst (λ (n : ℕ). MoreFaults n (g.faults new)) same (more (sym (call_of why) ∙ call));
    none_failed = λ none.
        elim failed [
          | inl wrote ↦ absurd (both_ways (is_failed_call (of_store why)) none (call_of why ∙ write_failure why wrote))
          | inr memory ↦ ap g.faults memory.1 ∙ same
        ];
    no_stream = store_no_stream why;
    untouched = λ unwritten.
        elim failed [
          | inl wrote ↦ absurd (both_ways (is_failed_write (of_store why)) unwritten (write_of why wrote))
          | inr memory ↦ subst (IsUntouched g old) (sym memory.1) untouched
        ];
    no_journal = λ honest none.
        let lines = read (sym clean ∙ honest) in
        absurd (none is.journal (lines.0, lines.1, sym lines.2 ∙ is.same_text, is.reads));
    crash = λ honest file left. inr (crash honest file left ∙ ap stands_for untouched.seen);
  }
