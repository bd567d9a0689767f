-- A line has one meaning.
use Rattle.std.proofs.Common.{◌≡◌, ◌⊎◌, inl, inr, ℕ, List, [], ◌∷◌, ◌++◌, Option, Some, None, length, sym, ap, ◌∙◌, subst, arith}
use Rattle.dam_book.specs.declared.command.Command.{Command}
use Rattle.dam_results.specs.Faults.{IsJournalFault}
use Rattle.dam_results.specs.Journal.{ReadsAs}
use Rattle.dam_results.specs.declared.journal_reading.JournalFault.{JournalFault}
use Rattle.dam_results.specs.declared.journal_reading.JournalFault.TheVariants as journal
use Rattle.dam_desk.specs.InputLines.{IsDayLine, IsInputLineFault, IsSameFault, IsMeaning, record_of, text_after}
use Rattle.dam_desk.specs.declared.fault.InputLineFault.{InputLineFault}
use Rattle.dam_desk.specs.declared.meaning.Meaning.{Meaning}
use Rattle.dam_desk.specs.declared.meaning.Meaning.TheVariants.{Day as Days, Command as Commands, Fault}

abbrev OneJournal : Type 0
OneJournal = (text : List ℕ) (periods others : ℕ) (commands more : List Command) → ReadsAs text periods commands → ReadsAs text others more
    → (periods ≡ others) × (commands ≡ more)

abbrev NoJournal : Type 0
NoJournal = (text : List ℕ) (fault : JournalFault) (periods : ℕ) (commands : List Command) → IsJournalFault text fault
    → ReadsAs text periods commands → fault ≡ journal.Memory

abbrev OneFault : Type 0
OneFault = (text : List ℕ) (fault other : JournalFault) → IsJournalFault text fault → IsJournalFault text other
    → (fault ≡ other) ⊎ ((fault ≡ journal.Memory) ⊎ (other ≡ journal.Memory))

same_of : (n : ℕ) (why : JournalFault) (fault other : InputLineFault) → IsSameFault n why fault → IsSameFault n why other → fault ≡ other
same_of n journal.TooLong fault other a b = a ∙ sym b
same_of n (journal.NotAscii offset) fault other a b = a ∙ sym b
same_of n journal.TooManyRecords fault other a b = a ∙ sym b
same_of n journal.NotDay fault other a b = a ∙ sym b
same_of n (journal.FieldCount at) fault other a b = a ∙ sym b
same_of n (journal.BadField at field) fault other a b = a ∙ sym b
same_of n journal.Memory fault other a b = absurd a

no_memory : (n : ℕ) (why : JournalFault) (fault : InputLineFault) → IsSameFault n why fault → why ≡ journal.Memory → ⊥
no_memory n why fault same is = subst (λ (w : JournalFault). IsSameFault n w fault) is same

day_means : (day : Option ℕ) (text : List ℕ) (periods : ℕ) → IsMeaning day text (Days periods) → IsDayLine text periods
day_means None text periods means = means
day_means (Some d) text periods means = means

fault_means : (day : Option ℕ) (text : List ℕ) (fault : InputLineFault) → IsMeaning day text (Fault fault) → IsInputLineFault day text fault
fault_means None text fault means = means
fault_means (Some d) text fault means = means

day_command : (day : Option ℕ) (text : List ℕ) (periods : ℕ) (command : Command) → IsDayLine text periods → IsMeaning day text (Commands command) → ⊥
day_command None text periods command a b = b
day_command (Some d) text periods command a b = b.0.other periods a

day_fault : (day : Option ℕ) (text : List ℕ) (periods : ℕ) (fault : InputLineFault) → IsDayLine text periods → IsInputLineFault day text fault → ⊥
day_fault day text periods fault a (inl long) = absurd (omega (arith, a.0, long.0))
day_fault day text periods fault a (inr other) = other.0.other periods a

module _ (one : OneJournal) (none : NoJournal) (one_fault : OneFault) where
  command_one : (day : Option ℕ) (text : List ℕ) (command other : Command) → IsMeaning day text (Commands command) → IsMeaning day text (Commands other)
      → command ≡ other
  command_one None text command other a b = absurd a
  command_one (Some d) text command other a b =
      let same = one (text_after (Some d) text) a.1.0 b.1.0 (command ∷ []) (other ∷ []) a.1.1 b.1.1 in
      let is = same.1 in cc

  command_fault : (day : Option ℕ) (text : List ℕ) (command : Command) (fault : InputLineFault) → IsMeaning day text (Commands command)
      → IsInputLineFault day text fault → ⊥
  command_fault None text command fault a b = a
  command_fault (Some d) text command fault a (inl long) = absurd (omega (arith, a.0.short, long.0))
  command_fault (Some d) text command fault a (inr (no_day, inl faulty)) =
      no_memory (length (record_of (Some d))) faulty.0 fault faulty.2
      (none (text_after (Some d) text) faulty.0 a.1.0 (command ∷ []) faulty.1 a.1.1)
  command_fault (Some d) text command fault a (inr (no_day, inr many)) =
      let same = one (text_after (Some d) text) a.1.0 many.1.0 (command ∷ []) many.1.1 a.1.1 many.1.2 in
      many.1.3 (ap length (sym same.1))

  faults_one : (day : Option ℕ) (text : List ℕ) (fault other : InputLineFault) → IsInputLineFault day text fault → IsInputLineFault day text other → fault ≡ other
  faults_one day text fault other (inl a) (inl b) = a.1 ∙ sym b.1
  faults_one day text fault other (inl a) (inr b) = absurd (omega (arith, a.0, b.0.short))
  faults_one day text fault other (inr a) (inl b) = absurd (omega (arith, b.0, a.0.short))
  faults_one day text fault other (inr (_, inl a)) (inr (_, inl b)) =
      let n = length (record_of day) in
      elim (one_fault (text_after day text) a.0 b.0 a.1 b.1) [
        | inl same ↦ same_of n b.0 fault other (subst (λ (w : JournalFault). IsSameFault n w fault) same a.2) b.2
        | inr (inl memory) ↦ absurd (no_memory n a.0 fault a.2 memory)
        | inr (inr memory) ↦ absurd (no_memory n b.0 other b.2 memory)
      ]
  faults_one day text fault other (inr (_, inl a)) (inr (_, inr b)) =
      absurd (no_memory (length (record_of day)) a.0 fault a.2 (none (text_after day text) a.0 b.1.0 b.1.1 a.1 b.1.2))
  faults_one day text fault other (inr (_, inr a)) (inr (_, inl b)) =
      absurd (no_memory (length (record_of day)) b.0 other b.2 (none (text_after day text) b.0 a.1.0 a.1.1 b.1 a.1.2))
  faults_one day text fault other (inr (_, inr a)) (inr (_, inr b)) = a.0 ∙ sym b.0

  pub one_meaning : (day : Option ℕ) (text : List ℕ) (meaning other : Meaning) → IsMeaning day text meaning → IsMeaning day text other → meaning ≡ other
  one_meaning day text (Days p) (Days q) a b =
      ap Days (one (text ++ 10 ∷ []) p q [] [] (day_means day text p a).1 (day_means day text q b).1).0
  one_meaning day text (Days p) (Commands c) a b = absurd (day_command day text p c (day_means day text p a) b)
  one_meaning day text (Days p) (Fault f) a b = absurd (day_fault day text p f (day_means day text p a) (fault_means day text f b))
  one_meaning day text (Commands c) (Days p) a b = absurd (day_command day text p c (day_means day text p b) a)
  one_meaning day text (Commands c) (Commands d) a b = ap Commands (command_one day text c d a b)
  one_meaning day text (Commands c) (Fault f) a b = absurd (command_fault day text c f a (fault_means day text f b))
  one_meaning day text (Fault f) (Days p) a b = absurd (day_fault day text p f (day_means day text p b) (fault_means day text f a))
  one_meaning day text (Fault f) (Commands c) a b = absurd (command_fault day text c f b (fault_means day text f a))
  one_meaning day text (Fault f) (Fault h) a b = ap Fault (faults_one day text f h (fault_means day text f a) (fault_means day text h b))
