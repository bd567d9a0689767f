-- The end of a run and its faults, in all engines.
use Rattle.std.specs.Prelude.{◌≢◌, ◌≤◌, ◌+◌, ℕ, List, Option, Result, Ok, Err, length}
use Rattle.std.specs.Io.KnownBytes.{Appends}
use Rattle.dam_book.specs.declared.command.Command.{Command}
use Rattle.dam_device.specs.Device.{TakesFront}
use Rattle.dam_results.specs.declared.journal_reading.JournalFault.TheVariants.{Memory as MemoryOfJournal}
use Rattle.dam_results.specs.Limits.{most_bytes}
use Rattle.dam_results.specs.Journal.{IsMadeFrom}
use Rattle.dam_results.specs.Faults.{IsJournalFault}
use Rattle.dam_engines.specs.declared.fault.RunFault.{RunFault}
use Rattle.dam_engines.specs.declared.fault.RunFault.TheVariants.{Read, Input, Memory, Write}

-- how many bytes are read at most: one more than a journal may have, which shows that it has too many
abbrev pub most_read : ℕ
most_read = most_bytes + 1

-- how reading a text can end a run: with the text's first fault, or because memory ran out
abbrev pub IsTextFault : List ℕ → RunFault → Type 0
IsTextFault text (Input fault) = IsJournalFault text fault × (fault ≢ MemoryOfJournal)
IsTextFault text Memory = Unit {0}
IsTextFault text fault = ⊥

-- how a run over a text can fail, once the text is read: with the text's first fault; if it is a journal, with a fault that its
-- commands may have; or because memory ran out
abbrev pub IsRunFault : (ℕ → List Command → RunFault → Type 0) → List ℕ → RunFault → Type 0
IsRunFault IsFault text (Input fault) = IsTextFault text (Input fault)
IsRunFault IsFault text Memory = Unit {0}
IsRunFault IsFault text fault = IsMadeFrom IsFault text fault

-- how writing a text can fail: the writer took exactly as many first bytes of it as the fault says
abbrev pub IsWritingFault : Option (List ℕ) → Option (List ℕ) → List ℕ → RunFault → Type 0
IsWritingFault old new text (Write written) = TakesFront old new written text
IsWritingFault old new text fault = ⊥

-- how a run may end that asked the writer this many times: without a fault, the writer took exactly one text that may be
-- printed; if the writer failed, it took exactly as many first bytes of such a text as the fault says; in both cases it was asked
-- at most once for each byte of the text; otherwise the reader failed, or the fault is one that the run may have
abbrev pub Ends : (List ℕ → Type 0) → (RunFault → Type 0) → Option (List ℕ) → Option (List ℕ) → ℕ
    → Result (Unit {0}) RunFault → Type 0
Ends IsPrinted IsFault old new asked (Ok done) =
    (printed : List ℕ) × IsPrinted printed × Appends old new printed × (asked ≤ length printed)
Ends IsPrinted IsFault old new asked (Err Read) = Unit {0}
Ends IsPrinted IsFault old new asked (Err (Write written)) =
    (printed : List ℕ) × IsPrinted printed × TakesFront old new written printed × (asked ≤ length printed)
Ends IsPrinted IsFault old new asked (Err fault) = IsFault fault
