-- The faults that end a desk, and the statuses of the program.
use Rattle.std.specs.Prelude.{◌≡◌, ◌≢◌, ◌⊎◌, ◌+◌, ◌-◌, ◌^◌, ◌<◌, min, ℕ, Bool, true, false, List, Option}
use Rattle.sqlite_disk.specs.Disk.{MoreFaults}
use Rattle.dam_device.specs.Device.{TakesFront}
use Rattle.dam_book.specs.declared.command.Command.{Command}
use Rattle.dam_results.specs.Faults.{IsJournalFault}
use Rattle.dam_results.specs.Journal.{ReadsAs}
use Rattle.dam_results.specs.Written.{written}
use Rattle.dam_results.specs.declared.journal_reading.JournalFault.{JournalFault}
use Rattle.dam_results.specs.declared.journal_reading.JournalFault.TheVariants as journal
use Rattle.dam_store.specs.Faults.{is_failed_sync as store_failed_sync, is_failed_write as store_failed_write, is_failure, IsRefused}
use Rattle.dam_store.specs.FileLines.{StandsFor, text_of}
use Rattle.dam_store.specs.declared.fault.FileFault.{FileFault}
use Rattle.dam_store.specs.declared.fault.FileFault.TheVariants as files
use Rattle.dam_store.specs.declared.fault.StoreFault.{StoreFault}
use Rattle.dam_store.specs.declared.fault.StoreFault.TheVariants as store
use Rattle.dam_desk.specs.declared.fault.DeskFault.{DeskFault}
use Rattle.dam_desk.specs.declared.fault.DeskFault.TheVariants.{File, OwnOutput, Store, NotAJournal, Respelled, Read, Write, Memory}

-- the fault of a desk whose file has that fault
abbrev pub of_file : FileFault → DeskFault
of_file files.Memory = Memory
of_file fault = File fault

-- the fault of a desk whose store has that fault
abbrev pub of_store : StoreFault → DeskFault
of_store store.Memory = Memory
of_store fault = Store fault

-- the fault of a desk whose file's lines have that fault
abbrev pub of_journal : JournalFault → DeskFault
of_journal journal.Memory = Memory
of_journal fault = NotAJournal fault

-- a write or a sync of the file failed
abbrev pub is_failed_write : DeskFault → Bool
is_failed_write (Store fault) = store_failed_write fault
is_failed_write fault = false

-- a call of the disk failed
abbrev pub is_failed_call : DeskFault → Bool
is_failed_call (Store fault) = is_failure fault
is_failed_call fault = false

-- a sync of the file failed
abbrev pub is_failed_sync : DeskFault → Bool
is_failed_sync (Store fault) = store_failed_sync fault
is_failed_sync fault = false

-- the reader failed
abbrev pub is_read : DeskFault → Bool
is_read Read = true
is_read fault = false

-- the text, which has some bytes, isn't a written journal, for this cause; or memory ran out
abbrev pub IsWrittenJournalFault : List ℕ → DeskFault → Type 0
IsWrittenJournalFault text (NotAJournal fault) = IsJournalFault text fault
IsWrittenJournalFault text Respelled =
    (periods : ℕ) × (commands : List Command) × ReadsAs text periods commands × (text ≢ written periods commands)
IsWrittenJournalFault text Memory = Unit {0}
IsWrittenJournalFault text fault = ⊥

-- why a file's journal isn't read: the file is refused, its lines aren't a written journal, or memory ran out
abbrev pub IsFileFault : List ℕ → DeskFault → Type 0
IsFileFault file Memory = Unit {0}
IsFileFault file (Store fault) = IsRefused file fault
IsFileFault file fault = (lines : List (List ℕ)) × StandsFor lines file × IsWrittenJournalFault (text_of lines) fault

-- why a desk isn't opened on a file: a call of the disk failed, or the journal isn't read
abbrev pub IsOpenFault : List ℕ → DeskFault → Type 0
IsOpenFault file fault = (is_failed_call fault ≡ true) ⊎ IsFileFault file fault

-- 1 if the file is at fault, 4 if the machine is
abbrev pub store_status : StoreFault → ℕ
store_status store.NotAStore = 1
store_status store.TooLong = 1
store_status store.Full = 1
store_status fault = 4

-- the same for the file's fault
abbrev pub file_status : FileFault → ℕ
file_status files.NotAFile = 1
file_status files.Database = 1
file_status fault = 4

-- the same for the fault that ends a desk
abbrev pub fault_status : DeskFault → ℕ
fault_status (File fault) = file_status fault
fault_status OwnOutput = 1
fault_status (Store fault) = store_status fault
fault_status (NotAJournal fault) = 1
fault_status Respelled = 1
fault_status fault = 4

-- the writer failed
abbrev pub is_write : DeskFault → Bool
is_write (Write written) = true
is_write fault = false

-- the fault as one of a longer text, of which `before` bytes were written before
abbrev pub fault_after : ℕ → DeskFault → DeskFault
fault_after before (Write written) = Write (min (before + written) (2 ^ 64 - 1))
fault_after before fault = fault

-- the writer's fault says how many bytes the writer has taken, if 64 bits hold that
abbrev pub SaysCount : ℕ → DeskFault → Type 0
SaysCount count (Write written) = count < 2 ^ 64 → written ≡ count
SaysCount count fault = Unit {0}

-- Why an open desk ends before its input does, and the counts of the disk's failed calls before and after: the reader failed, the writer
-- failed, memory ran out, or a write or a sync of the file failed. Only with the last one a call of the disk has failed. The file is full
-- only for a disk that gave a wrong answer, which was taken as true.
abbrev pub IsEndFault : Bool → ℕ → ℕ → DeskFault → Type 0
IsEndFault is_clean before after Read = after ≡ before
IsEndFault is_clean before after (Write written) = after ≡ before
IsEndFault is_clean before after Memory = after ≡ before
IsEndFault is_clean before after (Store store.Full) = (is_clean ≡ false) × (after ≡ before)
IsEndFault is_clean before after (Store fault) = (store_failed_write fault ≡ true) × MoreFaults before after
IsEndFault is_clean before after fault = ⊥

-- the writer took exactly as many first bytes of the text as the fault says
abbrev pub IsWritingFault : Option (List ℕ) → Option (List ℕ) → List ℕ → DeskFault → Type 0
IsWritingFault old new text (Write written) = TakesFront old new written text
IsWritingFault old new text fault = ⊥
