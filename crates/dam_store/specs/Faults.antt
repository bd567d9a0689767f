-- What the faults of a file and a store say.
use Rattle.std.specs.Prelude.{◌≡◌, ◌<◌, ◌≤◌, ◌&&◌, if◌then◌else◌, ℕ, Bool, true, false, is_none, List, length, take, None, bytes_eq}
use Rattle.std.specs.IoError.{error_kind, raw_os_error}
use Rattle.std.specs.declared.io.Error.{Error}
use Rattle.std.specs.declared.io.ErrorKind.{ErrorKind}
use Rattle.std.specs.declared.io.ErrorKind.TheVariants.{OutOfMemory, Unsupported}
use Rattle.sqlite_std_file.specs.declared.pair.OpenError.{OpenError}
use Rattle.sqlite_std_file.specs.declared.pair.OpenError.TheVariants as opening
use Rattle.dam_store.specs.Limits.{most_file_bytes}
use Rattle.dam_store.specs.FileLines.{bytes_on_disk, head_line, is_unmade, lines_in, stands_for}
use Rattle.dam_store.specs.declared.fault.FileFault.{FileFault}
use Rattle.dam_store.specs.declared.fault.FileFault.TheVariants as files
use Rattle.dam_store.specs.declared.fault.StoreFault.{StoreFault}
use Rattle.dam_store.specs.declared.fault.StoreFault.TheVariants.{NotAStore, TooLong, Full, Read, Write, Sync}

-- the system is out of memory
abbrev pub is_out_of_memory : ErrorKind → Bool
is_out_of_memory OutOfMemory = true
is_out_of_memory kind = false

-- the system or the library doesn't do this
abbrev pub is_unsupported : ErrorKind → Bool
is_unsupported Unsupported = true
is_unsupported kind = false

-- the library says that the path is no regular file with one name; an error of the system has a number
abbrev pub is_not_a_file : Error → Bool
is_not_a_file error = is_none (raw_os_error error) && is_unsupported (error_kind error)

-- the fault of a call for a file with this error
abbrev pub of_io : Error → FileFault
of_io error = if is_out_of_memory (error_kind error) then files.Memory else files.Io error

-- the fault of a file whose opening has this error
abbrev pub of_open : OpenError → FileFault
of_open opening.Busy = files.InUse
of_open opening.HotJournal = files.Database
of_open opening.OutOfMemory = files.Memory
of_open (opening.Io error) = if is_not_a_file error then files.NotAFile else of_io error

-- why a file isn't opened: there are no random bytes, or its opening has an error
abbrev pub IsOpeningFault : FileFault → Type 0
IsOpeningFault (files.NoRandomBytes error) = Unit {0}
IsOpeningFault fault = (error : OpenError) × (fault ≡ of_open error)

-- a call of the disk failed
abbrev pub is_failure : StoreFault → Bool
is_failure (Read error) = true
is_failure (Write error) = true
is_failure (Sync error) = true
is_failure fault = false

-- it was a write or a sync, so the file may have changed
abbrev pub is_failed_write : StoreFault → Bool
is_failed_write (Write error) = true
is_failed_write (Sync error) = true
is_failed_write fault = false

-- it was a sync, so the disk may not be used any more
abbrev pub is_failed_sync : StoreFault → Bool
is_failed_sync (Sync error) = true
is_failed_sync fault = false

-- it was a call that reads
abbrev pub is_failed_read : StoreFault → Bool
is_failed_read (Read error) = true
is_failed_read fault = false

-- the bytes of the file are refused
abbrev pub is_refused_file : StoreFault → Bool
is_refused_file NotAStore = true
is_refused_file TooLong = true
is_refused_file Full = true
is_refused_file fault = false

-- The cause of a refusal, of which a file has at most one. `Full`: no byte more has room after its lines.
abbrev pub IsCause : List ℕ → StoreFault → Type 0
IsCause file TooLong = most_file_bytes < length file
IsCause file NotAStore =
    (length file ≤ most_file_bytes) × (bytes_eq (take (length head_line) file) head_line ≡ false) × (is_unmade file ≡ false)
IsCause file Full =
    (length file ≤ most_file_bytes) × (bytes_eq (take (length head_line) file) head_line ≡ true)
    × (most_file_bytes ≤ length (bytes_on_disk (lines_in file)))
IsCause file fault = ⊥

-- the file stands for no lines, for this cause
pub record IsRefused (file : List ℕ) (fault : StoreFault) : Type 0 where
  pub none : stands_for file ≡ None
  pub cause : IsCause file fault
