-- The reader and the writer of a run, before and after it.
use Rattle.std.specs.Prelude.{◌≡◌, ◌≤◌, ◌+◌, ℕ, min, true, false, List, length, take, Option, Some, None, IfSome, Result, Ok, Err}
use Rattle.std.specs.Io.KnownBytes.{Consumes}
use Rattle.dam_device.specs.Device.{SourceState, SinkState, IsFlushedOnce}
use Rattle.dam_engines.specs.declared.fault.RunFault.{RunFault}
use Rattle.dam_engines.specs.declared.fault.RunFault.TheVariants.{Read, Memory, Write}
use Rattle.dam_engines.specs.Engine.{most_read}

-- how often a run asks a reader at most: if it shows its bytes, once for each, and once more, which shows that there is no other; and
-- never more often than bytes are read at most
abbrev pub most_asked : Option (List ℕ) → ℕ
most_asked None = most_read
most_asked (Some bytes) = min (length bytes + 1) most_read

-- the reader gave all its bytes, or the first of them, as many as are read at most
abbrev pub GivesAll : Option (List ℕ) → Option (List ℕ) → Type 0
GivesAll old new = IfSome old (λ bytes. Consumes old new (take most_read bytes))

-- the reader gave some of its first bytes, and no more than are read at most
pub record GivesFront (old new : Option (List ℕ)) : Type 0 where
  pub front : List ℕ
  pub few : length front ≤ most_read
  pub given : Consumes old new front

-- a reader from which all was read: it didn't fail
abbrev pub HasServed : {R : Type 0} → SourceState R → SourceState R → Type 0
HasServed old new = (new.failed ≡ false) × GivesAll old.unread new.unread

-- a reader after a run with this fault, before which it hadn't failed: it failed if that is the fault, and only then; and it gave
-- all, unless it failed or memory ran out
abbrev pub IsReaderAfter : {R : Type 0} → SourceState R → SourceState R → RunFault → Type 0
IsReaderAfter old new Read = (new.failed ≡ true) × GivesFront old.unread new.unread
IsReaderAfter old new Memory = (new.failed ≡ false) × GivesFront old.unread new.unread
IsReaderAfter old new fault = HasServed old new

-- a writer after a run with this fault, before which it hadn't failed: if that is the fault, it failed, and was flushed once at most;
-- with any other fault it is as it was
abbrev pub IsWriterAfter : {W : Type 0} → SinkState W → SinkState W → RunFault → Type 0
IsWriterAfter old new (Write written) = (new.failed ≡ true) × (new.flushes ≤ old.flushes + 1)
IsWriterAfter old new fault = (new.failed ≡ false) × (new ≡ old)

-- the devices after a run: without a fault, neither failed, the reader gave all, and the writer was flushed once, after all that
-- it took; with one, each failed if the fault is its own, and only then, and a writer that didn't fail is as it was
abbrev pub AreDevicesAfter : {R W : Type 0} → SourceState R → SourceState R → SinkState W → SinkState W
    → Result (Unit {0}) RunFault → Type 0
AreDevicesAfter reader_old reader_new writer_old writer_new (Ok done) =
    HasServed reader_old reader_new × (writer_new.failed ≡ false) × IsFlushedOnce writer_old writer_new
AreDevicesAfter reader_old reader_new writer_old writer_new (Err fault) =
    IsReaderAfter reader_old reader_new fault × IsWriterAfter writer_old writer_new fault
