-- The reader and the writer of a desk.
use Rattle.std.specs.Prelude.{◌≡◌, ◌⊎◌, ◌≤◌, ◌+◌, ℕ, List, length, true, false, Result, Ok, Err, IfErr, MatchResult}
use Rattle.std.specs.Io.KnownBytes.{Consumes}
use Rattle.dam_device.specs.Device.{SourceState, SinkState, most_counted}
use Rattle.dam_desk.specs.Faults.{is_read, is_write}
use Rattle.dam_desk.specs.declared.fault.DeskFault.{DeskFault}
use Rattle.dam_desk.specs.declared.fault.DeskFault.TheVariants.{Read}

-- the writer was flushed after all that it took since, unless it failed
abbrev pub IsFlushed : {W : Type 0} → SinkState W → SinkState W → Type 0
IsFlushed old new = new.failed ≡ false → (new.flushed ≡ true) ⊎ (new ≡ old)

-- the writer after a call with this result: it failed exactly if the fault is its own, which is never the reader's
pub record IsWriterAfter {W T : Type 0} (old new : SinkState W) (result : Result T DeskFault) : Type 0 where
  pub not_read : IfErr result (λ fault. is_read fault ≡ false)
  pub failed : MatchResult result (λ done. new.failed ≡ false) (λ fault. new.failed ≡ is_write fault)
  pub flushed : IsFlushed old new

-- the reader after a run with this fault: it failed only if that is its own, which else says that it was asked as often as is counted
abbrev pub IsReaderAfter : {R : Type 0} → SourceState R → DeskFault → Type 0
IsReaderAfter reader Read = (reader.failed ≡ true) ⊎ (reader.asked ≡ most_counted)
IsReaderAfter reader fault = reader.failed ≡ false

-- Without a fault, neither device failed; with one, each failed only if the fault is its own, and the writer if it is.
abbrev pub HaveFailed : {R W : Type 0} → SourceState R → SinkState W → Result (Unit {0}) DeskFault → Type 0
HaveFailed reader writer (Ok done) = (reader.failed ≡ false) × (writer.failed ≡ false)
HaveFailed reader writer (Err fault) = IsReaderAfter reader fault × (writer.failed ≡ is_write fault)

-- The reader gave these bytes, and was asked at most once for each of them, and this often more. Of a reader that doesn't show its bytes it
-- says nothing.
pub record HasFewReads {R : Type 0} (more : ℕ) (old new : SourceState R) : Type 0 where
  pub given : List ℕ
  pub taken : Consumes old.unread new.unread given
  pub few : new.asked ≤ old.asked + (length given + more)

-- the devices before and after a run with this result
pub record AreDevicesAfter {R W : Type 0} (reader_was reader : SourceState R) (writer_was writer : SinkState W)
    (result : Result (Unit {0}) DeskFault) : Type 0 where
  pub failed : HaveFailed reader writer result
  pub asked : HasFewReads 1 reader_was reader
  pub flushed : IsFlushed writer_was writer
