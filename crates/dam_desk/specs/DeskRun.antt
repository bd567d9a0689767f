-- The end of a run on a disk that has these bytes at its start.
use Rattle.std.specs.Prelude.{◌≡◌, ◌⊎◌, true, not, List, ℕ, Option, Result, IfSome, IfErr, IsTrue, OnOk}
use Rattle.std.specs.Io.KnownBytes.{Consumes}
use Rattle.sqlite_disk.specs.Disk.{Only}
use Rattle.sqlite_disk.specs.declared.Disk.{Ghosts}
use Rattle.dam_device.specs.Device.{SourceState, SinkState}
use Rattle.dam_desk.specs.Device.{AreDevicesAfter}
use Rattle.dam_desk.specs.Faults.{IsEndFault, is_failed_sync, is_read}
use Rattle.dam_desk.specs.Desk.{IsServedToTheEnd, IsUnopened, LinesAreAnswered, Served, at_first}
use Rattle.dam_desk.specs.DeskJournal.{JournalContent, OpensTo, desk_replies_text}
use Rattle.dam_desk.specs.declared.fault.DeskFault.{DeskFault}

-- whatever a crash leaves of the disk, if no wrong answer was taken as true
abbrev pub Leaves : {D : Type 0} → Ghosts D → D → List ℕ → Type 0
Leaves g disk file = IsTrue (g.is_clean disk) × g.may_leave disk file

-- the bytes open to this journal, if the disk has given no wrong answer that was taken as true
abbrev pub StartOpensTo : {D : Type 0} → Ghosts D → List ℕ → D → Option JournalContent → Type 0
StartOpensTo g start disk journal = IsTrue (g.is_clean disk) → OpensTo journal start

-- the whole input was served
pub record EndsServed {D : Type 0} (g : Ghosts D) (start : List ℕ) (disk : D) (input printed now : Option (List ℕ)) : Type 0 where
  pub journal : Option JournalContent
  pub begins : StartOpensTo g start disk journal
  pub given : List ℕ
  pub whole : IfSome input (λ bytes. bytes ≡ given)
  pub served : IsServedToTheEnd journal given printed now (Leaves g disk)

-- all lines that came in were answered
pub record EndsAnswered {D : Type 0} (g : Ghosts D) (start : List ℕ) (disk : D) (input left printed now : Option (List ℕ)) : Type 0 where
  pub journal : Option JournalContent
  pub begins : StartOpensTo g start disk journal
  pub given : List ℕ
  pub taken : Consumes input left given
  pub answered : LinesAreAnswered (at_first journal) given (desk_replies_text journal) printed now (Leaves g disk)

-- what was answered is safe
pub record EndsSafe {D : Type 0} (g : Ghosts D) (start : List ℕ) (disk : D) (why : DeskFault)
    (input left printed now : Option (List ℕ)) : Type 0 where
  pub journal : Option JournalContent
  pub begins : StartOpensTo g start disk journal
  pub given : List ℕ
  pub taken : Consumes input left given
  pub served : Served (at_first journal) given (desk_replies_text journal) why printed now (Leaves g disk)

-- no desk was opened on a disk that had these bytes, all synced, and for which no call had failed
pub record EndsUnopened {D : Type 0} (g : Ghosts D) (start : List ℕ) (disk : D) (why : DeskFault) : Type 0 where
  pub old : D
  pub seen : g.seen old ≡ start
  pub synced : Only start (g.may_leave old)
  pub no_fault : g.faults old ≡ 0
  pub unopened : IsUnopened g old disk why

-- A run on a disk, on which `before` calls had failed: the devices and the disk after it. `Refused` says of a fault why no desk was opened.
pub record IsRun {D R W : Type 0} (g : Ghosts D) (start : List ℕ) (before : ℕ) (Refused : DeskFault → Type 0)
    (reader_was reader : SourceState R) (writer_was writer : SinkState W) (disk : D) (result : Result (Unit {0}) DeskFault) : Type 0 where
  pub served : OnOk result (EndsServed g start disk reader_was.unread writer_was.taken writer.taken)
  pub no_fault : OnOk result (g.faults disk ≡ before)
  pub answered : IfErr result (λ why. is_read why ≡ true
      → EndsAnswered g start disk reader_was.unread reader.unread writer_was.taken writer.taken)
  pub faulty : IfErr result (λ why. (Refused why × (writer ≡ writer_was)) ⊎ (IsEndFault (g.is_clean disk) before (g.faults disk) why
      × EndsSafe g start disk why reader_was.unread reader.unread writer_was.taken writer.taken))
  pub usable : IfErr result (λ why. g.is_usable disk ≡ not (is_failed_sync why))
  pub devices : AreDevicesAfter reader_was reader writer_was writer result
