-- What came in is answered, and the store has kept what it had.
use Rattle.std.proofs.Common.{◌≡◌, ◌-◌, ◌++◌, List, ℕ, Ok, false, length}
use Rattle.std.specs.Io.KnownBytes.{Consumes}
use Rattle.dam_device.specs.Device.{most_counted}
use Rattle.dam_device.specs.declared.device.TheConstants.{CHUNK}
use Rattle.dam_desk.specs.Desk.{IsDesk, IsStoreAfter}
use Rattle.dam_desk.specs.Device.{HasFewReads, IsFlushed}
use Rattle.dam_desk.specs.DeskJournal.{DeskState}
use Rattle.dam_desk.proofs.Desks.{TakesAll}
use Rattle.dam_desk.proofs.serve.serve.Given as goal

abbrev pub invariant-loop-chunk : goal.invariant-loop-chunk
invariant-loop-chunk g l = record {
  store : IsStoreAfter {T = Unit {0}} l.initial.desk.store l.desk.store (Ok tt);
  reader : l.reader.failed ≡ false;
  writer : l.writer.failed ≡ false;
  asked : HasFewReads 0 l.initial.reader l.reader;
  flushed : IsFlushed l.fn.writer l.writer;
  chunk : length l.chunk ≡ CHUNK;
  taken : (state : DeskState) (begun : List ℕ) → IsDesk l.initial.desk state begun → (given : List ℕ)
      × Consumes l.initial.reader.unread l.reader.unread given
      × TakesAll l.desk state (begun ++ given) l.replies l.printed l.fn.writer.taken l.writer.taken;
}

abbrev pub decreases-loop-chunk : goal.decreases-loop-chunk
decreases-loop-chunk g l = most_counted - l.reader.asked
