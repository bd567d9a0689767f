-- The reader and the writer after a desk's end.
use Rattle.std.proofs.Common.{◌≡◌, ◌≤◌, ◌+◌, ◌⊎◌, ◌++◌, inl, inr, ℕ, List, [], Err, length, true, false, refl, sym, ap, ◌∙◌, subst, arith, length-append}
use Rattle.std.specs.Io.KnownBytes.{Consumes}
use Rattle.std.proofs.KnownBytes.{Consumes-nil, Consumes-trans}
use Rattle.std.proofs.lemmas.Bool.{both_ways}
use Rattle.dam_device.specs.Device.{SourceState, SinkState, one_more}
use Rattle.dam_desk.specs.Device.{AreDevicesAfter, HasFewReads, IsFlushed, IsReaderAfter, IsWriterAfter}
use Rattle.dam_desk.specs.Faults.{fault_after, is_read, is_write}
use Rattle.dam_desk.specs.declared.fault.DeskFault.{DeskFault}
use Rattle.dam_desk.specs.declared.fault.DeskFault.TheVariants.{File, OwnOutput, Store, NotAJournal, Respelled, Read, Write, Memory}
use Rattle.dam_desk.proofs.Ends.{read_after, write_after}

not_read : {R : Type 0} (reader : SourceState R) (fault : DeskFault) → is_read fault ≡ false → reader.failed ≡ false → IsReaderAfter reader fault
not_read reader (File why) other unfailed = unfailed
not_read reader OwnOutput other unfailed = unfailed
not_read reader (Store why) other unfailed = unfailed
not_read reader (NotAJournal why) other unfailed = unfailed
not_read reader Respelled other unfailed = unfailed
not_read reader Read other unfailed = absurd (both_ways true other refl)
not_read reader (Write written) other unfailed = unfailed
not_read reader Memory other unfailed = unfailed

flushed_or_same : {W : Type 0} (old mid new : SinkState W) → IsFlushed old mid → new.failed ≡ false
    → (new.flushed ≡ true) ⊎ (new ≡ mid) → (new.flushed ≡ true) ⊎ (new ≡ old)
flushed_or_same old mid new first unfailed (inl flushed) = inl flushed
flushed_or_same {W} old mid new first unfailed (inr same) = subst (λ (writer : SinkState W). IsFlushed old writer) (sym same) first unfailed

-- the writer was flushed by the first part of a run, and by the rest
pub flushed_by_both : {W : Type 0} (old mid new : SinkState W) → IsFlushed old mid → IsFlushed mid new → IsFlushed old new
flushed_by_both old mid new first rest unfailed = flushed_or_same old mid new first unfailed (rest unfailed)

-- a reader that wasn't asked
pub not_asked : {R : Type 0} (reader : SourceState R) (more : ℕ) → HasFewReads more reader reader
not_asked reader more = record { given = []; taken = Consumes-nil reader.unread; few = omega arith }

-- one read more, of these bytes
pub read_more : {R : Type 0} (old mid new : SourceState R) (bytes : List ℕ) (more : ℕ) → HasFewReads 0 old mid
    → Consumes mid.unread new.unread bytes → new.asked ≡ one_more mid.asked → 1 ≤ length bytes + more → HasFewReads more old new
read_more old mid new bytes more so_far taken asked some = record {
  given = so_far.given ++ bytes;
  taken = Consumes-trans old.unread mid.unread new.unread so_far.given bytes so_far.taken taken;
  few = omega (arith, so_far.few, asked, some, length-append so_far.given bytes);
}

-- a call of the writer ended a run with this fault
pub devices_of : {R W T : Type 0} (reader_was reader : SourceState R) (writer_was mid writer : SinkState W) (fault : DeskFault)
    → HasFewReads 1 reader_was reader → reader.failed ≡ false → IsFlushed writer_was mid → IsWriterAfter {T = T} mid writer (Err fault)
    → AreDevicesAfter reader_was reader writer_was writer (Err fault)
devices_of reader_was reader writer_was mid writer fault asked unfailed flushed is = record {
  failed = (not_read reader fault is.not_read unfailed, is.failed);
  asked = asked;
  flushed = flushed_by_both writer_was mid writer flushed is.flushed;
}

-- the same for the fault of a longer text
pub devices_after : {R W T : Type 0} (reader_was reader : SourceState R) (writer_was mid writer : SinkState W) (printed : ℕ) (fault told : DeskFault)
    → told ≡ fault_after printed fault → HasFewReads 1 reader_was reader → reader.failed ≡ false → IsFlushed writer_was mid
    → IsWriterAfter {T = T} mid writer (Err fault) → AreDevicesAfter reader_was reader writer_was writer (Err told)
devices_after {T} reader_was reader writer_was mid writer printed fault told same asked unfailed flushed is =
    devices_of {T = T} reader_was reader writer_was mid writer told asked unfailed flushed (record {
      not_read = ap is_read same ∙ read_after printed fault ∙ is.not_read;
      failed = is.failed ∙ sym (ap is_write same ∙ write_after printed fault);
      flushed = is.flushed;
    })

-- neither was called
pub devices_unasked : {R W : Type 0} (reader : SourceState R) (writer : SinkState W) (fault : DeskFault) → is_read fault ≡ false
    → reader.failed ≡ false → writer.failed ≡ is_write fault → AreDevicesAfter reader reader writer writer (Err fault)
devices_unasked reader writer fault other unfailed device = record {
  failed = (not_read reader fault other unfailed, device);
  asked = not_asked reader 1;
  flushed = λ written. inr refl;
}
