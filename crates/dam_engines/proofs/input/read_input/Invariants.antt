-- The text so far is within the bound, and is the bytes that the reader has lost; each turn so far gave it a byte or
-- more.
use Rattle.std.proofs.Common.{◌≡◌, ◌≤◌, ◌+◌, ◌-◌, false, length}
use Rattle.std.specs.Io.KnownBytes.{Consumes}
use Rattle.dam_device.specs.declared.device.TheConstants.{CHUNK}
use Rattle.dam_engines.specs.Engine.{most_read}
use Rattle.dam_engines.proofs.input.read_input.Given as goal

abbrev pub invariant-loop-chunk : goal.invariant-loop-chunk
invariant-loop-chunk g l = record {
  within : length l.text.items ≤ most_read;
  taken : Consumes l.initial.reader.unread l.reader.unread l.text.items;
  chunk : length l.chunk ≡ CHUNK;
  asked : l.reader.asked ≤ l.initial.reader.asked + length l.text.items;
  failed : l.reader.failed ≡ false;
}

abbrev pub decreases-loop-chunk : goal.decreases-loop-chunk
decreases-loop-chunk g l = most_read - length l.text.items
