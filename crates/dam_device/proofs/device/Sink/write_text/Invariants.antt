-- The writer took the first bytes so far; each turn but the last one gives it a byte or more.
use Rattle.std.proofs.Common.{◌≡◌, ◌≤◌, ◌+◌, ◌-◌, false, length}
use Rattle.dam_device.specs.Device.{TakesFront}
use Rattle.dam_device.proofs.device.Sink.write_text.Given as goal

abbrev pub invariant-loop-written : goal.invariant-loop-written
invariant-loop-written g l = record {
  taken : TakesFront l.initial.self.taken l.self.taken l.written l.text;
  asked : l.self.asked ≤ l.initial.self.asked + l.written;
  failed : l.self.failed ≡ false;
  flushes : l.self.flushes ≡ l.initial.self.flushes;
}

abbrev pub decreases-loop-written : goal.decreases-loop-written
decreases-loop-written g l = length l.text - l.written
