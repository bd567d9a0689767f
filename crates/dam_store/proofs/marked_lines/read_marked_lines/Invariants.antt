use Rattle.std.proofs.Common.{length}
use Rattle.dam_store.specs.inside.Shape.{AreRead}
use Rattle.dam_store.proofs.marked_lines.read_marked_lines.Given as goal

abbrev pub invariant-loop-len : goal.invariant-loop-len
invariant-loop-len l = AreRead l.bytes l.rest l.text.items l.end

abbrev pub decreases-loop-len : goal.decreases-loop-len
decreases-loop-len l = length l.rest
