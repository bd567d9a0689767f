use Rattle.std.proofs.Common.{length, refl, ap, arith}
use Rattle.dam_store.proofs.Rest.{no_room_after}
use Rattle.dam_store.proofs.store.Store.append.Goals as goal

pub returns-then-len-self-clause-full : goal.returns-then-len-self-clause-full
returns-then-len-self-clause-full g c is = (
  refl,
  c.if-self.false,
  λ clean. no_room_after (g.D.Disk.seen c.args.self.now.disk) c.args.self.now.end (c.args.self.now.closed c.if-self.false clean) c.args.batch.now (omega (arith, ap length c.bytes_after_mark-len.ensures.value)),
)
