-- The rule holds with the two views made one.
use Rattle.std.proofs.Common.{rules}
use Rattle.dam_search.proofs.Rule.{joins}
use Rattle.dam_search.proofs.worker_seat.WorkerSeat.join.Goals as goal

pub join_seat-requires : goal.join_seat-requires
join_seat-requires c = (search rules, search rules, search rules, search rules, joins _ _ _ _ _ c.args.self.now.alive)
