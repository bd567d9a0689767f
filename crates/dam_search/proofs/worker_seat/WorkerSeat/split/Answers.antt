-- The rule holds with the view cut in two.
use Rattle.std.proofs.Common.{rules}
use Rattle.dam_search.proofs.Rule.{splits}
use Rattle.dam_search.proofs.worker_seat.WorkerSeat.split.Goals as goal

pub split_seat-seat-requires : goal.split_seat-seat-requires
split_seat-seat-requires c = (search rules, search rules, splits _ _ _ c.args.self.now.alive c.requires)
