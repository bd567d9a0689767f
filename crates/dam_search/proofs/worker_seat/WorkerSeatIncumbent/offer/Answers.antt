-- An offer is a step that the rule allows.
use Rattle.std.proofs.Common.{rules}
use Rattle.dam_search.proofs.Rule.{offers}
use Rattle.dam_search.proofs.worker_seat.WorkerSeatIncumbent.offer.Goals as goal

pub fetch_max-requires : goal.fetch_max-requires
fetch_max-requires c = (search rules, search rules, offers _ _ _ _ _ c.args.self.now.alive)
