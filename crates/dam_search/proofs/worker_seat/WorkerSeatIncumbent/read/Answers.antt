-- A load of the incumbent word is a step that the rule allows.
use Rattle.std.proofs.Common.{rules}
use Rattle.dam_search.proofs.Rule.{reads}
use Rattle.dam_search.proofs.worker_seat.WorkerSeatIncumbent.read.Goals as goal

pub load-requires : goal.load-requires
load-requires c = (search rules, search rules, reads _ _ _ _ c.args.self.now.alive)
