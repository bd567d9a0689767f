-- A draw is a step that the rule allows.
use Rattle.std.proofs.Common.{rules, arith}
use Rattle.dam_search.proofs.Rule.{draws}
use Rattle.dam_search.proofs.worker_seat.WorkerSeat.draw.Goals as goal

pub fetch_add-next-requires : goal.fetch_add-next-requires
fetch_add-next-requires c =
    (search rules, search rules, draws _ _ _ _ (let new = c.requires in let alive = c.args.self.now.alive in omega (arith, new, alive)))
