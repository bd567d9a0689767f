-- The seats are new, at one table.
use Rattle.dam_search.proofs.Common.{ℕ, sym, subst, All, TableId, WorkerSeat, WorkedSeat, IsNewSeat, IsWorkedSeat}
use Rattle.dam_search.proofs.workers.walk_with_workers.Goals as goal

pub join_seats-requires-clause-worked : goal.join_seats-requires-clause-worked
join_seats-requires-clause-worked g c =
    let context = c.args.context.now in let table = c.args.first.now.seat.table_id in
    let new = subst (λ (n : ℕ). All (λ (s : WorkerSeat). IsNewSeat table n s) c.in_ok-seats.seats.items) c.requires.pieces
    c.in_ok-seats.ensures.seats in
    subst (λ (t : TableId). All (λ (s : WorkedSeat). IsWorkedSeat context.problem.now context.depth context.node_limit t s) c.in_ok-worked.worked.items)
    (sym c.in_ok-seats.ensures.table) (c.in_ok-worked.ensures.worked table new)
