-- The worked seats that were popped are joined, and those left are as they were.
use Rattle.dam_search.proofs.Common.{◌≡◌, ◌-◌, ◌≤◌, vec_len, All, WorkedSeat, IsWorkedSeat, AreJoined}
use Rattle.dam_search.proofs.workers.join_seats.Given as goal

abbrev pub invariant-loop-worked_seat : goal.invariant-loop-worked_seat
invariant-loop-worked_seat g l = record {
  table : l.first.seat.table_id ≡ l.fn.first.seat.table_id;
  few : vec_len l.worked ≤ vec_len l.fn.worked;
  joined : AreJoined l.context.problem.now l.context.depth l.context.node_limit l.fn.first.seat.me.0 (vec_len l.fn.worked - vec_len l.worked)
      l.first.seat.me.0 l.answers.items;
  worked : All (λ (state : WorkedSeat). IsWorkedSeat l.context.problem.now l.context.depth l.context.node_limit l.fn.first.seat.table_id state) l.worked.items;
}

abbrev pub decreases-loop-worked_seat : goal.decreases-loop-worked_seat
decreases-loop-worked_seat g l = vec_len l.worked
