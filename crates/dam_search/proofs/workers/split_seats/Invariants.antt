-- As many seats were split off as the loop has counted.
use Rattle.dam_search.proofs.Common.{◌≡◌, ◌-◌, ◌≤◌, vec_len, vec_capacity, All, WorkerSeat, IsNewSeat}
use Rattle.dam_search.proofs.workers.split_seats.Given as goal

abbrev pub invariant-loop : goal.invariant-loop
invariant-loop l = record {
  many : vec_len l.seats ≡ l.counter;
  capacity : l.workers ≤ vec_capacity l.seats;
  table : l.first.seat.table_id ≡ l.fn.first.seat.table_id;
  first : l.first.seat.me.0 ≡ record l.fn.first.seat.me.0 { seats_left = l.fn.first.seat.me.0.seats_left - l.counter };
  seats : All (λ (state : WorkerSeat). IsNewSeat l.fn.first.seat.table_id l.fn.first.seat.me.0.pieces state) l.seats.items;
}
