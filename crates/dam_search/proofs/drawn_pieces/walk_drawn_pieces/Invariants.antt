-- The answers so far are those about the pieces drawn so far; the seat is going on, and is the same seat.
use Rattle.dam_search.proofs.Common.{◌≡◌, ◌^◌, ◌-◌, ◌≤◌, length, vec_capacity, AreAnswersOf}
use Rattle.dam_search.proofs.drawn_pieces.walk_drawn_pieces.Given as goal

abbrev pub invariant-loop-piece : goal.invariant-loop-piece
invariant-loop-piece g l = record {
  answers : AreAnswersOf l.context.problem.now l.context.depth l.context.node_limit 0 l.seat.seat.me.0 l.answers.items;
  going : l.seat.seat.me.0.draws_past_the_end ≡ 0;
  pieces : l.seat.seat.me.0.pieces ≡ 2 ^ l.context.depth;
  seats : l.seat.seat.me.0.seats ≡ l.fn.seat.seat.me.0.seats;
  seats_left : l.seat.seat.me.0.seats_left ≡ l.fn.seat.seat.me.0.seats_left;
  table : l.seat.seat.table_id ≡ l.fn.seat.seat.table_id;
  capacity : 2 ^ l.context.depth ≤ vec_capacity l.answers;
}

abbrev pub decreases-loop-piece : goal.decreases-loop-piece
decreases-loop-piece g l = 2 ^ l.context.depth - length l.seat.seat.me.0.drawn
