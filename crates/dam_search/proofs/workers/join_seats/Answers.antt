-- One worked seat more is joined.
use Rattle.dam_search.proofs.Common.{◌≡◌, ℕ, ◌+◌, ◌-◌, ◌≤◌, List, ◌++◌, Some, vec_len, ◌∙◌, ap, sym, subst, refl, arith, PieceAnswer, WorkedSeat}
use Rattle.dam_search.proofs.Common.{AreAnswersOf, IsWorkedSeat, AreJoined}
use Rattle.std.specs.Result.{IfOk}
use Rattle.std.specs.declared.result.Result.{Result}
use Rattle.std.specs.declared.vec.Vec.{Vec}
use Rattle.std.specs.declared.alloc.Global.{Global}
use Rattle.std.specs.declared.alloc.AllocError.{AllocError}
use Rattle.std.proofs.lemmas.List.Elements.{All-pop}
use Rattle.dam_search.proofs.Seats.{none_joined, one_joined}
use Rattle.dam_search.proofs.workers.join_seats.Goals as goal

pub loop-worked_seat-init : goal.loop-worked_seat-init
loop-worked_seat-init g c =
    let context = c.args.context.now in let view = c.args.first.now.seat.me.0 in
    record {
      table = refl;
      few = omega arith;
      joined = subst (λ (n : ℕ). AreJoined context.problem.now context.depth context.node_limit view n view c.args.answers.items)
          (nothing (vec_len c.args.worked))
          (subst (λ (xs : List PieceAnswer). AreJoined context.problem.now context.depth context.node_limit view 0 view xs) (sym c.requires.empty)
          (none_joined context.problem.now context.depth context.node_limit view c.requires.undrawn));
      worked = c.requires.worked;
    }
  where
    nothing : (n : ℕ) → 0 ≡ n - n
    nothing n = omega arith

pub join-requires : goal.join-requires
join-requires g c =
    let context = c.args.context.now in let i = c.loop-worked_seat.invariant in
    let popped = All-pop (λ (state : WorkedSeat). IsWorkedSeat context.problem.now context.depth context.node_limit c.args.first.now.seat.table_id state)
    c.loop-worked_seat.worked.items c.pop.new.self.items (Some c.in-Some.worked_seat) c.in-Some.ensures.items i.worked in
    popped.1.table_is ∙ sym i.table

pub loop-worked_seat-preserved : goal.loop-worked_seat-preserved
loop-worked_seat-preserved g c =
    let context = c.args.context.now in let i = c.loop-worked_seat.invariant in
    let popped = All-pop (λ (state : WorkedSeat). IsWorkedSeat context.problem.now context.depth context.node_limit c.args.first.now.seat.table_id state)
    c.loop-worked_seat.worked.items c.pop.new.self.items (Some c.in-Some.worked_seat) c.in-Some.ensures.items i.worked in
    let worked_seat = popped.1 in let view = c.args.first.now.seat.me.0 in let other = c.loop-worked_seat.first.seat.me.0 in
    let another = c.in-Some.worked_seat.seat.seat.me.0 in let found = c.in_ok-found.field-0 in
    let answered = subst (λ (r : Result (Vec PieceAnswer Global) AllocError). IfOk r
    (λ (xs : Vec PieceAnswer Global). (another.draws_past_the_end ≡ 1) × AreAnswersOf context.problem.now context.depth context.node_limit 0 another
    xs.items)) c.in_ok-found.was worked_seat.answers in
    let one = one_joined context.problem.now context.depth context.node_limit view (vec_len c.args.worked - vec_len c.loop-worked_seat.worked) other another
    c.join.new.self.seat.me.0 c.loop-worked_seat.answers.items found.items i.joined
    worked_seat.one_seat worked_seat.none_left answered.0 answered.1 c.join.ensures.view in
    let few = i.few in let fewer = c.in-Some.ensures.cases in
    record {
      table = c.join.ensures.table ∙ i.table;
      few = omega (arith, few, fewer);
      joined = subst (λ (n : ℕ). AreJoined context.problem.now context.depth context.node_limit view n c.join.new.self.seat.me.0
          c.extend_from_slice.new.self.items) (one_fewer (vec_len c.args.worked) (vec_len c.loop-worked_seat.worked)
          (vec_len c.pop.new.self) few fewer)
          (subst (λ (xs : List PieceAnswer). AreJoined context.problem.now context.depth context.node_limit view
          ((vec_len c.args.worked - vec_len c.loop-worked_seat.worked) + 1) c.join.new.self.seat.me.0 xs)
          (sym (c.in_ok-extend_from_slice.ensures.items
          ∙ ap (λ (xs : List PieceAnswer). c.loop-worked_seat.answers.items ++ xs) c.deref.ensures.value)) one);
      worked = popped.0;
    }
  where
    one_fewer : (all before after : ℕ) → before ≤ all → after + 1 ≡ before → (all - before) + 1 ≡ all - after
    one_fewer all before after few fewer = omega (arith, few, fewer)
