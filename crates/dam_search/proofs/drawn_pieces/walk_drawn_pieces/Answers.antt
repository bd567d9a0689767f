-- One piece more, until a draw finds none left.
use Rattle.dam_search.proofs.Common.{ℕ, ◌^◌, ◌≤◌, max, List, [], ◌∷◌, ◌++◌, length, ◌∙◌, ap, sym, subst, refl, arith, length-append, TableId, PieceAnswer}
use Rattle.dam_search.proofs.Common.{View, welfare_found, AreAnswersOf}
use Rattle.dam_search.proofs.Seats.{none_yet, one_more, past_end, as_many, one_drawn, next_view}
use Rattle.dam_search.proofs.drawn_pieces.walk_drawn_pieces.Goals as goal

pub loop-piece-init : goal.loop-piece-init
loop-piece-init g c = record {
  answers = subst (λ (xs : List PieceAnswer). AreAnswersOf c.args.context.now.problem.now c.args.context.now.depth c.args.context.now.node_limit 0 c.args.seat.now.seat.me.0 xs)
      (sym c.in_ok-answers.ensures.items)
      (none_yet c.args.context.now.problem.now c.args.context.now.depth c.args.context.now.node_limit c.args.seat.now.seat.me.0 c.requires.fresh.undrawn c.requires.fresh.unoffered);
  going = c.requires.fresh.going;
  pieces = c.requires.fresh.pieces_are;
  seats = refl;
  seats_left = refl;
  table = refl;
  capacity = (let capacity = c.in_ok-answers.ensures.capacity in let count = c.piece_count.ensures in let pieces = c.requires.fresh.pieces_are in omega
      (arith, capacity, count, pieces));
}

pub draw-requires : goal.draw-requires
draw-requires g c = c.loop-piece.invariant.going

pub walk_piece-requires : goal.walk_piece-requires
walk_piece-requires g c =
    let less = c.in-Some.ensures.piece.0 in let pieces = c.loop-piece.invariant.pieces in omega (arith, less, pieces)

pub push_reserved-requires : goal.push_reserved-requires
push_reserved-requires g c =
    let i = c.loop-piece.invariant in let view = c.loop-piece.seat.seat.me.0 in
    let many = as_many c.args.context.now.problem.now c.args.context.now.depth c.args.context.now.node_limit 0 view c.loop-piece.answers.items i.answers in
    let long = c.loop-piece.answers.ok.0 in let capacity = i.capacity in
    let drawn = one_drawn view c.draw.new.self.seat.me.0 c.in-Some.piece c.in-Some.ensures.piece.1 c.in-Some.ensures.few in
    let pieces = i.pieces in
    omega (arith, many, long, capacity, drawn, pieces)

pub loop-piece-smaller : goal.loop-piece-smaller
loop-piece-smaller g c =
    let i = c.loop-piece.invariant in let view = c.loop-piece.seat.seat.me.0 in
    let next = next_view view c.draw.new.self.seat.me.0 c.walk_piece.new.incumbent.seat.me.0 c.in-Some.piece c.in-Some.ensures.piece.1
    (ap (λ (k : View × TableId). k.0) c.walk_piece.ensures.kept) in
    let long = ap (λ (xs : List ℕ). length xs) next.drawn ∙ length-append view.drawn (c.in-Some.piece ∷ []) in
    let drawn = one_drawn view c.draw.new.self.seat.me.0 c.in-Some.piece c.in-Some.ensures.piece.1 c.in-Some.ensures.few in
    let pieces = i.pieces in
    omega (arith, long, drawn, pieces)

pub loop-piece-preserved : goal.loop-piece-preserved
loop-piece-preserved g c =
    let i = c.loop-piece.invariant in let view = c.loop-piece.seat.seat.me.0 in let other = c.draw.new.self.seat.me.0 in
    let another = c.walk_piece.new.incumbent.seat.me.0 in let a = c.walk_piece.result in
    let drawn = c.in-Some.ensures.piece.1 in let kept = c.walk_piece.ensures.kept in
    let next = next_view view other another c.in-Some.piece drawn (ap (λ (k : View × TableId). k.0) kept) in
    let greatest_read = c.walk_piece.ensures.greatest_read ∙ ap (λ (x : View). max x.greatest_read a.incumbent_read) drawn in
    let greatest_offer = c.walk_piece.ensures.offered ∙ ap (λ (x : View). max x.greatest_offer (welfare_found a.best)) drawn in
    record {
      answers = subst (λ (xs : List PieceAnswer). AreAnswersOf c.args.context.now.problem.now c.args.context.now.depth c.args.context.now.node_limit 0 another xs)
          (sym c.push_reserved.ensures.items)
          (one_more c.args.context.now.problem.now c.args.context.now.depth c.args.context.now.node_limit 0 view another c.loop-piece.answers.items a i.answers
          (next.drawn ∙ ap (λ (n : ℕ). view.drawn ++ n ∷ []) (sym c.walk_piece.ensures.piece)) greatest_read greatest_offer c.walk_piece.ensures.walked);
      going = next.draws_past_the_end ∙ i.going;
      pieces = next.pieces ∙ i.pieces;
      seats = next.seats ∙ i.seats;
      seats_left = next.seats_left ∙ i.seats_left;
      table = ap (λ (k : View × TableId). k.1) kept ∙ c.in-Some.ensures.table ∙ i.table;
      capacity = subst (λ (n : ℕ). 2 ^ c.args.context.now.depth ≤ n) (sym c.push_reserved.ensures.capacity) i.capacity;
    }

pub returns-clause-answers : goal.returns-clause-answers
returns-clause-answers g c =
    past_end c.args.context.now.problem.now c.args.context.now.depth c.args.context.now.node_limit 0 1 c.loop-piece.seat.seat.me.0 c.draw.new.self.seat.me.0
    c.loop-piece.answers.items (c.in_default.ensures.draws_past_the_end refl) c.loop-piece.invariant.answers

pub returns-clause-offered : goal.returns-clause-offered
returns-clause-offered g c = let same = ap (λ (x : View). x.greatest_offer) (c.in_default.ensures.draws_past_the_end refl) in let offered =
    c.loop-piece.invariant.answers.offered in omega (arith, same, offered)
