-- The first seat offers, the others are split off it and joined, and the words are closed.
use Rattle.dam_search.proofs.Common.{◌-◌, ◌∷◌, [], ◌∙◌, ap, subst, arith, TableId, View, AreClosedWords}
use Rattle.atomic_table.specs.Table.{Me}
use Rattle.atomic_table.specs.declared.shared.Seat.{Seat}
use Rattle.dam_search.proofs.Seats.{begun, whole}
use Rattle.dam_search.proofs.workers.walk_all_pieces.Goals as goal

pub walk_with_workers-requires-clause-pieces : goal.walk_with_workers-requires-clause-pieces
walk_with_workers-requires-clause-pieces g c κstate within =
    let is = ap (λ (x : View × TableId). x.0) c.offer.ensures.kept in
    let first = ap (λ (state : Seat (Unit {0}) View). state.me.0) c.new-first.ensures
    ∙ ap (λ (m : Me (Unit {0}) View). m.0) c.in_ok-words.ensures.seat.1 in
    (begun c.piece_count-count.result c.new-first.result.seat.me.0 c.offer.new.self.seat.me.0 first is).pieces_are
    ∙ c.piece_count-count.ensures.value

pub walk_with_workers-requires-clause-undrawn : goal.walk_with_workers-requires-clause-undrawn
walk_with_workers-requires-clause-undrawn g c κstate within =
    let is = ap (λ (x : View × TableId). x.0) c.offer.ensures.kept in
    let first = ap (λ (state : Seat (Unit {0}) View). state.me.0) c.new-first.ensures
    ∙ ap (λ (m : Me (Unit {0}) View). m.0) c.in_ok-words.ensures.seat.1 in
    (begun c.piece_count-count.result c.new-first.result.seat.me.0 c.offer.new.self.seat.me.0 first is).undrawn

pub walk_with_workers-requires-clause-left : goal.walk_with_workers-requires-clause-left
walk_with_workers-requires-clause-left g c κstate within =
    let is = ap (λ (x : View × TableId). x.0) c.offer.ensures.kept in
    let first = ap (λ (state : Seat (Unit {0}) View). state.me.0) c.new-first.ensures
    ∙ ap (λ (m : Me (Unit {0}) View). m.0) c.in_ok-words.ensures.seat.1 in
    let left = (begun c.piece_count-count.result c.new-first.result.seat.me.0 c.offer.new.self.seat.me.0 first is).seats_left in
    let few = c.requires.few_workers in omega (arith, left, few)

pub close_words-closed_words-requires-clause-all : goal.close_words-closed_words-requires-clause-all
close_words-closed_words-requires-clause-all g c =
    let is = ap (λ (x : View × TableId). x.0) c.offer.ensures.kept in
    let first = ap (λ (state : Seat (Unit {0}) View). state.me.0) c.new-first.ensures
    ∙ ap (λ (m : Me (Unit {0}) View). m.0) c.in_ok-words.ensures.seat.1 in
    let b = begun c.piece_count-count.result c.new-first.result.seat.me.0 c.offer.new.self.seat.me.0 first is in let one = b.seats in
    let most = b.seats_left in
    let last = ap (λ (state : Seat (Unit {0}) View). state.me.0) c.into_seat-seat.ensures in
    let seats = ap (λ (x : View). x.seats) last in let left = ap (λ (x : View). x.seats_left) last in
    let joined = c.in_ok-answers.ensures.joined in let all = joined.seats in let rest = joined.seats_left in
    let few = c.requires.few_workers in
    omega (arith, one, most, seats, left, all, rest, few)

pub returns : goal.returns
returns g c =
    let context = c.args.context.now in let view = c.offer.new.self.seat.me.0 in
    let is = ap (λ (x : View × TableId). x.0) c.offer.ensures.kept in
    let first = ap (λ (state : Seat (Unit {0}) View). state.me.0) c.new-first.ensures
    ∙ ap (λ (m : Me (Unit {0}) View). m.0) c.in_ok-words.ensures.seat.1 in
    let b = begun c.piece_count-count.result c.new-first.result.seat.me.0 view first is in
    let last = ap (λ (state : Seat (Unit {0}) View). state.me.0) c.into_seat-seat.ensures in
    let key = c.in_ok-words.ensures.words.2 in let count = c.piece_count-count.ensures.value in
    let greatest_offer = c.offer.ensures.greatest_offer in let none = ap (λ (x : View). x.greatest_offer) first in
    let totals = c.close_words-closed_words.result.draws ∷ c.close_words-closed_words.result.offered ∷ [] in
    let closed = subst (λ (x : View). AreClosedWords c.in_ok-words.words.shared.key totals x) last c.close_words-closed_words.ensures in
    whole context.problem.now context.depth context.node_limit context.first_welfare c.args.workers c.in_ok-words.words.shared.key totals
    (record view { seats_left = view.seats_left - c.args.workers }) c.walk_with_workers.new.first.seat.me.0 c.in_ok-answers.answers.items
    c.in_ok-answers.ensures.joined b.going (omega (arith, greatest_offer, none)) c.requires.some_worker (key ∙ count) closed
