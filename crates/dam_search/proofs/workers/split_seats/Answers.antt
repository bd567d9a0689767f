-- One seat more is split off.
use Rattle.dam_search.proofs.Common.{◌≡◌, ℕ, ◌+◌, ◌-◌, List, ◌∙◌, ap, sym, subst, refl, arith, All, All-push, WorkerSeat, View, IsNewSeat}
use Rattle.dam_search.specs.Words.{new_view, view_after_split}
use Rattle.dam_search.proofs.workers.split_seats.Goals as goal

fewer : (view : View) (a b : ℕ) → a ≡ b → record view { seats_left = a } ≡ record view { seats_left = b }
fewer view a b e = ap (λ (n : ℕ). record view { seats_left = n }) e

left_of : (view other : View) (k : ℕ) → other ≡ record view { seats_left = view.seats_left - k } → other.seats_left ≡ view.seats_left - k
left_of view other k e = ap (λ (x : View). x.seats_left) e

one_less : (view other another : View) (k : ℕ) → other ≡ record view { seats_left = view.seats_left - k } → another ≡ view_after_split other
    → another ≡ record view { seats_left = view.seats_left - (k + 1) }
one_less view other another k e f = f ∙ ap view_after_split e ∙ fewer view ((view.seats_left - k) - 1) (view.seats_left - (k + 1)) (omega arith)

pub loop-init : goal.loop-init
loop-init c = record {
  many = c.in_ok-seats.ensures.len;
  capacity = (let capacity = c.in_ok-seats.ensures.capacity in let same = c.from.ensures in omega (arith, capacity, same));
  table = refl;
  first = fewer c.args.first.now.seat.me.0 c.args.first.now.seat.me.0.seats_left (c.args.first.now.seat.me.0.seats_left - 0) (omega arith);
  seats = subst (λ (xs : List WorkerSeat). All (λ (state : WorkerSeat). IsNewSeat c.args.first.now.seat.table_id c.args.first.now.seat.me.0.pieces state)
      xs) (sym c.in_ok-seats.ensures.items) (λ k d l. absurd (omega arith));
}

pub split-requires : goal.split-requires
split-requires c = let left = left_of c.args.first.now.seat.me.0 c.loop.first.seat.me.0 c.loop.counter c.loop.invariant.first in let many =
    c.requires in let less = c.loop-test.true in omega (arith, left, many, less)

pub loop-preserved : goal.loop-preserved
loop-preserved c =
    let i = c.loop.invariant in let view = c.args.first.now.seat.me.0 in
    let P : WorkerSeat → Type 0 = λ state. IsNewSeat c.args.first.now.seat.table_id view.pieces state in
    record {
      many = (let long = c.push_reserved.ensures.len in let many = i.many in omega (arith, long, many));
      capacity = (let same = c.push_reserved.ensures.capacity in let capacity = i.capacity in omega (arith, same, capacity));
      table = c.split.ensures.table ∙ i.table;
      first = one_less view c.loop.first.seat.me.0 c.split.new.self.seat.me.0 c.loop.counter i.first c.split.ensures.after;
      seats =
          subst (λ (xs : List WorkerSeat). All P xs) (sym c.push_reserved.ensures.items) (All-push P c.loop.seats.items c.split.result i.seats
          (record {
            table_is = c.split.ensures.same ∙ i.table;
            new = c.split.ensures.split_off ∙ ap (λ (x : View). new_view x.pieces 0) i.first;
          }));
    }
