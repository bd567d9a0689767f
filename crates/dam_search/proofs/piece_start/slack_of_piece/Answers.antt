-- Before the loop every place is open; each decision closes one.
use Rattle.dam_search.proofs.Common.{◌≡◌, ℕ, suc, ◌+◌, ℤ, pos, ◌-ℤ◌, Bool, not, List, get_or, ◌∙◌, ap, sym, subst, refl, arith, nat_lt, accepts, NetLimit}
use Rattle.dam_search.proofs.Common.{limit_in, HasSlack}
use Rattle.dam_bound.specs.NetLimits.{slack_taken, every_place}
use Rattle.dam_search.specs.inside.PriceWalk.{slack_left}
use Rattle.dam_search.proofs.Slacks.{less_open, open_at, decided_at, others_open, agrees_less, agrees_here}
use Rattle.dam_search.proofs.piece_start.slack_of_piece.Goals as goal

left_after : (limit : NetLimit) (accepted : List Bool) (at : ℕ) (accept : Bool) (before after : ℤ) → accept ≡ accepts accepted at
    → before ≡ slack_left limit accepted at → after ≡ before -ℤ slack_taken accept (get_or limit.nets at (pos 0))
    → after ≡ slack_left limit accepted (at + 1)
left_after limit accepted at accept before after is so_far taken =
    let next : suc at ≡ at + 1 = omega arith in
    taken ∙ ap (λ (z : ℤ). z -ℤ slack_taken accept (get_or limit.nets at (pos 0))) so_far
    ∙ ap (λ (b : Bool). slack_left limit accepted at -ℤ slack_taken b (get_or limit.nets at (pos 0))) is
    ∙ ap (slack_left limit accepted) next

pub loop-place-init : goal.loop-place-init
loop-place-init c = record {
  slacks = c.slack-slack.ensures.slacks;
  has = λ problem selection welfare are e agrees.
      less_open c.args.net_limits.now.limits selection every_place (λ place. not (nat_lt place 0)) c.slack-slack.result.slacks (λ place on. refl)
      (c.slack-slack.ensures.eligible problem selection welfare are e);
  left = c.slack-slack.ensures.whole;
}

pub loop-place-preserved : goal.loop-place-preserved
loop-place-preserved c =
    let at = c.loop-place.place in record {
      slacks = c.in-Some.ensures.slacks;
      has = λ problem selection welfare are e agrees.
          c.in-Some.ensures.some selection (λ p. not (nat_lt p at)) (λ p. not (nat_lt p (at + 1)))
          (c.loop-place.invariant.has problem selection welfare are e (agrees_less at c.args.accepted selection agrees)) (open_at at) (decided_at at) (others_open at)
          (agrees_here at c.args.accepted selection agrees ∙ sym c.has.ensures.value);
      left = λ k d l. left_after (limit_in c.args.net_limits.now.limits k) c.args.accepted at c.has.result (get_or c.loop-place.slack.slacks k d)
          (get_or c.in-Some.next.slacks k d) c.has.ensures.value (c.loop-place.invariant.left k d l) (c.in-Some.ensures.lowered k d l);
    }

pub returns-in_default-clause-none : goal.returns-in_default-clause-none
returns-in_default-clause-none c empty problem selection welfare are e agrees =
    let at = c.loop-place.place in let test = c.loop-place-test.true in
    c.slack_after.ensures.none c.in_default.is selection (λ p. not (nat_lt p at))
    (c.loop-place.invariant.has problem selection welfare are e (λ p l. agrees p (omega (arith, l, test)))) (open_at at)
    (agrees at test ∙ sym c.has.ensures.value)

pub returns-clause-some : goal.returns-clause-some
returns-clause-some c problem selection welfare are e agrees =
    let past = c.loop-place-test.false in let end = c.loop-place.auto.place-end in
    let same : c.loop-place.place ≡ c.args.depth = omega (arith, past, end) in
    subst (λ (n : ℕ). HasSlack c.args.net_limits.now.limits selection (λ p. not (nat_lt p n)) c.loop-place.slack.slacks) same
    (c.loop-place.invariant.has problem selection welfare are e (λ p l. agrees p (omega (arith, l, same))))

pub returns-clause-left : goal.returns-clause-left
returns-clause-left c k d l =
    let past = c.loop-place-test.false in let end = c.loop-place.auto.place-end in
    let same : c.loop-place.place ≡ c.args.depth = omega (arith, past, end) in
    c.loop-place.invariant.left k d l ∙ ap (slack_left (limit_in c.args.net_limits.now.limits k) c.args.accepted) same
