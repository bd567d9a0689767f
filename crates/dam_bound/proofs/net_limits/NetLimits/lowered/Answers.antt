-- A slack more.
use Rattle.dam_bound.proofs.Common.{◌≡◌, ◌∙◌, ℤ, ◌-ℤ◌, get_or, ap, sym, subst, inl, inr, arith, ints, to_z-of_z, cases_eq, get_or-set_other, length-set}
use Rattle.dam_bound.proofs.Common.{greatest_volume, IsWithin, limit_in, slack_taken}
use Rattle.std.proofs.Common.{pos, to_z, of_z, w32}
use Rattle.dam_bound.proofs.Limiting.{lowered_here, taken_within}
use Rattle.dam_bound.proofs.net_limits.NetLimits.lowered.Goals as goal

net_narrow : (x : ℤ) → IsWithin greatest_volume x → to_z w32 (of_z w32 x) ≡ x
net_narrow x w = let l = w.at_least in let h = w.at_most in to_z-of_z w32 x (omega (arith, ints, l, h))

pub slack_taken-requires : goal.slack_taken-requires
slack_taken-requires c =
    let net = get_or (limit_in c.args.self.now.limits c.loop-k.k).nets c.args.place (pos 0) in
    let own = (c.requires.limits.1.each c.loop-k.k c.loop-k-test.true).small c.args.place (pos 0) c.requires.place in
    subst (IsWithin greatest_volume) (sym (net_narrow net own)) own

pub loop-k-preserved : goal.loop-k-preserved
loop-k-preserved c =
    let k = c.loop-k.k in let test = c.loop-k-test.true in let slacks = c.args.slack.now.slacks in
    let own = c.requires.slacks.small k (pos 0) test in let a = own.at_least in let b = own.at_most in
    let was = c.loop-k.invariant.rest k (pos 0) (omega arith) in
    let many = c.loop-k.invariant.many in let as_many = c.requires.slacks.many in
    let net = get_or (limit_in c.args.self.now.limits k).nets c.args.place (pos 0) in
    let value = c.slack_taken.ensures.value
    ∙ ap (slack_taken c.args.accept) (net_narrow net ((c.requires.limits.1.each k test).small c.args.place (pos 0) c.requires.place)) in
    let low = c.slack_taken.ensures.least in let high = c.slack_taken.ensures.most in
    record {
      many = length-set c.loop-k.slacks k _ ∙ many;
      lowered = λ i d l. elim (cases_eq i k) [
        | inl same ↦
            lowered_here c.loop-k.slacks slacks k i d _ c.slack_taken.result same (omega (arith, test, many)) (omega (arith, test, as_many))
            (omega (arith, ints, a, b, was, low, high)) was
            ∙ ap (λ (z : ℤ). get_or slacks i d -ℤ z) (value
            ∙ ap (λ (j : _). slack_taken c.args.accept (get_or (limit_in c.args.self.now.limits j).nets c.args.place (pos 0))) (sym same))
        | inr apart ↦ get_or-set_other c.loop-k.slacks k i _ d apart ∙ c.loop-k.invariant.lowered i d (omega (arith, l, apart))
      ];
      rest = λ i d l. get_or-set_other c.loop-k.slacks k i _ d (omega (arith, l)) ∙ c.loop-k.invariant.rest i d (omega (arith, l));
    }

pub returns-clause-small : goal.returns-clause-small
returns-clause-small c =
    let past = c.loop-k-test.false in record {
      many = c.loop-k.invariant.many;
      small = λ k d l.
          (let is = c.loop-k.invariant.lowered k d (omega (arith, l, past)) in let was = c.requires.slacks.small k d l in
          let accepted = taken_within c.args.accept _ ((c.requires.limits.1.each k l).small c.args.place (pos 0) c.requires.place) in
          let a = was.at_least in let b = was.at_most in let low = accepted.0 in let high = accepted.1 in
          record { at_least = omega (arith, ints, is, a, high); at_most = omega (arith, ints, is, b, low) });
    }
