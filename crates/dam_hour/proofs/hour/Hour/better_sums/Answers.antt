-- The sums of the rungs before the cut, and their gain.
use Rattle.dam_hour.proofs.Common.{ℕ, pos, ◌-ℤ◌, ◌*ℤ◌, ℤ, ap₂, ◌∙◌, subst, arith, signed, SplitsAt}
use Rattle.dam_hour.proofs.Ladders.{volume_before, none_in_front, gain_before}
use Rattle.dam_hour.proofs.Positions.{front_small, gain_small}
use Rattle.dam_hour.proofs.hour.Hour.better_sums.Goals as goal

pub returns-clause-volume : goal.returns-clause-volume
returns-clause-volume g c =
    let cut = subst (λ (n : ℕ). SplitsAt n c.count_before-count.result c.ladder-ladder.result.now) c.sort_key_of.ensures.sort_key c.count_before-count.ensures.cut in
    c.sums_before.ensures.volume
    ∙ volume_before c.args.side c.args.price 0 c.count_before-count.result c.ladder-ladder.result.now c.args.self.now c.ladder-ladder.ensures.side
    c.ladder-ladder.ensures.steps c.sort_key_of.ensures.limit (omega arith) cut
    ∙ none_in_front c.args.side c.args.price c.args.self.now

pub returns-clause-small : goal.returns-clause-small
returns-clause-small g c =
    let hour = c.ladder-ladder.ensures.steps in
    let value = returns-clause-volume g c in
    let few = hour.few in
    let small = front_small c.args.side c.args.price 0 c.args.self.now hour.in_range in
    omega (arith, value, few, small)

pub returns-clause-gain : goal.returns-clause-gain
returns-clause-gain g c =
    let cut = subst (λ (n : ℕ). SplitsAt n c.count_before-count.result c.ladder-ladder.result.now) c.sort_key_of.ensures.sort_key c.count_before-count.ensures.cut in
    ap₂ (λ (v : ℤ) (n : ℕ). signed c.args.side (v -ℤ c.args.price *ℤ pos n)) c.sums_before.ensures.value c.sums_before.ensures.volume
    ∙ gain_before c.args.side c.args.price c.count_before-count.result c.ladder-ladder.result.now c.args.self.now c.ladder-ladder.ensures.side
    c.ladder-ladder.ensures.steps c.sort_key_of.ensures.limit cut

pub returns-clause-gain_small : goal.returns-clause-gain_small
returns-clause-gain_small g c =
    let hour = c.ladder-ladder.ensures.steps in
    let few = hour.few in
    let small = gain_small c.args.side c.args.price c.args.self.now c.sort_key_of.ensures.limit hour.in_range in
    omega (arith, few, small)
