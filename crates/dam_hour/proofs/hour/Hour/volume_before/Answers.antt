-- The volume of the rungs before the cut, which is at most the volume of all steps.
use Rattle.dam_hour.proofs.Common.{ℕ, ◌∙◌, subst, arith, SplitsAt}
use Rattle.dam_hour.proofs.Ladders.{volume_before}
use Rattle.dam_hour.proofs.Positions.{front_small}
use Rattle.dam_hour.proofs.hour.Hour.volume_before.Goals as goal

pub returns-clause-value : goal.returns-clause-value
returns-clause-value g c =
    let cut = subst (λ (n : ℕ). SplitsAt n c.count_before-count.result c.ladder-ladder.result.now) c.sort_key_of.ensures.sort_key c.count_before-count.ensures.cut in
    c.sums_before.ensures.volume
    ∙ volume_before c.args.side c.args.limit c.args.place c.count_before-count.result c.ladder-ladder.result.now c.args.self.now
    c.ladder-ladder.ensures.side c.ladder-ladder.ensures.steps c.sort_key_of.ensures.limit c.requires cut

pub returns-clause-small : goal.returns-clause-small
returns-clause-small g c =
    let hour = c.ladder-ladder.ensures.steps in
    let value = returns-clause-value g c in
    let few = hour.few in
    let small = front_small c.args.side c.args.limit c.args.place c.args.self.now hour.in_range in
    omega (arith, value, few, small)
