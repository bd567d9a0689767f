-- The ends are those of the tests, and at the least price as much is traded as balances.
use Rattle.dam_hour.proofs.Common.{ℤ, List, subst, arith, ints, to_z-of_z, w64, to_z, of_z, Step, AreInRange, IsWithinOffers, AreEnds, IsLeastHighEnough}
use Rattle.dam_hour.proofs.Common.{IsGreatestLowEnough}
use mir.Val.{SFits}
use Rattle.dam_hour.proofs.Supporting.{least_is_low, ends_from}
use Rattle.dam_hour.proofs.hour.TradedVolumes.of.Goals as goal

-- the same at the net volume itself, which fits
least_at : (hour : List Step) (net low : ℤ) → SFits w64 net → IsLeastHighEnough hour (to_z w64 (of_z w64 net)) low
    → IsLeastHighEnough hour net low
least_at hour net low fits least = subst (λ (z : ℤ). IsLeastHighEnough hour z low) (to_z-of_z w64 net fits) least

ends_at : (hour : List Step) (net low high : ℤ) → SFits w64 net → AreInRange hour → IsWithinOffers hour net
    → IsLeastHighEnough hour (to_z w64 (of_z w64 net)) low → IsGreatestLowEnough hour (to_z w64 (of_z w64 net)) high
    → AreEnds hour net low high
ends_at hour net low high fits in_range within least greatest =
    ends_from hour net low high in_range within (least_at hour net low fits least)
    (subst (λ (z : ℤ). IsGreatestLowEnough hour z high) (to_z-of_z w64 net fits) greatest)

pub overflow_cast-result-else-supply-demand : goal.overflow_cast-result-else-supply-demand
overflow_cast-result-else-supply-demand g c =
    let hour = c.args.hour.now in
    let least = least_at hour c.args.net c.low-low.result c.ranges.net c.low-low.ensures in
    let low = (least_is_low hour c.args.net c.low-low.result c.requires.steps.in_range c.requires.within least).enough in
    (omega (arith, ints, low), omega (arith, ints, low))

pub returns-then-supply-demand-clause-ends : goal.returns-then-supply-demand-clause-ends
returns-then-supply-demand-clause-ends g c =
    ends_at c.args.hour.now c.args.net c.low-low.result c.high-high.result c.ranges.net c.requires.steps.in_range c.requires.within
    c.low-low.ensures c.high-high.ensures

pub returns-else-supply-demand-clause-ends : goal.returns-else-supply-demand-clause-ends
returns-else-supply-demand-clause-ends g c =
    ends_at c.args.hour.now c.args.net c.low-low.result c.high-high.result c.ranges.net c.requires.steps.in_range c.requires.within
    c.low-low.ensures c.high-high.ensures

pub returns-else-supply-demand-clause-totals : goal.returns-else-supply-demand-clause-totals
returns-else-supply-demand-clause-totals g c =
    let hour = c.args.hour.now in
    let least = least_at hour c.args.net c.low-low.result c.ranges.net c.low-low.ensures in
    let low = (least_is_low hour c.args.net c.low-low.result c.requires.steps.in_range c.requires.within least).enough in
    let high = least.enough.enough in
    record {
      balance = omega (arith, ints, low);
      buys_at_least = omega arith;
      buys_at_most = omega arith;
      sells_at_least = omega (arith, ints, low);
      sells_at_most = omega (arith, ints, low, high);
      full = λ less. (let more = c.of-buys.ensures.most in absurd (omega (arith, less, more)));
    }
