-- Outside the offers nothing balances.
use Rattle.dam_hour.proofs.Common.{ℤ, subst, sym, to_z-of_z, w64, IsWithinOffers}
use Rattle.dam_hour.proofs.Answering.{outside_unbalanced}
use Rattle.dam_hour.proofs.hour.Hour.traded_volumes.Goals as goal

pub returns-then-not-is_within_offers-clause-none : goal.returns-then-not-is_within_offers-clause-none
returns-then-not-is_within_offers-clause-none g c =
    outside_unbalanced c.args.self.now c.args.net
    (λ within.
    (let moved = subst (λ (z : ℤ). IsWithinOffers c.args.self.now z) (sym (to_z-of_z w64 c.args.net c.ranges.net)) within in
    let never = c.if-not-is_within_offers.ensures.within.1 moved in
    cc))
