-- The sell that holds the last unit bounds the price from below.
use Rattle.dam_hour.proofs.Common.{◌≡◌, ℤ, pos, ◌-ℤ◌, subst, ap, ◌∙◌, arith, ints, w64, to_z, of_z, IsLimitOfSell}
use Rattle.std.specs.Int.{int_min}
use Rattle.dam_hour.proofs.Edges.{low_is_least}
use Rattle.dam_hour.proofs.edge.Edge.low.Goals as goal

pub returns : goal.returns
returns g c =
    let small = c.requires.small in let taken = c.sells_taken.ensures in
    let least = c.requires.net.at_least in let most = c.requires.net.at_most in
    let unit : to_z w64 (of_z w64 c.sells_taken.result) ≡ pos c.args.self.now.volume -ℤ c.args.net =
    omega (arith, ints, small, taken, least, most) in
    low_is_least c.args.hour.now c.args.net c.args.self.now.last c.args.self.now.next c.lesser.result c.limit_of_sell-sell.result
    c.args.self.now.volume
    c.requires.steps.in_range c.requires.within c.requires.edge
    (subst (λ (z : ℤ). IsLimitOfSell c.args.hour.now z c.limit_of_sell-sell.result) unit c.limit_of_sell-sell.ensures)
    (c.lesser.ensures ∙ ap (λ (z : ℤ). int_min c.args.self.now.last z) c.greater.ensures)
