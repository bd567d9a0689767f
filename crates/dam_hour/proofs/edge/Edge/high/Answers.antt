-- The sell that holds the next unit bounds the price from above.
use Rattle.dam_hour.proofs.Common.{◌≡◌, ℤ, pos, ◌+ℤ◌, ◌-ℤ◌, subst, arith, ints, w64, to_z, of_z, IsLimitOfSell}
use Rattle.dam_hour.proofs.Edges.{high_is_greatest}
use Rattle.dam_hour.proofs.edge.Edge.high.Goals as goal

pub returns : goal.returns
returns g c =
    let small = c.requires.small in let taken = c.sells_taken.ensures in
    let least = c.requires.net.at_least in let most = c.requires.net.at_most in
    let unit : to_z w64 (of_z w64 (to_z w64 (of_z w64 c.sells_taken.result) +ℤ pos 1)) ≡ (pos c.args.self.now.volume -ℤ c.args.net) +ℤ pos 1 =
    omega (arith, ints, small, taken, least, most) in
    high_is_greatest c.args.hour.now c.args.net c.args.self.now.last c.args.self.now.next c.lesser.result c.limit_of_sell.result
    c.args.self.now.volume
    c.requires.steps.in_range c.requires.within c.requires.edge
    (subst (λ (z : ℤ). IsLimitOfSell c.args.hour.now z c.limit_of_sell.result) unit c.limit_of_sell.ensures) c.lesser.ensures
