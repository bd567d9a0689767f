-- Outside of the ends of a curve its periods don't balance, and between them they do.
use Rattle.std.proofs.Common.{◌≡◌, ◌⊎◌, inl, inr, ℤ, ◌<ℤ◌, sym, to_z, of_z, w32, rules, arith}
use Rattle.std.proofs.lemmas.Int.{ints}
use Rattle.dam_curve.proofs.LookingUp.{none_there, welfare_there}
use Rattle.dam_curve.proofs.curves.Curve.net_range.Goals as goal

held : (net b t x y : ℤ) → (net <ℤ b) ⊎ (t <ℤ net) → b ≡ x → t ≡ y → (net <ℤ x) ⊎ (y <ℤ net)
held net b t x y (inl less) e f = inl (omega (arith, ints, less, e))
held net b t x y (inr more) e f = inr (omega (arith, ints, more, f))

pub returns-clause-outside : goal.returns-clause-outside
returns-clause-outside c curves ps least most net is low high apart =
    let bottom : to_z w32 (of_z w32 c.args.self.least) ≡ c.args.self.least = search rules in
    let top : to_z w32 (of_z w32 c.args.self.most) ≡ c.args.self.most = search rules in
    sym (none_there curves c.args.self ps least most net is low high (held net _ _ _ _ apart bottom top))

pub returns-clause-inside : goal.returns-clause-inside
returns-clause-inside c curves ps least most net is low high =
    let bottom : to_z w32 (of_z w32 c.args.self.least) ≡ c.args.self.least = search rules in
    let top : to_z w32 (of_z w32 c.args.self.most) ≡ c.args.self.most = search rules in
    welfare_there curves c.args.self ps least most net is (omega (arith, ints, low, bottom)) (omega (arith, ints, high, top))
