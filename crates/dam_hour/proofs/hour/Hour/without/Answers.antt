-- The steps, the buys and the sells are each those that stay.
use Rattle.std.proofs.Common.{◌≡◌, ◌+◌, ℕ, suc, ◌++◌, take, drop, ap, ◌∙◌, arith}
use Rattle.std.proofs.lemmas.Grind.{common_steps}
use Rattle.dam_hour.proofs.Leaving.{kept_without}
use Rattle.dam_hour.proofs.hour.Hour.without.Goals as goal

pub invariant_of-result : goal.invariant_of-result
invariant_of-result g c =
    let ss = c.self.inside.steps.items in
    let steps : c.extend_from_slice-2.new.self.items ≡ take c.args.place ss ++ drop (c.args.place + 1) ss = grind (arith, common_steps) in
    let next : c.args.place + 1 ≡ suc c.args.place = omega arith in
    kept_without ss c.extend_from_slice-2.new.self.items c.self.inside.buys c.self.inside.sells c.in_ok-buys.buys c.in_ok-sells.sells
    c.args.place c.self.invariant (rw (← c.self.view_is) at c.requires)
    (steps ∙ ap (λ (k : ℕ). take c.args.place ss ++ drop k ss) next) c.in_ok-buys.ensures c.in_ok-sells.ensures

pub returns : goal.returns
returns g c =
    let ss = c.self.inside.steps.items in
    let steps : c.extend_from_slice-2.new.self.items ≡ take c.args.place ss ++ drop (c.args.place + 1) ss = grind (arith, common_steps) in
    let next : c.args.place + 1 ≡ suc c.args.place = omega arith in
    rw (← c.self.view_is) (steps ∙ ap (λ (k : ℕ). take c.args.place ss ++ drop k ss) next)
