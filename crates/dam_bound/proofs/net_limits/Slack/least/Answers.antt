-- A slack more.
use Rattle.std.proofs.Common.{◌≡◌, ◌+◌, sym, subst, pos, get_or, to_z, of_z, w32, rules, arith}
use Rattle.std.proofs.lemmas.Int.{ints, to_z-of_z}
use Rattle.dam_bound.proofs.Limiting.{IsLeast, least_more}
use Rattle.dam_bound.proofs.net_limits.Slack.least.Goals as goal

pub loop-k-preserved : goal.loop-k-preserved
loop-k-preserved c =
    let k = c.loop-k.k in let slacks = c.args.self.now.slacks in let test = c.loop-k-test.true in
    let own = c.requires.small k (pos 0) test in let l = own.at_least in let h = own.at_most in
    let narrow = to_z-of_z w32 (get_or slacks k (pos 0)) (omega (arith, ints, l, h)) in
    let held : to_z w32 (of_z w32 c.min-least.result) ≡ c.min-least.result = search rules in
    subst (IsLeast slacks (k + 1)) (sym held)
    (least_more slacks k _ _ c.min-least.result narrow c.min-least.ensures.value c.loop-k.invariant)
