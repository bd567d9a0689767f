-- The two segments of no period.
use Rattle.std.proofs.Common.{◌≡◌, to_z, of_z, w32, w64, arith}
use Rattle.std.proofs.lemmas.Int.{ints}
use Rattle.dam_curve.proofs.JointWelfare.{flat_curve}
use Rattle.dam_curve.proofs.sum.CurveSum.restart.Goals as goal

pub returns : goal.returns
returns g c =
    let low = c.requires.least.at_least in let low2 = c.requires.least.at_most in
    let high = c.requires.most.at_least in let high2 = c.requires.most.at_most in
    let top : to_z w32 (of_z w32 (to_z w64 (of_z w64 c.args.most))) ≡ c.args.most = omega (arith, ints, high, high2) in
    let bottom : to_z w32 (of_z w32 (to_z w64 (of_z w64 c.args.least))) ≡ c.args.least = omega (arith, ints, low, low2) in
    rw (c.in_ok-push-2.ensures.items, c.in_ok-push.ensures.items, c.clear.ensures.items, c.flat_segment.ensures, c.flat_segment-2.ensures, top, bottom)
    (flat_curve c.args.least c.args.most c.requires.least c.requires.most c.requires.ordered)
