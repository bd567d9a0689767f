-- A limit times a volume in range.
use Rattle.dam_blocks.proofs.Common.{◌≡◌, arith, rules, ints, value_in}
use Rattle.dam_blocks.proofs.Magnitudes.{value_within}
use Rattle.dam_blocks.proofs.block_effects.value_in.Goals as goal

pub returns-clause-size : goal.returns-clause-size
returns-clause-size c =
    let w = value_within c.args.period c.args.order.now c.price.ensures.valid in
    let e : c.signed.result ≡ value_in c.args.period c.args.order.now = search rules in
    let l = w.at_least in let h = w.at_most in
    record { at_least = omega (arith, ints, l, h, e); at_most = omega (arith, ints, l, h, e) }
