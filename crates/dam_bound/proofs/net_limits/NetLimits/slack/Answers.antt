-- Before any decision there is the whole slack.
use Rattle.std.proofs.Common.{pos, arith}
use Rattle.std.proofs.lemmas.Int.{ints}
use Rattle.dam_bound.proofs.net_limits.NetLimits.slack.Goals as goal

pub returns-clause-eligible : goal.returns-clause-eligible
returns-clause-eligible c problem sel w are e k l =
    let most = (are.each k l).keeps sel w e in let past = c.loop-k-test.false in
    let is = c.loop-k.invariant.each k (pos 0) (omega (arith, l, past)) in
    omega (arith, ints, most, is)

pub returns-clause-whole : goal.returns-clause-whole
returns-clause-whole c k d l =
    let past = c.loop-k-test.false in c.loop-k.invariant.each k d (omega (arith, l, past))
