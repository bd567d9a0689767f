-- The sums of two prices and of two surpluses fit their types.
use Rattle.std.proofs.Common.{◌≡◌, to_z, of_z, w32, rules, arith}
use Rattle.std.proofs.lemmas.Int.{ints}
use Rattle.dam_curve.specs.inside.Segments.{price_at}
use Rattle.dam_curve.proofs.ListsOfSegments.{same_segment, price_small}
use Rattle.dam_curve.proofs.sum.joint_segment.Goals as goal

pub overflow_add-result-2 : goal.overflow_add-result-2
overflow_add-result-2 c =
    let few = c.requires.4 in
    let small = price_small c.requires.0 c.args.a c.args.most c.requires.2 in
    let small2 = price_small c.requires.1 c.args.b c.args.most c.requires.3 in
    let first : to_z w32 (of_z w32 c.price_at.result) ≡ price_at c.args.a c.args.most = search rules in
    let second : to_z w32 (of_z w32 c.price_at-2.result) ≡ price_at c.args.b c.args.most = search rules in
    omega (arith, ints, few, small.0, small.1, small2.0, small2.1, first, second)

pub returns : goal.returns
returns c =
    let few = c.requires.4 in
    let p = c.requires.2.price_at_least in let q = c.requires.2.price_at_most in
    let s = c.requires.2.surplus_at_least in let t = c.requires.2.surplus_at_most in
    let p2 = c.requires.3.price_at_least in let q2 = c.requires.3.price_at_most in
    let s2 = c.requires.3.surplus_at_least in let t2 = c.requires.3.surplus_at_most in
    let small = price_small c.requires.0 c.args.a c.args.most c.requires.2 in
    let small2 = price_small c.requires.1 c.args.b c.args.most c.requires.3 in
    let first : to_z w32 (of_z w32 c.price_at.result) ≡ price_at c.args.a c.args.most = search rules in
    let second : to_z w32 (of_z w32 c.price_at-2.result) ≡ price_at c.args.b c.args.most = search rules in
    same_segment _ _ _ _ _ _ _ _ (search rules) (omega (arith, ints, few, p, q, p2, q2))
    (omega (arith, ints, few, small.0, small.1, small2.0, small2.1, first, second)) (omega (arith, ints, few, s, t, s2, t2))
