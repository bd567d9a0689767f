-- The segment's point has the joint welfare and the joint price; and it is small.
use Rattle.std.proofs.Common.{◌≡◌, ap, ◌∙◌, inl, inr, sym, subst, to_z, of_z, w64, rules, arith}
use Rattle.std.proofs.lemmas.Int.{ints}
use Rattle.dam_curve.specs.Curve.{joint_welfare}
use Rattle.dam_curve.specs.JointPrice.{IsJointPrice}
use Rattle.dam_curve.proofs.LookingUp.{none_there}
use Rattle.dam_curve.proofs.JointWelfare.{SizeLaws, joint_small}
use Rattle.dam_curve.proofs.curves.Curves.point.Goals.{then-net-from-via-then-net-from, then-net-from-via-else-net-from+then-net-from-2}
use Rattle.dam_curve.proofs.curves.Curves.point.Goals as goal

pub returns-then-net-from-clause-welfare : goal.returns-then-net-from-clause-welfare
returns-then-net-from-clause-welfare g c ps least most is low high =
    none_there c.args.self.now c.args.curve ps least most c.args.net is low high
    (elim c.then-net-from.branch [
      | then-net-from-via-then-net-from w ↦ inl (search rules)
      | then-net-from-via-else-net-from+then-net-from-2 w ↦ inr (search rules)
    ])

pub returns-clause-welfare : goal.returns-clause-welfare
returns-clause-welfare g c ps least most is low high =
    let net : to_z w64 (of_z w64 c.args.net) ≡ c.args.net = search rules in
    c.point_within.ensures.welfare ps least most is ∙ ap (joint_welfare ps) net

pub returns-clause-price : goal.returns-clause-price
returns-clause-price g c ps least most is =
    let net : to_z w64 (of_z w64 c.args.net) ≡ c.args.net = search rules in
    subst (λ z. IsJointPrice ps z c.point_within.result.price) net (c.point_within.ensures.price ps least most is)

pub returns-clause-small : goal.returns-clause-small
returns-clause-small g c =
    let laws : SizeLaws = record { reached = c.best_has_greatest_welfare.ensures.reached; small = c.executions_are_small.ensures } in
    let net : to_z w64 (of_z w64 c.args.net) ≡ c.args.net = search rules in
    let value = c.point_within.ensures.welfare c.requires.0 c.requires.1 c.requires.2 c.requires.3 ∙ ap (joint_welfare c.requires.0) net in
    let few = c.requires.3.is_curve.few in
    let small = joint_small laws c.requires.0 c.args.net _ c.requires.3.is_curve.are_hours (sym value) in
    record {
      welfare_at_least = omega (arith, ints, small.0, few);
      welfare_at_most = omega (arith, ints, small.1, few);
      price_at_least = c.point_within.ensures.at_least;
      price_at_most = c.point_within.ensures.at_most;
    }
