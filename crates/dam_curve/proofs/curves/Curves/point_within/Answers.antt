-- The net volume lies between the ends of the curve, and the point is that of the segment that holds there.
use Rattle.std.proofs.Common.{◌≡◌, ℤ, ap, ◌∙◌, sym, subst, to_z, of_z, w64, rules}
use Rattle.dam_curve.specs.Curve.{joint_welfare, segments_at, IsCurve}
use Rattle.dam_curve.specs.JointPrice.{IsJointPrice}
use Rattle.dam_curve.proofs.LookingUp.{ends_there}
use Rattle.dam_curve.proofs.curves.Curves.point_within.Goals as goal

pub point_in-requires-clause-bottom : goal.point_in-requires-clause-bottom
point_in-requires-clause-bottom g c =
    let net : to_z w64 (of_z w64 c.args.net) ≡ c.args.net = search rules in
    let segments : c.segments_of-segments.result.now ≡ segments_at c.args.self.now.segments c.args.curve = search rules in
    rw segments (ends_there _ c.args.curve _ _ _ c.args.net (to_z w64 (of_z w64 c.args.net)) c.requires.curve.3 net c.requires.least c.requires.most).0

pub point_in-requires-clause-top : goal.point_in-requires-clause-top
point_in-requires-clause-top g c =
    let net : to_z w64 (of_z w64 c.args.net) ≡ c.args.net = search rules in
    let segments : c.segments_of-segments.result.now ≡ segments_at c.args.self.now.segments c.args.curve = search rules in
    rw segments (ends_there _ c.args.curve _ _ _ c.args.net (to_z w64 (of_z w64 c.args.net)) c.requires.curve.3 net c.requires.least c.requires.most).1

pub returns-clause-welfare : goal.returns-clause-welfare
returns-clause-welfare g c ps least most is =
    let segments : c.segments_of-segments.result.now ≡ segments_at c.args.self.now.segments c.args.curve = search rules in
    let net : to_z w64 (of_z w64 c.args.net) ≡ c.args.net = search rules in
    c.point_in.ensures.welfare ps least most (subst (IsCurve ps least most) (sym segments) is.is_curve)
    ∙ ap (joint_welfare ps) net

pub returns-clause-price : goal.returns-clause-price
returns-clause-price g c ps least most is =
    let segments : c.segments_of-segments.result.now ≡ segments_at c.args.self.now.segments c.args.curve = search rules in
    let net : to_z w64 (of_z w64 c.args.net) ≡ c.args.net = search rules in
    subst (λ (z : ℤ). IsJointPrice ps z c.point_in.result.price) net
    (c.point_in.ensures.price ps least most (subst (IsCurve ps least most) (sym segments) is.is_curve))
