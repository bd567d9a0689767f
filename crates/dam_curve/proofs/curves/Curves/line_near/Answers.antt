-- The nearest net volume lies between the ends of the curve, and the line is that of one of its segments.
use Rattle.std.proofs.Common.{◌≡◌, ◌<◌, sym, subst, refl, to_z, of_z, w64, rules}
use Rattle.dam_curve.specs.Curve.{segments_at, IsCurve}
use Rattle.dam_curve.proofs.LookingUp.{ordered_there, nearest, ends_there}
use Rattle.dam_curve.proofs.curves.Curves.line_near.Goals as goal

pub place_near-requires-clause-least : goal.place_near-requires-clause-least
place_near-requires-clause-least g c =
    let some : 0 < c.args.curve.count = search rules in
    let ordered = ordered_there _ c.args.curve _ _ _ c.requires.3 some in
    (nearest c.args.curve.least c.args.curve.most (to_z w64 (of_z w64 c.args.net)) (to_z w64 (of_z w64 c.from.result))
    (to_z w64 (of_z w64 c.from-2.result)) (to_z w64 (of_z w64 c.max.result)) (to_z w64 (of_z w64 c.min-net.result)) ordered (search rules)
    (search rules) (search rules) (search rules)).0

pub line_in-requires-clause-bottom : goal.line_in-requires-clause-bottom
line_in-requires-clause-bottom g c =
    let some : 0 < c.args.curve.count = search rules in
    let ordered = ordered_there _ c.args.curve _ _ _ c.requires.3 some in
    let net = nearest c.args.curve.least c.args.curve.most (to_z w64 (of_z w64 c.args.net)) (to_z w64 (of_z w64 c.from.result))
    (to_z w64 (of_z w64 c.from-2.result)) (to_z w64 (of_z w64 c.max.result)) (to_z w64 (of_z w64 c.min-net.result)) ordered (search rules)
    (search rules) (search rules) (search rules) in
    let segments : c.segments_of-segments.result.now ≡ segments_at c.args.self.now.segments c.args.curve = search rules in
    rw segments (ends_there _ c.args.curve _ _ _ _ _ c.requires.3 refl net.0 net.1).0

pub line_in-requires-clause-top : goal.line_in-requires-clause-top
line_in-requires-clause-top g c =
    let some : 0 < c.args.curve.count = search rules in
    let ordered = ordered_there _ c.args.curve _ _ _ c.requires.3 some in
    let net = nearest c.args.curve.least c.args.curve.most (to_z w64 (of_z w64 c.args.net)) (to_z w64 (of_z w64 c.from.result))
    (to_z w64 (of_z w64 c.from-2.result)) (to_z w64 (of_z w64 c.max.result)) (to_z w64 (of_z w64 c.min-net.result)) ordered (search rules)
    (search rules) (search rules) (search rules) in
    let segments : c.segments_of-segments.result.now ≡ segments_at c.args.self.now.segments c.args.curve = search rules in
    rw segments (ends_there _ c.args.curve _ _ _ _ _ c.requires.3 refl net.0 net.1).1

pub returns-clause-above : goal.returns-clause-above
returns-clause-above g c ps least most is =
    let segments : c.segments_of-segments.result.now ≡ segments_at c.args.self.now.segments c.args.curve = search rules in
    c.line_in.ensures.above ps least most (subst (IsCurve ps least most) (sym segments) is.is_curve)
