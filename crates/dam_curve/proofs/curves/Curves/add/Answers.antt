-- The segments stand after those of the other curves.
use Rattle.std.proofs.Common.{◌≡◌, [], sym, subst, rules}
use Rattle.dam_curve.specs.Curve.{IsCurve}
use Rattle.dam_curve.proofs.ListsOfSegments.{any_segment}
use Rattle.dam_curve.proofs.LookingUp.{curve_added}
use Rattle.dam_curve.proofs.curves.Curves.add.Goals as goal

pub returns-then-is_empty-clause-added : goal.returns-then-is_empty-clause-added
returns-then-is_empty-clause-added g c ps least most is =
    let none : c.args.sum.now ≡ [] = search rules in
    c.none.ensures c.args.self.now ps least most (subst (IsCurve ps least most) none is)

pub returns-clause-added : goal.returns-clause-added
returns-clause-added g c ps least most is =
    curve_added c.args.self.now.segments c.segments-segments.result.now _ _ ps least most
    any_segment
    (search rules) (search rules) (search rules) (search rules) (search rules) (search rules)
    (subst (IsCurve ps least most) (sym c.segments-segments.ensures) is)
