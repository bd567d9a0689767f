-- If the two gain less than 0 together, one of them loses.
use Rattle.dam_bound.proofs.Common.{subst, refl, rules, ProblemState, AreClassCurves}
use Rattle.std.proofs.Common.{to_z, of_z, w64}
use Rattle.dam_bound.proofs.Members.{family_read}
use Rattle.dam_bound.proofs.Rivalry.{one_loses, lone, under_zero}
use Rattle.dam_bound.proofs.class_curves.ClassCurves.are_rivals.Goals as goal

pub returns-in-Some-most_weighed_surplus : goal.returns-in-Some-most_weighed_surplus
returns-in-Some-most_weighed_surplus g c less selection w eligible on =
    let are = subst (λ (p : ProblemState). AreClassCurves p c.self.inside.curves c.self.inside.classes.items c.self.inside.values
    c.self.inside.families.items) c.self.view_is c.self.invariant in
    let blocks = c.args.self.now.blocks in
    let sell = family_read blocks c.self.inside.families.items c.self.inside.families.items c.args.sell c.index.result.now refl
    are.families_are c.requires.sell c.index.ensures in
    let buy = family_read blocks c.self.inside.families.items c.self.inside.families.items c.args.buy c.index-else-is_some.result.now refl
    are.families_are c.requires.buy c.index-else-is_some.ensures in
    one_loses c.accepted_descendants_descend.ensures c.args.self.now c.args.sell c.args.buy c.in-Some.weights _ selection w
    (lone blocks c.args.sell c.index.result.now (search rules) sell)
    (lone blocks c.args.buy c.index-else-is_some.result.now (search rules) buy)
    c.in-Some.ensures c.in-Some-most_weighed_surplus.ensures
    (under_zero c.in-Some-most_weighed_surplus.most (to_z w64 (of_z w64 c.in-Some-most_weighed_surplus.most)) (search rules) less) eligible on
