-- Volumes of the two blocks in a class.
use Rattle.dam_bound.proofs.Common.{[], subst, arith, ProblemState, AreClassCurves, Class}
use Rattle.std.proofs.Common.{pos, to_z, of_z, w64}
use Rattle.dam_bound.proofs.LineByLine.{own_class}
use Rattle.dam_bound.proofs.Rivalry.{net_held, are_volumes}
use Rattle.dam_bound.proofs.class_curves.ClassCurves.cancelling_weights.Goals as goal

abbrev nothing : Class
nothing = record {
  first_place = 0;
  curve = record { first = 0; count = 0; least = pos 0; most = pos 0; hints = record { first = 0; shift = 0 } };
  nets = [];
}

pub returns-then-bought-gt0 : goal.returns-then-bought-gt0
returns-then-bought-gt0 g c =
    let are = subst (λ (p : ProblemState). AreClassCurves p c.self.inside.curves c.self.inside.classes.items c.self.inside.values
    c.self.inside.families.items) c.self.view_is c.self.invariant in
    let few = are.few_blocks in let one = c.requires.sell in let two = c.requires.buy in
    let own = own_class c.args.self.now _ _ _ _ c.deref-class-items.result.now c.loop-class.class-index nothing are
    c.deref-class-items.ensures.value c.loop-class-test.true in
    let sold = net_held _ c.args.sell c.from-sold.result own.small (omega (arith, few, one)) c.from-sold.ensures in
    let bought = net_held _ c.args.buy c.from-bought.result own.small (omega (arith, few, two)) c.from-bought.ensures in
    are_volumes (to_z w64 (of_z w64 c.from-bought.result)) (to_z w64 (of_z w64 c.from-sold.result)) bought.0 sold.0 c.if-bought-gt0.true
    c.if-sold-gt0.true
