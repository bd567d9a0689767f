-- A period more, and all of them.
use Rattle.dam_bound.proofs.Common.{◌≡◌, ◌≢◌, ◌+◌, ◌<◌, length, [], ◌∷◌, ◌++◌, slice_index_or, ap, ◌∙◌, sym, subst, refl, rules, arith, most_blocks}
use Rattle.dam_bound.proofs.Common.{CurvesState, net_volume_of_block, at_places}
use Rattle.dam_bound.specs.Classes.{first_of_class}
use Rattle.dam_bound.specs.Relaxed.{without_rows}
use Rattle.dam_bound.proofs.MakingClasses.{AreClassesSoFar, one_class, no_new_class, all_classes}
use Rattle.dam_bound.proofs.class_making.add_class_curves.Goals as goal
use Rattle.dam_bound.proofs.class_making.add_class_curves.Goals.{then-firsts-at+in_ok-curve+in_ok-push, else-firsts-at}

pub loop-at-preserved : goal.loop-at-preserved
loop-at-preserved g c =
    let problem = without_rows c.args.problem.now in let at = c.loop-at.at in
    let inside : at < length c.args.problem.now.hours =
    omega (arith, c.periods.ensures.value, c.get.ensures.value, c.from-count.ensures, c.loop-at-test.true) in
    let first = c.firsts_of_classes-firsts.ensures.each at 0 c.loop-at-test.true
    ∙ ap (λ (bs : _). first_of_class bs at) c.blocks-blocks.ensures.value in
    elim c.if-firsts-at.branch [
      | then-firsts-at+in_ok-curve+in_ok-push w ↦
          (let here : slice_index_or c.firsts_of_classes-firsts.result at 0 ≡ at = search (rules, w.if-firsts-at.true) in
          subst (AreClassesSoFar problem c.if-firsts-at.curves (at + 1)) (sym (ap (λ (v : _). v.items) w.classes-is ∙ w.in_ok-push.ensures.items))
          (subst (λ (curves : CurvesState). AreClassesSoFar problem curves (at + 1)
          (c.loop-at.classes.items ++ record { first_place = at; curve = w.in_ok-curve.curve; nets = w.net_volumes_in-nets.result } ∷ [])) (sym w.curves-is)
          (one_class problem c.loop-at.curves _ at c.loop-at.classes.items
          (record { first_place = at; curve = w.in_ok-curve.curve; nets = w.net_volumes_in-nets.result }) w.add_curve.ensures.kept (sym first ∙ here) refl
          c.blocks-blocks.ensures.valid.few_blocks w.in_ok-curve.ensures.curve
          (w.net_volumes_in-nets.ensures.value ∙ ap (at_places most_blocks (net_volume_of_block (at + 1))) c.blocks-blocks.ensures.value)
          c.loop-at.invariant)))
      | else-firsts-at w ↦
          (let apart : slice_index_or c.firsts_of_classes-firsts.result at 0 ≢ at = search (rules, w.if-firsts-at.false) in
          subst (AreClassesSoFar problem c.if-firsts-at.curves (at + 1)) (sym (ap (λ (v : _). v.items) w.classes-is))
          (subst (λ (curves : CurvesState). AreClassesSoFar problem curves (at + 1) c.loop-at.classes.items) (sym w.curves-is)
          (no_new_class problem c.loop-at.curves at c.loop-at.classes.items (λ same. apart (first ∙ same)) c.loop-at.invariant)))
    ]

pub returns : goal.returns
returns g c =
    let all : c.loop-at.at ≡ length c.args.problem.now.hours =
    omega (arith, c.periods.ensures.value, c.get.ensures.value, c.from-count.ensures, c.loop-at-test.false, c.loop-at.auto.at-end) in
    all_classes (without_rows c.args.problem.now) c.loop-at.curves c.loop-at.at c.loop-at.classes.items all c.loop-at.invariant
