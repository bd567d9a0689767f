-- The segments of the period and those of the others, added up.
use Rattle.std.proofs.Common.{◌≡◌, List, ◌∷◌, length, ap, ◌∙◌, sym, subst, rules, arith}
use Rattle.dam_book.specs.declared.order.Side.TheVariants.{Buy}
use Rattle.dam_hour.specs.declared.step.Step.{Step}
use Rattle.dam_hour.specs.Execution.{offered_volume}
use Rattle.dam_book.specs.Limits.{lowest_price}
use Rattle.dam_curve.specs.declared.segment.Segment.{Segment}
use Rattle.dam_curve.specs.Curve.{AreSmallSegments, IsCurve}
use Rattle.dam_curve.specs.inside.Supply.{worth_of}
use Rattle.dam_curve.specs.inside.Segments.{segments_from}
use Rattle.dam_curve.proofs.Clearing.{Laws}
use Rattle.dam_curve.proofs.Sorting.{same_length}
use Rattle.dam_curve.proofs.PeriodSegments.{NoLaws, IsPeriodCurve, period_curve}
use Rattle.dam_curve.proofs.JointWelfare.{curve_more}
use Rattle.dam_curve.proofs.sum.CurveSum.add.Goals as goal

-- the segments of the period alone
abbrev own_segments : List Step → List Segment
own_segments rising = segments_from (offered_volume Buy rising) (worth_of rising) lowest_price 0 0 rising

pub fill_period_segments-requires : goal.fill_period_segments-requires
fill_period_segments-requires g c =
    let long = same_length c.requires.3 c.args.supply.now c.requires.5.same in
    let few = c.requires.5.is_hour.few in let same = ap length c.steps.ensures in
    omega (arith, long, few, same)

pub fill_joint_segments-requires : goal.fill_joint_segments-requires
fill_joint_segments-requires g c =
    let laws : Laws = record {
      reached = c.best_has_greatest_welfare.ensures.reached;
      bound = c.best_has_greatest_welfare.ensures.bound;
      some = c.best_has_greatest_welfare.ensures.some;
      welfare = c.supported_surplus_is_greatest.ensures.welfare;
      greatest = c.supported_surplus_is_greatest.ensures.greatest;
      between = c.price_is_between_ends.ensures.between;
    } in
    let nothing : NoLaws = record { none = c.best_has_greatest_welfare.ensures.none; within = c.balances_within_offers.ensures.within } in
    let own : c.deref.result.now ≡ own_segments c.args.supply.now = c.deref.ensures.value ∙ c.in_ok-fill_period_segments.ensures
    ∙ ap own_segments c.steps.ensures in
    let old : c.deref-2.result.now ≡ c.args.self.now = search rules in
    let few = c.requires.6 in (
      1,
      length c.requires.0,
      subst (AreSmallSegments 1) (sym own) (period_curve laws nothing c.requires.3 c.args.supply.now c.requires.5).small,
      subst (AreSmallSegments (length c.requires.0)) (sym old) c.requires.4.small,
      omega (arith, few),
    )

pub returns-clause-added : goal.returns-clause-added
returns-clause-added g c ps least most ss is supply few =
    let laws : Laws = record {
      reached = c.best_has_greatest_welfare.ensures.reached;
      bound = c.best_has_greatest_welfare.ensures.bound;
      some = c.best_has_greatest_welfare.ensures.some;
      welfare = c.supported_surplus_is_greatest.ensures.welfare;
      greatest = c.supported_surplus_is_greatest.ensures.greatest;
      between = c.price_is_between_ends.ensures.between;
    } in
    let nothing : NoLaws = record { none = c.best_has_greatest_welfare.ensures.none; within = c.balances_within_offers.ensures.within } in
    let own : c.deref.result.now ≡ own_segments c.args.supply.now = c.deref.ensures.value ∙ c.in_ok-fill_period_segments.ensures
    ∙ ap own_segments c.steps.ensures in
    let old : c.deref-2.result.now ≡ c.args.self.now = search rules in
    let new : c.swap.new.x.items ≡ c.fill_joint_segments.new.sum.items = search rules in
    let period = subst (IsPeriodCurve ss) (sym own) (period_curve laws nothing ss c.args.supply.now supply) in
    let curve = subst (IsCurve ps least most) (sym old) is in
    subst (IsCurve (ss ∷ ps) least most) (sym new)
    (curve_more ss ps least most c.deref.result.now c.deref-2.result.now c.fill_joint_segments.new.sum.items supply.is_hour period curve few
    (c.in_ok-fill_joint_segments.ensures.segments _ _ period.are_segments curve.are_segments)
    (c.in_ok-fill_joint_segments.ensures.under _ _ period.under curve.under)
    (c.in_ok-fill_joint_segments.ensures.priced _ _ ss ps period.are_segments curve.are_segments period.priced curve.priced)
    (c.in_ok-fill_joint_segments.ensures.within _ least most curve.are_segments curve.within)
    (λ net. c.in_ok-fill_joint_segments.ensures.outside _ _ net period.are_segments curve.are_segments)
    (c.in_ok-fill_joint_segments.ensures.small 1 (length ps) period.small curve.small))
