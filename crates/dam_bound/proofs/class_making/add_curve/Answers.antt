-- A period more, and all of them.
use Rattle.dam_bound.proofs.Common.{◌≡◌, ◌≢◌, ◌+◌, ◌-◌, ℕ, length, slice_index_or, ap, ◌∙◌, sym, subst, refl, rules, arith, slice_get, negative_sum}
use Rattle.std.specs.Option.{option_copied}
use Rattle.dam_bound.specs.inside.BlockNumbers.{positive_sum}
use Rattle.dam_bound.proofs.DayLevels.{one_at}
use Rattle.dam_bound.proofs.Ranges.{day_small}
use Rattle.dam_bound.proofs.MakingClasses.{orders_from, few_from, IsCurveFrom, curve_kept, curve_more}
use Rattle.dam_bound.proofs.class_making.add_curve.Goals as goal

pub add-requires : goal.add-requires
add-requires g c =
    let inside = c.loop-at.invariant.inside in let some = c.loop-at-test.true in
    let same : c.loop-at.at ≡ (c.loop-at.at - 1) + 1 = omega (arith, some) in
    let short = day_small (length c.args.problem.now.hours) c.periods.ensures.valid.day in
    let curve = subst (λ (n : ℕ). IsCurveFrom c.args.problem.now c.args.first_place c.args.nets.now n c.loop-at.sum) same c.loop-at.invariant.curve in (
      orders_from c.args.problem.now c.args.first_place ((c.loop-at.at - 1) + 1),
      negative_sum c.args.nets.now,
      positive_sum c.args.nets.now,
      c.unwrap.result.now,
      curve,
      c.in_ok-supply.ensures,
      few_from c.args.problem.now c.args.first_place (c.loop-at.at - 1) (omega (arith, inside, some)) short,
    )

pub loop-at-preserved-then-firsts-at : goal.loop-at-preserved-then-firsts-at
loop-at-preserved-then-firsts-at g c =
    let inside = c.loop-at.invariant.inside in let some = c.loop-at-test.true in
    let same : c.loop-at.at ≡ (c.loop-at.at - 1) + 1 = omega (arith, some) in
    let short = day_small (length c.args.problem.now.hours) c.periods.ensures.valid.day in
    let curve = subst (λ (n : ℕ). IsCurveFrom c.args.problem.now c.args.first_place c.args.nets.now n c.loop-at.sum) same c.loop-at.invariant.curve in
    let back : c.loop-at.at - 1 ≡ c.at.result - 1 = omega (arith, c.at.ensures) in
    let there = ap (slice_get c.args.problem.now.hours) back ∙ sym c.steps.ensures.value ∙ ap option_copied c.unwrap.ensures in
    let first = c.requires.firsts.each (c.loop-at.at - 1) 0 (omega (arith, inside, some)) in
    let here : slice_index_or c.args.firsts.now (c.loop-at.at - 1) 0 ≡ c.args.first_place = search (rules, c.if-firsts-at.true) in
    record {
      inside = omega (arith, inside);
      same = refl;
      curve = curve_more c.args.problem.now c.args.first_place c.args.nets.now (c.loop-at.at - 1) c.unwrap.result.now c.add.new.self there
          (sym first ∙ here)
          (c.in_ok-add.ensures.added (orders_from c.args.problem.now c.args.first_place ((c.loop-at.at - 1) + 1)) (negative_sum c.args.nets.now)
          (positive_sum c.args.nets.now) c.unwrap.result.now curve c.in_ok-supply.ensures
          (few_from c.args.problem.now c.args.first_place (c.loop-at.at - 1) (omega (arith, inside, some)) short));
    }

pub loop-at-preserved : goal.loop-at-preserved
loop-at-preserved g c =
    let inside = c.loop-at.invariant.inside in let some = c.loop-at-test.true in
    let same : c.loop-at.at ≡ (c.loop-at.at - 1) + 1 = omega (arith, some) in
    let short = day_small (length c.args.problem.now.hours) c.periods.ensures.valid.day in
    let curve = subst (λ (n : ℕ). IsCurveFrom c.args.problem.now c.args.first_place c.args.nets.now n c.loop-at.sum) same c.loop-at.invariant.curve in
    let hour = one_at c.args.problem.now.hours (c.loop-at.at - 1) (omega (arith, inside, some)) in
    let first = c.requires.firsts.each (c.loop-at.at - 1) 0 (omega (arith, inside, some)) in
    let here : slice_index_or c.args.firsts.now (c.loop-at.at - 1) 0 ≢ c.args.first_place = search (rules, c.if-firsts-at.false) in
    record {
      inside = omega (arith, inside);
      same = refl;
      curve = curve_kept c.args.problem.now c.args.first_place c.args.nets.now (c.loop-at.at - 1) hour.0 c.loop-at.sum hour.1
          (λ is. here (first ∙ is)) curve;
    }

pub returns-clause-curve : goal.returns-clause-curve
returns-clause-curve g c =
    let past = c.loop-at-test.false in
    let none : c.loop-at.at ≡ 0 = omega (arith, past) in
    c.add-2.ensures.added (orders_from c.args.problem.now c.args.first_place 0) (negative_sum c.args.nets.now) (positive_sum c.args.nets.now)
    (subst (λ (n : ℕ). IsCurveFrom c.args.problem.now c.args.first_place c.args.nets.now n c.loop-at.sum) none c.loop-at.invariant.curve)
