-- Without a fault the selection is eligible, so that its welfare is at least 0.
use Rattle.std.proofs.Common.{ℤ, pos, ◌≤ℤ◌, sym, subst, ◌∙◌, arith, rules, w64, FitsSigned}
use Rattle.std.proofs.lemmas.Int.{ints, to_z-of_z}
use Rattle.dam_blocks.specs.Eligible.{IsEligible}
use Rattle.dam_blocks.proofs.Verdicts.{eligible_from, natural}
use Rattle.dam_blocks.proofs.scoring.score.Goals as goal

pub overflow_cast-result : goal.overflow_cast-result
overflow_cast-result g c =
    let e = eligible_from c.args.problem.now c.args.selection c.in-Ok.day.prices c.hours.result.now _ c.hours.ensures.value (search rules)
    (search rules) c.in-Ok.ensures.0 c.in-None.ensures c.in-Ok.ensures.1 in
    let least : pos 0 ≤ℤ c.in-Ok.day.welfare = c.eligible_welfare_is_not_negative.ensures c.args.problem.now c.args.selection _ c.hours.ensures.valid e in
    grind (arith, ints, least)

pub returns-in-None : goal.returns-in-None
returns-in-None g c =
    let e = eligible_from c.args.problem.now c.args.selection c.in-Ok.day.prices c.hours.result.now _ c.hours.ensures.value (search rules)
    (search rules) c.in-Ok.ensures.0 c.in-None.ensures c.in-Ok.ensures.1 in
    let least : pos 0 ≤ℤ c.in-Ok.day.welfare = c.eligible_welfare_is_not_negative.ensures c.args.problem.now c.args.selection _ c.hours.ensures.valid e in
    let fits : FitsSigned w64 c.in-Ok.day.welfare = search rules in
    let same = to_z-of_z w64 c.in-Ok.day.welfare fits in
    subst (λ (z : ℤ). IsEligible c.args.problem.now c.args.selection z) (sym (natural _ (omega (arith, ints, least)) ∙ same)) e
