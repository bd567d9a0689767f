-- A period more.
use Rattle.std.proofs.Common.{map, ap, ◌∙◌, arith, ◌∷◌, []}
use Rattle.std.proofs.lemmas.List.{map-append}
use Rattle.dam_results.proofs.ClearingSteps.{balanced_in, cleared_more}
use Rattle.dam_results.proofs.clearing.clear_day.Goals as goal

pub clear_period-requires : goal.clear_period-requires
clear_period-requires g c =
    balanced_in c.args.problem.now c.args.best.selection _ c.loop-place.place _ c.requires
    (let count = c.periods.ensures.value in let got = c.get.ensures.value in let word = c.from-count.ensures in let less =
    c.loop-place-test.true in omega (arith, count, got, word, less)) c.at-period.ensures

pub loop-place-preserved : goal.loop-place-preserved
loop-place-preserved g c =
    cleared_more c.args.problem.now c.args.best.selection c.loop-place.place _ _ _ _ _ _ _ c.in_ok-result.result
    c.in_ok-result.executed.items c.at-period.ensures c.in_ok-result.ensures
    c.in_ok-push-2.ensures.items c.in_ok-push.ensures.items
    (ap (map (λ v. v.items)) c.in_ok-push-3.ensures.items ∙ map-append (λ v. v.items) c.loop-place.executions.items
    (c.in_ok-result.executed ∷ []))
    c.loop-place.invariant
