-- A row stands at its place, and is one more.
use Rattle.std.proofs.Common.{◌≡◌, Some, List, refl, subst}
use Rattle.std.specs.List.{slice_get}
use Rattle.std.proofs.lemmas.Option.{slice_get_read}
use Rattle.dam_blocks.specs.declared.problem.ProblemRow.{ProblemRow}
use Rattle.dam_results.proofs.ClearingSteps.{rows_more}
use Rattle.dam_results.proofs.row_results.row_results.Goals as goal

pub row_result-requires-clause-place : goal.row_result-requires-clause-place
row_result-requires-clause-place g c =
    let rows = c.rows-rows.ensures in
    rows.valid.rows c.loop-row.row-index c.row-item.result
    (subst (λ (rs : List ProblemRow). slice_get rs c.loop-row.row-index ≡ Some c.row-item.result) rows.value
    (slice_get_read _ _ _ _ refl c.loop-row-test.true c.row-item.is))

pub loop-row-preserved : goal.loop-row-preserved
loop-row-preserved g c =
    rows_more c.args.problem.now c.args.selection c.args.clearing.now.prices.items c.rows-rows.result.now c.loop-row.row-index _ _
    c.row-item.result c.row_result.result
    (slice_get_read _ _ _ _ refl c.loop-row-test.true c.row-item.is) c.row_result.ensures c.in_ok-push.ensures.items c.loop-row.invariant
