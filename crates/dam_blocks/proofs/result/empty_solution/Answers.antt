-- The empty selection is eligible, so that no other verdict comes.
use Rattle.dam_blocks.proofs.Common.{List, Bool, sym, subst, IsEligible}
use Rattle.dam_blocks.proofs.Verdicts.{verdict_eligible}
use Rattle.dam_blocks.proofs.result.empty_solution.Goals as goal

pub unreachable-requires : goal.unreachable-requires
unreachable-requires g c =
    let some = c.empty_is_eligible.ensures c.args.problem.now c.periods-invariant.ensures.valid in
    let e = subst (λ (xs : List Bool). IsEligible c.args.problem.now xs some.0) (sym c.none-selection.ensures) some.1 in
    let found = verdict_eligible c.args.problem.now c.none-selection.result c.score.result some.0 c.score.ensures e in
    c.in_default.not-Eligible found.0 found.1
