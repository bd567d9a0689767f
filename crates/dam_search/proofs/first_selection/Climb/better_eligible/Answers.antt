-- A welfare greater than another one is above 0, and the selection is eligible with it.
use Rattle.dam_search.proofs.Common.{ℤ, pos, List, Bool, ◌∙◌, sym, subst, rules, arith, ints, to_z-of_z, w64, SFits, IsEligible}
use Rattle.dam_search.proofs.Opens.{eligible_leaf, with_rows}
use Rattle.dam_search.proofs.first_selection.Climb.better_eligible.Goals as goal

pub least_welfare_above-least-requires : goal.least_welfare_above-least-requires
least_welfare_above-least-requires g c =
    let within = c.selection_welfare_is_small.ensures c.args.self.now.problem.now c.args.best.selection (pos c.args.best.welfare) c.periods-invariant.ensures.valid
    c.requires.eligible.welfare_is in
    let most = within.at_most in
    omega (arith, ints, most)

pub returns-clause-eligible : goal.returns-clause-eligible
returns-clause-eligible g c =
    let problem = c.args.self.now.problem.now in let relaxed = g.P.PriceOracle.problem c.args.self.now.oracle.now in
    let selection = c.args.selection in
    let welfare = c.in-Some.welfare in
    let fits : SFits w64 welfare = search rules in
    let value = to_z-of_z w64 welfare fits in
    let has_welfare = with_rows problem relaxed selection welfare c.args.self.now.same c.in-Some.ensures.some.0 in
    let is = eligible_leaf problem relaxed selection c.has_loss.result welfare c.args.self.now.same c.requires.long c.if-has_loss.false
    c.has_loss.ensures (c.admissible.ensures.0 (search rules)) has_welfare (c.balanced_selections_have_prices.ensures problem selection welfare c.periods-invariant.ensures.valid has_welfare) in
    subst (λ (z : ℤ). IsEligible problem c.solution_of.result.selection z) (sym (c.solution_of.ensures.welfare ∙ value))
    (subst (λ (xs : List Bool). IsEligible problem xs welfare) (sym c.solution_of.ensures.selection) is)
