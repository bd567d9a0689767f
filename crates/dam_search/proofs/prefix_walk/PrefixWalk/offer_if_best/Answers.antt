-- The selection of a prefix that decides every block is its only completion that can be eligible.
use Rattle.dam_search.proofs.Common.{inl, inr, ◌≡◌, pos, List, Bool, Some, ◌∙◌, sym, subst, arith, ints, IsEligible}
use Rattle.dam_search.proofs.Ranks.{finds_nothing, ranks_with_itself, matched_as}
use Rattle.dam_search.proofs.prefix_walk.PrefixWalk.offer_if_best.Goals.{then-welfare-state-via-then-welfare-state}
use Rattle.dam_search.proofs.prefix_walk.PrefixWalk.offer_if_best.Goals.{then-welfare-state-via-else-welfare-state+then-not-ranks_above_found}
use Rattle.dam_search.proofs.prefix_walk.PrefixWalk.offer_if_best.Goals as goal

pub returns-in_default-clause-finds : goal.returns-in_default-clause-finds
returns-in_default-clause-finds g c = finds_nothing c.args.self.now.problem.now c.args.prefix.now c.args.state.now.best

pub returns-in_default-clause-covers : goal.returns-in_default-clause-covers
returns-in_default-clause-covers g c other welfare whole e =
    let problem = c.args.self.now.problem.now in let selection = c.selection-selection.result in
    let only : other ≡ selection = c.completions_split.ensures.only problem c.args.prefix.now other (omega (arith, c.requires.full)) whole e.admissible
    ∙ sym c.selection-selection.ensures in
    absurd (c.verdict_tells_eligibility.ensures.other problem selection c.score.result welfare c.score.ensures c.in_default.not-Eligible
    (subst (λ (xs : List Bool). IsEligible problem xs welfare) only e))

pub returns-then-welfare-state-clause-finds : goal.returns-then-welfare-state-clause-finds
returns-then-welfare-state-clause-finds g c = finds_nothing c.args.self.now.problem.now c.args.prefix.now c.args.state.now.best

pub returns-then-welfare-state-clause-covers : goal.returns-then-welfare-state-clause-covers
returns-then-welfare-state-clause-covers g c other welfare whole e =
    let problem = c.args.self.now.problem.now in let selection = c.selection-selection.result in
    let only : other ≡ selection = c.completions_split.ensures.only problem c.args.prefix.now other (omega (arith, c.requires.full)) whole e.admissible
    ∙ sym c.selection-selection.ensures in
    let same : welfare ≡ pos c.in-Eligible.welfare = c.verdict_tells_eligibility.ensures.one problem selection welfare (pos c.in-Eligible.welfare)
    (subst (λ (xs : List Bool). IsEligible problem xs welfare) only e) c.in-Eligible.ensures in
    elim c.then-welfare-state.branch [
      | then-welfare-state-via-then-welfare-state b ↦ inl (omega (arith, ints, same, b.if-welfare-state.true))
      | then-welfare-state-via-else-welfare-state+then-not-ranks_above_found b ↦
          inr (matched_as welfare (pos c.in-Eligible.welfare) other selection c.args.state.now.best only same b.if-not-ranks_above_found.ensures)
    ]

pub returns-clause-covers : goal.returns-clause-covers
returns-clause-covers g c other w whole e =
    let problem = c.args.self.now.problem.now in let selection = c.selection-selection.result in
    let only : other ≡ selection = c.completions_split.ensures.only problem c.args.prefix.now other (omega (arith, c.requires.full)) whole e.admissible
    ∙ sym c.selection-selection.ensures in
    let same : w ≡ pos c.in-Eligible.welfare = c.verdict_tells_eligibility.ensures.one problem selection w (pos c.in-Eligible.welfare)
    (subst (λ (xs : List Bool). IsEligible problem xs w) only e) c.in-Eligible.ensures in
    inr (matched_as w (pos c.in-Eligible.welfare) other selection (Some (record { selection = selection; welfare = c.in-Eligible.welfare })) only same
    (ranks_with_itself (pos c.in-Eligible.welfare) selection))
