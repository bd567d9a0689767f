-- The selection of a node that leaves no place is the only open one.
use Rattle.dam_search.proofs.Common.{◌⊎◌, inl, ℤ, pos, ◌<ℤ◌, ◌∙◌, sym, subst, refl, rules, arith, ints, to_z-of_z, false≢true, w64, SFits, IsEligible}
use Rattle.dam_search.proofs.Common.{IsMatched}
use Rattle.dam_search.proofs.Opens.{walked_nothing, covers_leaf, one_welfare, no_eligible_loss, eligible_leaf, with_rows, walked_leaf}
use Rattle.dam_search.proofs.price_walk.PriceWalk.offer_if_best.Goals as goal

pub returns-in_default-clause-walked : goal.returns-in_default-clause-walked
returns-in_default-clause-walked g c =
    walked_nothing c.requires.ready
    (covers_leaf _ c.requires.long c.args.self.now.same
    (λ welfare is e. (let under = c.price_selection.ensures.none c.in_default.is welfare e in inl (omega (arith, ints, under, c.signed_welfare.ensures)))))

pub returns-in_default-solution_if_better-clause-walked : goal.returns-in_default-solution_if_better-clause-walked
returns-in_default-solution_if_better-clause-walked g c =
    let state = c.args.state.now in
    let fits : SFits w64 c.in-Some.welfare = search rules in
    let value = to_z-of_z w64 c.in-Some.welfare fits in
    walked_nothing c.requires.ready
    (covers_leaf _ c.requires.long c.args.self.now.same
    (λ welfare is e. (let same = one_welfare _ welfare c.in-Some.welfare e c.in-Some.ensures.some.0 in
    subst (λ (z : ℤ). (z <ℤ pos state.incumbent_read) ⊎ IsMatched z c.args.selection state.best) (value ∙ sym same) c.in_default-solution_if_better.ensures.none)))

pub returns-then-not-admissible-clause-walked : goal.returns-then-not-admissible-clause-walked
returns-then-not-admissible-clause-walked g c =
    walked_nothing c.requires.ready
    (covers_leaf _ c.requires.long c.args.self.now.same
    (λ welfare is e. absurd (false≢true (sym c.if-not-admissible.true ∙ c.admissible.ensures.1 is.admissible))))

pub returns-then-has_loss-clause-walked : goal.returns-then-has_loss-clause-walked
returns-then-has_loss-clause-walked g c =
    let problem = c.args.self.now.problem.now in let relaxed = g.P.PriceOracle.problem c.args.self.now.oracle.now in walked_nothing c.requires.ready
    (covers_leaf _ c.requires.long c.args.self.now.same
    (λ welfare is e. absurd (no_eligible_loss problem relaxed c.args.selection c.has_loss.result welfare c.args.self.now.same c.if-has_loss.true c.has_loss.ensures is)))

pub returns-clause-walked : goal.returns-clause-walked
returns-clause-walked g c =
    let problem = c.args.self.now.problem.now in let relaxed = g.P.PriceOracle.problem c.args.self.now.oracle.now in let selection = c.args.selection in
    let fits : SFits w64 c.in-Some.welfare = search rules in
    let value = to_z-of_z w64 c.in-Some.welfare fits in
    let now = c.in-Some-solution_if_better.ensures.some in
    let welfare = with_rows problem relaxed selection c.in-Some.welfare c.args.self.now.same c.in-Some.ensures.some.0 in
    let is = eligible_leaf problem relaxed selection c.has_loss.result c.in-Some.welfare c.args.self.now.same c.requires.long c.if-has_loss.false
    c.has_loss.ensures (c.admissible.ensures.0 (search rules)) welfare (c.balanced_selections_have_prices.ensures problem selection c.in-Some.welfare c.periods-invariant.ensures.valid welfare) in
    walked_leaf c.requires.long c.requires.ready refl refl now.0
    (subst (λ (z : ℤ). IsEligible problem selection z) (sym (now.1 ∙ value)) is) now.2 c.offer.ensures.greatest_read c.offer.ensures.greatest_offer
