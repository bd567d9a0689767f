-- One node, and the walks from its two decisions.
use Rattle.dam_search.proofs.Common.{◌≡◌, ℕ, ℤ, pos, List, ◌∷◌, get_or, ◌∙◌, ap, sym, subst, refl, rules, arith, ints, to_z-of_z, w64, SFits, AreDecisions}
use Rattle.dam_bound.specs.declared.pricing.Pricing.{Pricing}
use Rattle.dam_bound.specs.declared.net_limits.Slack.{Slack}
use Rattle.dam_search.specs.inside.PriceWalk.{IsBounded, IsSlack, IsWalkedOpen, bound_after}
use Rattle.dam_search.proofs.Opens.{all_within, accepts_taken, accepts_none_rejected, node_after, bounded_after, open_any, open_here, not_both}
use Rattle.dam_search.proofs.Opens.{walked_nothing, walked_over, walked_both, node_is, bounded_is, under_bound}
use Rattle.dam_search.proofs.Slacks.{no_slack, slack_after_is}
use Rattle.dam_search.proofs.price_walk.PriceWalk.+visit.Goals as goal

-- ---- both decisions

pub branch-returns-clause-walked : goal.branch-returns-clause-walked
branch-returns-clause-walked g t c =
    let problem = c.args.self.now.problem.now in let node = c.args.node.now in let undecided = c.in-Some.rest.now in
    let place = c.from-place.result in
    let split : node.undecided.now ≡ place ∷ undecided = c.in-Some.ensures.cases.0 ∙ ap (λ (k : ℕ). k ∷ undecided) (sym c.from-place.ensures) in
    let is = subst (λ (xs : List ℕ). AreDecisions node.accepted node.rejected xs) split c.requires.node.decisions in
    let greatest_read = g.I.Incumbent.greatest_read in let greatest_offer = g.I.Incumbent.greatest_offer in
    let before = c.args.incumbent.now in let after = c.walk_decision-2.new.incumbent in
    subst (λ (xs : List ℕ). IsWalkedOpen problem node.accepted xs (greatest_offer before) (greatest_read after) (greatest_offer after) c.args.state.now c.walk_decision-2.new.state)
    (sym split)
    (walked_both _ c.ranking_is_total.ensures.transitive is c.requires.ready c.walk_decision.ensures.walked c.walk_decision-2.ensures.walked)

-- ---- one decision

pub walk_decision-forbids-requires : goal.walk_decision-forbids-requires
walk_decision-forbids-requires g t c =
    let node = c.args.node.now in
    (subst (λ (xs : List ℕ). AreDecisions node.accepted node.rejected xs) c.requires.split c.requires.node.decisions).free.0

pub walk_decision-returns-then-forbids-clause-walked : goal.walk_decision-returns-then-forbids-clause-walked
walk_decision-returns-then-forbids-clause-walked g t c =
    let node = c.args.node.now in
    let accept = c.args.accept in let place = c.args.place in let undecided = c.args.rest.now in
    let is = subst (λ (xs : List ℕ). AreDecisions node.accepted node.rejected xs) c.requires.split c.requires.node.decisions in
    walked_nothing c.requires.ready
    (λ selection welfare opened e.
    (let any = open_any accept node.accepted place undecided selection opened in
    let here = open_here accept node.accepted node.rejected place undecided selection is opened in
    let other = c.forbids.ensures c.if-forbids.true selection welfare e (accepts_taken node.accepted (place ∷ undecided) selection is.free any)
    (accepts_none_rejected node.accepted node.rejected (place ∷ undecided) selection is any) in
    absurd (not_both _ accept here other)))

pub walk_decision-slack_after-requires-clause-place : goal.walk_decision-slack_after-requires-clause-place
walk_decision-slack_after-requires-clause-place g t c =
    let node = c.args.node.now in
    (subst (λ (xs : List ℕ). AreDecisions node.accepted node.rejected xs) c.requires.split c.requires.node.decisions).free.0

pub walk_decision-returns-in_default-clause-walked : goal.walk_decision-returns-in_default-clause-walked
walk_decision-returns-in_default-clause-walked g t c =
    let problem = c.args.self.now.problem.now in let node = c.args.node.now in
    let limits = c.args.self.now.net_limits.now.limits in
    let is = subst (λ (xs : List ℕ). AreDecisions node.accepted node.rejected xs) c.requires.split c.requires.node.decisions in
    let slack = subst (λ (xs : List ℕ). IsSlack problem limits node.accepted xs c.args.node.now.slack.now) c.requires.split c.requires.node.slack in
    walked_nothing c.requires.ready
    (λ selection welfare opened e. absurd (no_slack is slack (c.slack_after.ensures.none c.in_default.is) opened e))

pub walk_decision-visit-requires : goal.walk_decision-visit-requires
walk_decision-visit-requires g t c κs within =
    let node = c.args.node.now in let next = c.after_decision-next.result in let relaxed = g.P.PriceOracle.problem c.args.self.now.oracle.now in
    let accept = c.args.accept in let place = c.args.place in let undecided = c.args.rest.now in
    let is = subst (λ (xs : List ℕ). AreDecisions node.accepted node.rejected xs) c.requires.split c.requires.node.decisions in
    let bounded = subst (λ (xs : List ℕ). IsBounded relaxed c.args.node.now.pricing.now node.accepted xs node.bound) c.requires.split c.requires.node.bounded in
    let ensured = c.after_decision-next.ensures in
    let gain = get_or c.args.node.now.pricing.now.gains place (pos 0) in
    let own = bounded.is_pricing.small_gains place (pos 0) is.free.0 in
    let low = own.at_least in let high = own.at_most in
    let value = to_z-of_z w64 gain (omega (arith, ints, low, high)) in
    let bound = ensured.bound ∙ ap (λ (z : ℤ). bound_after accept node.bound z) value in
    let node' : AreDecisions next.accepted next.rejected next.undecided.now =
    node_is ensured.accepted ensured.rejected ensured.undecided (node_after accept node.accepted node.rejected place undecided is) in
    let bounded' : IsBounded relaxed next.pricing.now next.accepted next.undecided.now next.bound =
    subst (λ (p : Pricing). IsBounded relaxed p next.accepted next.undecided.now next.bound) (sym ensured.pricing)
    (bounded_is ensured.accepted ensured.undecided bound
    (bounded_after c.gains_add_up.ensures accept relaxed node.pricing.now node.accepted node.rejected place undecided node.bound is bounded)) in
    let limits = c.args.self.now.net_limits.now.limits in
    let had = subst (λ (xs : List ℕ). IsSlack c.args.self.now.problem.now limits node.accepted xs node.slack.now) c.requires.split c.requires.node.slack in
    let slack' : IsSlack c.args.self.now.problem.now limits next.accepted next.undecided.now next.slack.now =
    subst (λ (s : Slack). IsSlack c.args.self.now.problem.now limits next.accepted next.undecided.now s) (sym ensured.slack)
    (slack_after_is ensured.accepted ensured.undecided is c.in-Some.ensures.slacks c.in-Some.ensures.some had) in
    search rules

-- ---- prices of its own

pub branch_repriced-write_pricing-requires : goal.branch_repriced-write_pricing-requires
branch_repriced-write_pricing-requires g t c = all_within c.args.node.now.accepted c.args.node.now.undecided.now c.requires.node.decisions.free

pub branch_repriced-bound-bound-requires-clause-places : goal.branch_repriced-bound-bound-requires-clause-places
branch_repriced-bound-bound-requires-clause-places g t c = all_within c.args.node.now.accepted c.args.node.now.undecided.now c.requires.node.decisions.free

pub branch_repriced-returns-then-is_passed-clause-walked : goal.branch_repriced-returns-then-is_passed-clause-walked
branch_repriced-returns-then-is_passed-clause-walked g t c =
    let fits : SFits w64 c.bound-bound.result = search rules in
    let value = to_z-of_z w64 c.bound-bound.result fits in let at_most = c.bound-bound.ensures in
    walked_nothing c.requires.ready
    (λ selection welfare opened e. c.is_passed.ensures.passed c.if-is_passed.true selection welfare opened
    (under_bound c.pricing_bounds_open_selections.ensures c.args.self.now.same c.requires.node.decisions
    (record { is_pricing = c.write_pricing.ensures; bound_reaches = omega (arith, ints, value, at_most) }) opened e))

pub branch_repriced-branch-self-requires-2 : goal.branch_repriced-branch-self-requires-2
branch_repriced-branch-self-requires-2 g t c = search rules

-- ---- the node

pub visit-returns-then-is_passed-clause-walked : goal.visit-returns-then-is_passed-clause-walked
visit-returns-then-is_passed-clause-walked g t c =
    let was = c.requires.ready.read in
    let read = c.read-state.ensures in let rises = read.rises in
    walked_over c.requires.ready refl (omega (arith, was, rises))
    (sym read.greatest_read) read.greatest_offer
    (λ selection welfare opened e. c.is_passed.ensures.passed c.if-is_passed.true selection welfare opened
    (under_bound c.pricing_bounds_open_selections.ensures c.args.self.now.same
    c.requires.node.decisions c.requires.node.bounded opened e))
