-- No open selection of a node that is passed over ranks above the one with every place that is left.
use Rattle.dam_search.proofs.Common.{◌≡◌, inr, pos, Bool, List, Option, ◌∙◌, sym, subst, rules, arith, ints, to_z-of_z, w64, SFits, Solution, RanksAtOrBelow}
use Rattle.dam_search.proofs.Common.{IsMatched, with_all}
use Rattle.dam_search.proofs.Opens.{all_within, length-with_all, highest_accepts_all, not_above, ranks_less}
use Rattle.dam_search.proofs.price_walk.is_passed.Goals as goal

pub highest_selection-requires : goal.highest_selection-requires
highest_selection-requires c = all_within c.args.node.now.accepted c.args.node.now.undecided.now c.requires.free

pub returns-clause-passed : goal.returns-clause-passed
returns-clause-passed c passed selection welfare is le =
    let node = c.args.node.now in let best = c.in-Some.best in
    let fits : SFits w64 node.bound = search rules in
    let same : node.bound ≡ pos best.welfare = sym (to_z-of_z w64 node.bound fits) ∙ c.bound_equals.ensures.0 (search rules) in
    let below = not_above c.ranks_above.result _ _ passed c.ranks_above.ensures in
    let highest = subst (λ (xs : List Bool). RanksAtOrBelow (pos best.welfare) xs (pos best.welfare) best.selection) c.highest_selection.ensures below in
    let long = is.as_long ∙ sym (length-with_all node.undecided.now node.accepted ∙ c.requires.as_long) in
    inr (subst (λ (o : Option Solution). IsMatched welfare selection o) (sym c.in-Some.is)
    (ranks_less welfare (pos best.welfare) (pos best.welfare) selection (with_all node.accepted node.undecided.now) best.selection long
    (highest_accepts_all node.accepted node.undecided.now selection c.requires.as_long c.requires.free is) (omega (arith, ints, same, le)) highest))
