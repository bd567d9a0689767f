-- A completion that is admissible has an admissible prefix.
use Rattle.dam_search.proofs.Common.{◌≡◌, List, Bool, true, false, ◌∙◌, ap, sym, subst, padded, IsAdmissible}
use Rattle.dam_search.proofs.prefix.Prefix.is_admissible.Goals as goal

true_and_false : (b : Bool) → b ≡ true → b ≡ false → ⊥
true_and_false b e f = absurd (cc)

pub returns-clause-completions : goal.returns-clause-completions
returns-clause-completions g c rejected selection whole admitted =
    let blocks = c.args.problem.now.blocks in
    let prefix = c.fronts_are_admissible.ensures c.args.problem.now c.args.self.now whole.rest c.periods-invariant.ensures.valid
    (subst (λ (xs : List Bool). IsAdmissible blocks xs) whole.agrees admitted) in
    let accepted : padded c.args.self.now ≡ c.self.inside.accepted = sym (c.self.invariant.0 ∙ ap padded c.self.view_is) in
    let here = subst (λ (xs : List Bool). IsAdmissible blocks xs) accepted prefix in
    true_and_false c.admissible.result (c.admissible.ensures.1 here) rejected
