-- A selection that ranks above another has more welfare or accepts first, and the result ranks above each other
-- eligible selection.
use Rattle.dam_blocks.proofs.Common.{◌≡◌, ◌≢◌, ◌<◌, ◌↔◌, ◌⊎◌, inl, inr, ℤ, Bool, true, List, ◌∙◌, sym, subst, arith, ints, by_lt_z, ProblemState, IsEligible}
use Rattle.dam_blocks.proofs.Common.{accepts_first, RanksAtOrBelow, IsResult}
use Rattle.std.proofs.Common.{◌<ℤ◌}
use Rattle.dam_blocks.specs.Result.{RanksAbove}
use Rattle.dam_blocks.proofs.Ranks.{ranks_self, ranks_either, ranks_apart, above_below, same_rank}
use Rattle.dam_blocks.proofs.Verdicts.{one_welfare}

ranked : (v w : ℤ) (xs ys : List Bool) → (w <ℤ v) ⊎ ((w ≡ v) × (accepts_first xs ys ≡ true)) → RanksAbove v xs w ys
ranked v w xs ys (inl less) = record {
  by_welfare = omega (arith, ints, less);
  by_order = λ e. absurd (let no : 0 < 0 = omega (arith, ints, less, e) in omega (arith, no));
}
ranked v w xs ys (inr same) = let e = same.0 in record { by_welfare = omega (arith, ints, e); by_order = λ f. same.1 }

pub above_cases : (v w : ℤ) (xs ys : List Bool)
    → RanksAbove v xs w ys ↔ ((w <ℤ v) ⊎ ((w ≡ v) × (accepts_first xs ys ≡ true)))
above_cases v w xs ys = (
  λ above. (let most = above.by_welfare in
      by_lt_z w v (λ less. inl less)
      (λ not_less. let same : w ≡ v = omega (arith, ints, most, not_less) in inr (same, above.by_order (sym same)))),
  ranked v w xs ys,
)

-- each other eligible selection ranks below
abbrev AreBelow : ProblemState → List Bool → ℤ → Type 0
AreBelow problem selection w = (other : List Bool) (v : ℤ) → IsEligible problem other v → other ≢ selection
    → RanksAbove w selection v other

others_below : (problem : ProblemState) (selection : List Bool) (w : ℤ) → IsResult problem selection w → AreBelow problem selection w
others_below problem selection w is other v eligible differs =
    elim (ranks_either w v selection other) as (λ _. RanksAbove w selection v other) [
      | inl above ↦ above
      | inr below ↦ absurd (differs (sym (same_rank w selection v other (is.eligible.as_long ∙ sym eligible.as_long) below
          (is.others other v eligible)).0))
    ]

-- of equal selections neither ranks above
not_itself : (problem : ProblemState) (selection other : List Bool) (w v : ℤ) → IsEligible problem selection w
    → IsEligible problem other v → RanksAbove v other w selection → other ≢ selection
not_itself problem selection other w v best eligible above same =
    let moved = subst (λ (xs : List Bool). IsEligible problem xs v) same eligible in
    let welfare : v ≡ w = one_welfare problem selection v w moved best in
    let alike = subst (λ (u : ℤ). RanksAbove u selection w selection) welfare
    (subst (λ (xs : List Bool). RanksAbove v xs w selection) same above) in
    ranks_apart w w selection selection alike (ranks_self w selection)

result_from : (problem : ProblemState) (selection : List Bool) (w : ℤ) → IsEligible problem selection w
    → AreBelow problem selection w → IsResult problem selection w
result_from problem selection w best below = record {
  eligible = best;
  others = λ other v eligible.
      elim (ranks_either v w other selection) as (λ _. RanksAtOrBelow v other w selection) [
        | inl above ↦ above_below w selection v other
            (below other v eligible (not_itself problem selection other w v best eligible above))
        | inr lower ↦ lower
      ];
}

pub best_cases : (problem : ProblemState) (selection : List Bool) (w : ℤ)
    → IsResult problem selection w ↔ (IsEligible problem selection w × AreBelow problem selection w)
best_cases problem selection w =
    ((λ is. (is.eligible, others_below problem selection w is)), λ best. result_from problem selection w best.0 best.1)
