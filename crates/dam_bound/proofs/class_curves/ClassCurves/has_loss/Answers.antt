-- A block more, and all of them.
use Rattle.dam_bound.proofs.Common.{◌≡◌, ℕ, ◌≤ℤ◌, length, inl, inr, ap, ◌∙◌, sym, subst, refl, rules, arith, ints, cases_lt, ProblemState, accepts}
use Rattle.dam_bound.proofs.Common.{family_surplus, AreClassCurves}
use Rattle.std.proofs.Common.{pos}
use mir.Syntax.{w64}
use mir.Val.{to_z, of_z}
use Rattle.dam_bound.proofs.LossPrices.{past_surplus}
use Rattle.dam_bound.proofs.class_curves.ClassCurves.has_loss.Goals as goal
use Rattle.dam_bound.proofs.class_curves.ClassCurves.has_loss.Goals.{else-has-via-then-has+else-family_gain-lt0, else-has-via-else-has}

pub returns : goal.returns
returns g c prices priced =
    let are = subst (λ (p : ProblemState). AreClassCurves p c.self.inside.curves c.self.inside.classes.items c.self.inside.values
    c.self.inside.families.items) c.self.view_is c.self.invariant in
    let many = are.families_are.as_many in let end = c.len-place-end.ensures in let past = c.loop-place-test.false in (
      λ e. record {
        gains = λ i accepted. elim (cases_lt i (length c.args.self.now.blocks)) [
          | inl less ↦ c.loop-place.invariant prices priced i (omega (arith, less, many, end, past)) accepted
          | inr beyond ↦ past_surplus c.accepted_descendants_descend.ensures c.args.self.now.blocks c.args.selection prices i beyond
        ];
      },
      λ no_loss. refl,
    )

pub loop-place-preserved : goal.loop-place-preserved
loop-place-preserved g c prices priced i l accepted =
    elim (cases_lt i c.loop-place.place) [
      | inl less ↦ c.loop-place.invariant prices priced i less accepted
      | inr most ↦
          (let same : c.loop-place.place ≡ i = omega (arith, l, most) in
          subst (λ (n : ℕ). pos 0 ≤ℤ family_surplus c.args.self.now.blocks c.args.selection prices n) same
          (elim c.else-has.branch [
            | else-has-via-then-has+else-family_gain-lt0 w ↦
                (let value = w.family_gain.ensures prices priced in
                let narrow : to_z w64 (of_z w64 w.family_gain.result) ≡ w.family_gain.result = search rules in
                let less = w.if-family_gain-lt0.false in
                omega (arith, ints, value, narrow, less))
            | else-has-via-else-has w ↦
                (let yes = ap (accepts c.args.selection) same ∙ accepted in
                let no = sym c.has.ensures.value ∙ w.if-has.false in absurd (cc))
          ]))
    ]

pub family_gain-requires-clause-place : goal.family_gain-requires-clause-place
family_gain-requires-clause-place g c =
    let are = subst (λ (p : ProblemState). AreClassCurves p c.self.inside.curves c.self.inside.classes.items c.self.inside.values
    c.self.inside.families.items) c.self.view_is c.self.invariant in
    let many = are.families_are.as_many in let end = c.len-place-end.ensures in let test = c.loop-place-test.true in
    omega (arith, many, end, test)
