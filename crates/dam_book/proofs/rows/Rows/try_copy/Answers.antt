-- A copy has the same places.
use Rattle.dam_book.proofs.Common.{AreNumbered, IsDistinct, List, MapPlace, ap, gap_count, keys_of, rows_of, rules, same_label, subst, sym, ◌∙◌}
use Rattle.std.proofs.lemmas.Map.Entries.{entries_from_clone}
use Rattle.dam_book.proofs.rows.Rows.try_copy.Goals as goal

pub invariant_of-result : goal.invariant_of-result
invariant_of-result g c =
    let same = entries_from_clone _ _ (λ k l h. h) (λ v w h. search rules)
    c.self.inside.map.entries c.in_ok-clone.field-0.entries c.in_ok-clone.ensures.cases in (
      c.self.invariant.0 ∙ ap (λ (ps : List MapPlace). gap_count ps) (sym same),
      subst (λ (ps : List MapPlace). AreNumbered 1 ps) (sym same) c.self.invariant.1,
      subst (λ (ps : List MapPlace). IsDistinct same_label (keys_of ps)) (sym same) c.self.invariant.2,
    )

pub returns : goal.returns
returns g c =
    let same = entries_from_clone _ _ (λ k l h. h) (λ v w h. search rules)
    c.self.inside.map.entries c.in_ok-clone.field-0.entries c.in_ok-clone.ensures.cases in
    ap (λ (ps : List MapPlace). rows_of ps) same ∙ c.self.view_is
