-- A bit in common is a place that both accept.
use Rattle.std.proofs.Common.{◌≡◌, ℕ, zero, suc, not, IsTrue, ◌==◌, ap, sym, ◌∙◌, List, Bool}
use Rattle.dam_book.specs.Limits.{most_blocks}
use Rattle.dam_blocks.specs.Selection.{accepts, Meets}
use Rattle.dam_blocks.proofs.Families.{unequal}
use Rattle.dam_blocks.proofs.Bits.{common_place, common_bit}
use Rattle.dam_blocks.proofs.selection.Selection.meets.Goals as goal

nonzero : (m : ℕ) → IsTrue (not (m == 0)) → m ≡ 0 → ⊥
nonzero zero t e = cc
nonzero (suc m) t e = cc

is_nonzero : (m : ℕ) → (m ≡ 0 → ⊥) → IsTrue (not (m == 0))
is_nonzero m apart = ap not (unequal m 0 apart)

-- the places that two views accept are those that the values accept
at_values : (xs ys vs ws : List Bool) → xs ≡ vs → ys ≡ ws → Meets xs ys → Meets vs ws
at_values xs ys vs ws e f meets =
    (meets.0, sym (ap (λ (zs : List Bool). accepts zs meets.0) e) ∙ meets.1, sym (ap (λ (zs : List Bool). accepts zs meets.0) f) ∙ meets.2)

pub returns : goal.returns
returns c =
    let bits = c.self.inside.accepted in let others = c.other.inside.accepted in (
      λ t. at_values _ _ _ _ c.self.view_is c.other.view_is (common_place most_blocks bits others c.self.invariant (nonzero _ t)),
      λ meets.
          (let back = at_values _ _ _ _ (sym c.self.view_is) (sym c.other.view_is) meets in
          is_nonzero _ (common_bit most_blocks bits others back.0 back.1 back.2)),
    )
