-- How large a sum over the accepted blocks is, and a sum as the code has it.
use Rattle.dam_bound.proofs.Common.{◌≡◌, ◌+ℤ◌, ap, ap₂, ◌∙◌, sym, subst, ℕ, ◌*◌, ℤ, Bool, true, false, List, [], ◌∷◌, length, arith, ints, to_z-of_z, SFits}
use Rattle.dam_bound.proofs.Common.{BlockTerms, Block, AreBlocks, over_accepted, IsWithin}
use mir.Syntax.{w64}
use mir.Val.{to_z, of_z}
use Rattle.dam_book.specs.Terms.{IsBlockOrder}

pub over_within : (f : BlockTerms → ℤ) (most periods : ℕ) → ((o : BlockTerms) → IsBlockOrder o → IsWithin most (f o))
    → (bs : List Block) (sel : List Bool) → AreBlocks periods bs
    → IsWithin (length bs * most) (over_accepted f bs sel)
over_within f most periods each [] sel are = record { at_least = omega (arith, ints); at_most = omega (arith, ints) }
over_within f most periods each (b ∷ bs) [] are = record { at_least = omega (arith, ints); at_most = omega (arith, ints) }
over_within f most periods each (b ∷ bs) (true ∷ sel) are =
    let own = each b.order are.0.order in let low = own.at_least in let high = own.at_most in
    let rest = over_within f most periods each bs sel are.1 in let l = rest.at_least in let h = rest.at_most in
    record { at_least = omega (arith, ints, low, l); at_most = omega (arith, ints, high, h) }
over_within f most periods each (b ∷ bs) (false ∷ sel) are =
    let rest = over_within f most periods each bs sel are.1 in let l = rest.at_least in let h = rest.at_most in
    record { at_least = omega (arith, ints, l); at_most = omega (arith, ints, h) }

-- a sum as the code has it
pub added_up : (x y : ℤ) → SFits w64 x → SFits w64 y → SFits w64 (x +ℤ y)
    → SFits w64 (to_z w64 (of_z w64 x) +ℤ to_z w64 (of_z w64 y))
    × (to_z w64 (of_z w64 (to_z w64 (of_z w64 x) +ℤ to_z w64 (of_z w64 y))) ≡ x +ℤ y)
added_up x y a b all =
    let same = ap₂ (λ (u v : ℤ). u +ℤ v) (to_z-of_z w64 x a) (to_z-of_z w64 y b) in (
      subst (SFits w64) (sym same) all,
      ap (λ (z : ℤ). to_z w64 (of_z w64 z)) same ∙ to_z-of_z w64 (x +ℤ y) all,
    )

-- a sum as the code has it, of a local and of the result of a call
pub added_to : (x y : ℤ) → SFits w64 y → SFits w64 (x +ℤ y)
    → SFits w64 (x +ℤ to_z w64 (of_z w64 y)) × (to_z w64 (of_z w64 (x +ℤ to_z w64 (of_z w64 y))) ≡ x +ℤ y)
added_to x y b all =
    let same = ap (λ (v : ℤ). x +ℤ v) (to_z-of_z w64 y b) in (
      subst (SFits w64) (sym same) all,
      ap (λ (z : ℤ). to_z w64 (of_z w64 z)) same ∙ to_z-of_z w64 (x +ℤ y) all,
    )
