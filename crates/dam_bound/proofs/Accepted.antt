-- A number that counts if a block is accepted, and sums of a number of each accepted block.
use Rattle.dam_bound.proofs.Common.{◌≡◌, ℤ, ◌+ℤ◌, Bool, true, false, List, [], ◌∷◌, refl, arith, ints, BlockTerms, Block, over_accepted}
use Rattle.std.proofs.Common.{pos}

-- the number if the block is accepted, else 0
abbrev pub if_accepted : Bool → ℤ → ℤ
if_accepted true z = z
if_accepted false z = pos 0

pub over_accepted-plus : (f g : BlockTerms → ℤ) (bs : List Block) (sel : List Bool)
    → over_accepted (λ o. f o +ℤ g o) bs sel ≡ over_accepted f bs sel +ℤ over_accepted g bs sel
over_accepted-plus f g [] sel = refl
over_accepted-plus f g (b ∷ bs) [] = refl
over_accepted-plus f g (b ∷ bs) (true ∷ sel) = let rest = over_accepted-plus f g bs sel in omega (arith, ints, rest)
over_accepted-plus f g (b ∷ bs) (false ∷ sel) = over_accepted-plus f g bs sel

pub over_accepted-zero : (bs : List Block) (sel : List Bool) → over_accepted (λ o. pos 0) bs sel ≡ pos 0
over_accepted-zero [] sel = refl
over_accepted-zero (b ∷ bs) [] = refl
over_accepted-zero (b ∷ bs) (true ∷ sel) = let rest = over_accepted-zero bs sel in omega (arith, ints, rest)
over_accepted-zero (b ∷ bs) (false ∷ sel) = over_accepted-zero bs sel
