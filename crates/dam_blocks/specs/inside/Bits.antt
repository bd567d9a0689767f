-- A selection is kept as a number: the block at place i is accepted exactly if the bit of weight 2 ^ i is 1.
use Rattle.std.proofs.Common.{◌≡◌, ℕ, zero, suc, ◌+◌, ◌*◌, ◌/◌, ◌%◌, ◌^◌, ◌<◌, ◌==◌, Bool, cond, List, [], ◌∷◌, ap, refl, arith}
use Rattle.dam_book.specs.Limits.{most_blocks}
use Rattle.dam_blocks.specs.declared.selection.Selection.TheInside.{Inside}

-- the acceptances of the first n places, as the bits of the number say, from the lowest bit up
unfoldable pub flags : ℕ → ℕ → List Bool
flags zero bits = []
flags (suc n) bits = (bits % 2 == 1) ∷ flags n (bits / 2)

-- the number whose bits say these acceptances
unfoldable pub bits_of : List Bool → ℕ
bits_of [] = 0
bits_of (b ∷ bs) = cond b 1 0 + 2 * bits_of bs

-- the acceptances that a selection keeps
abbrev pub flags_of : Inside → List Bool
flags_of s = flags most_blocks s.accepted

-- the selection that keeps these acceptances
abbrev pub with_flags : List Bool → Inside
with_flags sel = record { accepted = bits_of sel }

-- no bit of the number is beyond the last place of a selection
abbrev pub IsSet : Inside → Type 0
IsSet s = s.accepted < 2 ^ most_blocks

-- a bit is 1 or 0
digit : (m : ℕ) → m < 2 → cond (m == 1) 1 0 ≡ m
digit zero h = refl
digit (suc zero) h = refl
digit (suc (suc m)) h = absurd (omega (arith, h))

-- half of the number has one bit less
halves : (n bits : ℕ) → bits < 2 ^ suc n → bits / 2 < 2 ^ n
halves n bits h = omega (arith, h)

-- the number is its lowest bit and twice its half
whole : (bits low rest : ℕ) → low ≡ bits % 2 → rest ≡ bits / 2 → low + 2 * rest ≡ bits
whole bits low rest e f = omega (arith, e, f)

-- the acceptances that a number says give the number again
pub same_bits : (n bits : ℕ) → bits < 2 ^ n → bits_of (flags n bits) ≡ bits
unfolding flags bits_of
same_bits zero bits h = omega (arith, h)
same_bits (suc n) bits h = whole bits _ _ (digit (bits % 2) (omega arith)) (same_bits n (bits / 2) (halves n bits h))

-- and so do the acceptances of a selection
pub same_flags : (s : Inside) → IsSet s → with_flags (flags_of s) ≡ s
same_flags s h = ap (λ (n : ℕ). record { accepted = n }) (same_bits most_blocks s.accepted h)
