-- The number that digits say.
use Rattle.std.specs.Prelude.{ℕ, ℤ, pos, negsuc, ◌<ℤ◌, List, [], ◌∷◌, ◌+◌, ◌-◌, ◌*◌}

-- the number read so far, and then these digits: each counts ten times the one after it
abbrev pub value_from : ℕ → List ℕ → ℕ
value_from n [] = n
value_from n (c ∷ cs) = value_from (n * 10 + (c - 48)) cs

-- a whole number of at most nine digits
abbrev pub IsShort : ℤ → Type 0
IsShort z = (negsuc 999999999 <ℤ z) × (z <ℤ pos 1000000000)
