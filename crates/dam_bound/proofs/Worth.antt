-- The welfare of a period as a number, and sums of numbers in turn.
use Rattle.std.proofs.Common.{ℕ, zero, suc, ℤ, pos, ◌+ℤ◌, Option, Some, None}

-- the welfare, if there is one
abbrev pub worth : Option ℤ → ℤ
worth None = pos 0
worth (Some w) = w

-- f of each of n numbers from t on, added up
abbrev pub sum_from : (ℕ → ℤ) → ℕ → ℕ → ℤ
sum_from f t zero = pos 0
sum_from f t (suc n) = f t +ℤ sum_from f (suc t) n
