-- A number that counts only if a block is accepted.
use Rattle.std.specs.Prelude.{ℤ, pos, Bool, true, false}

-- the number if the block is accepted, else 0
abbrev pub counted_if : Bool → ℤ → ℤ
counted_if true z = z
counted_if false z = pos 0
