-- The common parts of the two walks: a handle over an inner allocator B, and where its fields lie. Assumes
-- `Logic`.
use Rattle.std.proofs.Common.{◌≡◌, ℕ, ◌+◌, [], ◌∷◌}
use mir.Syntax.{Ty, Args, a_type, dnil, dcons}
use prog.Memory.{size, align, capped, up}
use denote.Builtin.{usize, RefOf}
use denote.Param.{bounded, param}
use denote.Signature.{Slot, plain}
use Rattle.std.proofs.alloc.Calls.{Al, α}
use Rattle.refusing_alloc.specs.contracts.RefusesNth.{the_row}

-- a size or an alignment
abbrev pub number : Slot 2
number = plain (λ _. usize)

-- the size and the alignment of a type
abbrev pub IsLayout : Ty → ℕ → ℕ → Type 0
IsLayout τ n a = (capped (size τ) ≡ n) × (capped (align τ) ≡ a)

module _ (B : Al) where
  abbrev pub args : Args
  args = bounded (a_type ∷ []) (B.row, tt) (dcons B.d (dcons B.drops dnil))

  -- the `&self`
  abbrev pub handle : Slot 2
  handle = RefOf (0 ∷ []) tt (plain (λ _. the_row (param 0 B.row))) (λ _. tt)

  -- where the inner allocator of the handle at p lies, and where its count does
  abbrev pub inner_at : ℕ × ℕ → ℕ × ℕ
  inner_at p = (p.0, p.1 + up (align (α B)) 0)

  abbrev pub left_at : ℕ × ℕ → ℕ × ℕ
  left_at p = (p.0, p.1 + up 8 (up (align (α B)) 0 + size (α B)))
