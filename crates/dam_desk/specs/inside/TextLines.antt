-- The lines of a text.
use Rattle.std.specs.Prelude.{◌≡◌, ◌==◌, ℕ, Bool, true, false, List, [], ◌∷◌, ◌++◌}
use Rattle.dam_store.specs.FileLines.{has_byte}

-- the bytes are a line, its line feed, and then others
pub record BeginsWith (bytes line after : List ℕ) : Type 0 where
  pub split : bytes ≡ line ++ 10 ∷ after
  pub whole : has_byte 10 line ≡ false

-- a line feed ends the bytes, if there are any
abbrev pub is_ended : List ℕ → Bool
is_ended [] = true
is_ended (byte ∷ []) = byte == 10
is_ended (byte ∷ next ∷ bytes) = is_ended (next ∷ bytes)
