-- The selections that are open once some blocks are decided.
use Rattle.std.specs.Prelude.{◌≡◌, ℕ, ◌<◌, Bool, false, ◌==◌, ◌||◌, List, [], ◌∷◌, length}
use Rattle.dam_book.specs.Limits.{most_blocks}
use Rattle.dam_blocks.specs.Selection.{accepts}

-- whether the place is one of these
abbrev pub is_among : ℕ → List ℕ → Bool
is_among place [] = false
is_among place (other ∷ places) = (place == other) || is_among place places

-- a selection that accepts the accepted places and nothing else, apart from any of the undecided places
pub record IsOpen (accepted : List Bool) (undecided : List ℕ) (selection : List Bool) : Type 0 where
  pub as_long : length selection ≡ most_blocks
  pub agrees : (place : ℕ) → is_among place undecided ≡ false → accepts selection place ≡ accepts accepted place

-- the undecided places: no two are the same, and none is accepted already
abbrev pub AreFree : List Bool → List ℕ → Type 0
AreFree accepted [] = Unit {0}
AreFree accepted (place ∷ undecided) =
    (place < most_blocks) × (accepts accepted place ≡ false) × (is_among place undecided ≡ false)
    × AreFree accepted undecided
