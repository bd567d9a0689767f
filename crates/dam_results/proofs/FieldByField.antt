-- The fields of a record, one by one.
use Rattle.std.proofs.Common.{◌≡◌, ◌<◌, ◌≤◌, ℕ, zero, suc, List, [], ◌∷◌, length, get_or, refl, arith}
use Rattle.dam_results.specs.Records.{kind_field}
use Rattle.dam_results.specs.inside.Reader.{bytes_of, fields_of}
use Rattle.dam_results.specs.declared.csv_records.Field.{Field}
use Rattle.dam_results.specs.inside.NineFields.{field_or_empty}

-- the field at a place of a list
pub field_or_empty-at : (fields : List Field) (place : ℕ) (d : Field) → place < length fields
    → bytes_of (get_or fields place d) ≡ field_or_empty (fields_of fields) place
field_or_empty-at [] place d within = absurd (omega arith)
field_or_empty-at (f ∷ fields) zero d within = refl
field_or_empty-at (f ∷ fields) (suc place) d within = field_or_empty-at fields place d (omega arith)

pub field_or_empty-past : (fields : List Field) (place : ℕ) → length fields ≤ place → [] ≡ field_or_empty (fields_of fields) place
field_or_empty-past [] place over = refl
field_or_empty-past (f ∷ fields) zero over = absurd (omega arith)
field_or_empty-past (f ∷ fields) (suc place) over = field_or_empty-past fields place (omega arith)

-- nine fields are these
pub nine : (fs : List (List ℕ)) → length fs ≡ 9
    → fs ≡ field_or_empty fs 0 ∷ field_or_empty fs 1 ∷ field_or_empty fs 2 ∷ field_or_empty fs 3 ∷ field_or_empty fs 4 ∷ field_or_empty fs 5
    ∷ field_or_empty fs 6 ∷ field_or_empty fs 7 ∷ field_or_empty fs 8 ∷ []
nine (a ∷ b ∷ c ∷ d ∷ e ∷ f ∷ g ∷ h ∷ i ∷ []) len = refl
nine [] len = absurd cc
nine (a ∷ []) len = absurd cc
nine (a ∷ b ∷ []) len = absurd cc
nine (a ∷ b ∷ c ∷ []) len = absurd cc
nine (a ∷ b ∷ c ∷ d ∷ []) len = absurd cc
nine (a ∷ b ∷ c ∷ d ∷ e ∷ []) len = absurd cc
nine (a ∷ b ∷ c ∷ d ∷ e ∷ f ∷ []) len = absurd cc
nine (a ∷ b ∷ c ∷ d ∷ e ∷ f ∷ g ∷ []) len = absurd cc
nine (a ∷ b ∷ c ∷ d ∷ e ∷ f ∷ g ∷ h ∷ []) len = absurd cc
nine (a ∷ b ∷ c ∷ d ∷ e ∷ f ∷ g ∷ h ∷ i ∷ j ∷ fs) len = absurd cc

-- the first field says the kind
pub first_kind : (fs : List (List ℕ)) → field_or_empty fs 0 ≡ kind_field fs
first_kind [] = refl
first_kind (f ∷ fs) = refl
