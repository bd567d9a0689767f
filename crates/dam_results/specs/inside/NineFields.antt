-- The fields of a record, the answers of its readers, and the command that is taken of it.
use Rattle.std.specs.Prelude.{◌≡◌, ◌≤◌, ℕ, zero, suc, ◌+◌, [], ◌∷◌, ◌++◌, List, length, map, Result, MatchResult}
use Rattle.dam_book.specs.declared.command.Command.{Command}
use Rattle.dam_results.specs.Limits.{most_records}
use Rattle.dam_results.specs.Records.{Fields, record_of_command}
use Rattle.dam_results.specs.Rules.{FieldRule, Empty, IsLeastBroken}
use Rattle.dam_results.specs.Journal.{IsCommand}
use Rattle.dam_results.specs.declared.nine_fields.NineFields.{NineFields}

-- the field at that place, counted from 0, or no byte if there is none
abbrev pub field_or_empty : Fields → ℕ → List ℕ
field_or_empty [] place = []
field_or_empty (f ∷ fs) zero = f
field_or_empty (f ∷ fs) (suc place) = field_or_empty fs place

-- the fields of a record of nine, in their order
abbrev pub fields_in : NineFields → Fields
fields_in r =
    r.kind.now ∷ r.who.now ∷ r.name.now ∷ r.form.now ∷ r.side.now ∷ r.price.now ∷ r.volumes.now
    ∷ r.parent.now ∷ r.group.now ∷ []

-- the record of this command, which is within its limits, or the least field that breaks its rule
abbrev pub ReadsCommand : List FieldRule → NineFields → Command → Result Unit ℕ → Type 0
ReadsCommand rules fields command read = MatchResult read
    (λ _. IsCommand command × (fields_in fields ≡ record_of_command command))
    (IsLeastBroken rules (fields_in fields))

abbrev pub AreEmpty : Fields → Type 0
AreEmpty [] = Unit {0}
AreEmpty (f ∷ fs) = (f ≡ []) × AreEmpty fs

-- these fields, of which the first has that number, are empty, or the number of the first that
-- isn't
abbrev pub ChecksEmpty : {A : Type 0} → ℕ → Fields → Result A ℕ → Type 0
ChecksEmpty first fields checked = MatchResult checked (λ _. AreEmpty fields)
    (λ broken. (place : ℕ) × (broken ≡ first + place)
    × IsLeastBroken (map (λ _. Empty) fields) fields (suc place))

-- the record of that entry is within the limit and says a command, which was taken
pub record TakesRecord {T : Type 0} (MadeOf : ℕ → List Command → T → Type 0) (number : ℕ)
    (fields : Fields) (before after : T) : Type 0 where
  pub few : number + 1 ≤ most_records
  pub command : Command
  pub valid : IsCommand command
  pub written : fields ≡ record_of_command command
  pub made : (periods : ℕ) (commands : List Command) → length commands + 1 ≡ number
      → MadeOf periods commands before → MadeOf periods (commands ++ command ∷ []) after
