-- The records of a text, as they are read one after another, and the fields that are kept of each.
use Rattle.std.specs.Prelude.{◌≡◌, ℕ, ◌<◌, ◌≤◌, ◌==◌, ◌||◌, Bool, true, false, List, [], ◌∷◌, ◌++◌, length, map, take, Option, Some}
use Rattle.csv.specs.Machine.{Read, carriage_return, line_feed, ends_at_end, next_record}
use Rattle.csv.specs.Reading.{default_config}
use Rattle.csv.specs.Writing.{comma, quote_mark}
use Rattle.csv.specs.declared.parser.State.{State}
use Rattle.csv.specs.declared.parser.State.TheVariants as st
use Rattle.dam_results.specs.Records.{Fields, records_of}
use Rattle.dam_results.specs.declared.csv_records.Field.{Field}
use Rattle.dam_results.specs.declared.csv_records.Field.TheVariants.{Part, Joined}
use Rattle.dam_results.specs.declared.csv_records.Records.{Records}

-- fields that are kept of a record: one more than a valid record has
abbrev pub most_kept : ℕ
most_kept = 10

-- the bytes of a field
abbrev pub bytes_of : Field → List ℕ
bytes_of (Part bytes) = bytes.now
bytes_of (Joined bytes) = bytes.items

-- the bytes of each of these fields
abbrev pub fields_of : List Field → Fields
fields_of fields = map bytes_of fields

-- the records that are left
abbrev pub records_left : Records → List Fields
records_left records = records_of records.rest.now

-- whether a byte ends a line
abbrev pub ends_line : ℕ → Bool
ends_line byte = (byte == carriage_return) || (byte == line_feed)

-- whether a byte ends a field that isn't in quotes
abbrev pub ends_field : ℕ → Bool
ends_field byte = (byte == comma) || ends_line byte

-- the text doesn't begin with a quote
abbrev pub IsUnquoted : List ℕ → Type 0
IsUnquoted text = (rest : List ℕ) → text ≡ quote_mark ∷ rest → ⊥

-- the record goes on in the text after these fields, or it has ended before the text
abbrev pub goes_on_in : Bool → State → Fields → List ℕ → Option Read
goes_on_in true next fields text = next_record default_config st.StartField fields [] text
goes_on_in false next fields text = Some (fields, next, text)

-- after the first bytes of a field, this text has its last ones: the field and the text after it
pub record EndsField (state : State) (begun text field rest : List ℕ) (goes_on : Bool) : Type 0 where
  pub next : State
  pub between : ends_at_end next ≡ false
  pub same : (fields : Fields) → next_record default_config state fields begun text
      ≡ goes_on_in goes_on next (fields ++ field ∷ []) rest
  pub shorter : goes_on ≡ true → length rest < length text

-- after the first bytes of a field, the text has these further bytes of it and then the rest
pub record Continues (before : State) (begun text : List ℕ) (after : State) (field rest : List ℕ) : Type 0 where
  pub same : (fields : Fields) → next_record default_config before fields begun text
      ≡ next_record default_config after fields field rest
  pub shorter : length rest ≤ length text

-- the text begins with a record, of which these fields are kept
pub record BeginsWithRecord (text rest : List ℕ) (kept : Fields) : Type 0 where
  pub fields : Fields
  pub next : State
  pub between : ends_at_end next ≡ false
  pub read : next_record default_config st.StartField [] [] text ≡ Some (fields, next, rest)
  pub first : kept ≡ take most_kept fields

-- the text has line ends, and then the text that starts with a record
pub record StartsRecord (text start : List ℕ) : Type 0 where
  pub same : next_record default_config st.StartRecord [] [] text
      ≡ next_record default_config st.StartField [] [] start
  pub shorter : length start ≤ length text

-- the first of the records left is read, and of its fields the first ones are kept
pub record TakesFirst (before after : List Fields) (kept : Fields) : Type 0 where
  pub fields : Fields
  pub records : before ≡ fields ∷ after
  pub first : kept ≡ take most_kept fields
