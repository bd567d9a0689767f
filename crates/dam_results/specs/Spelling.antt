-- Which texts spell the same records: fields may stand in quotes, lines may end in three ways, and
-- there may be empty lines.
use Rattle.std.specs.Prelude.{ℕ, List, [], ◌∷◌, ◌++◌}
use Rattle.csv.specs.Machine.{carriage_return, line_feed}
use Rattle.csv.specs.Writing.{comma, quote_mark}
use Rattle.dam_results.specs.Records.{Fields}

-- LF, CR or both
pub data IsLineEnd : List ℕ → Type 0 where
  LineFeed : IsLineEnd (line_feed ∷ [])
  CarriageReturn : IsLineEnd (carriage_return ∷ [])
  Both : IsLineEnd (carriage_return ∷ line_feed ∷ [])

-- the field as it is, or whole between two double quotes
pub data IsSpelledField : List ℕ → List ℕ → Type 0 where
  Bare : (field : List ℕ) → IsSpelledField field field
  Quoted : (field : List ℕ) → IsSpelledField field (quote_mark ∷ (field ++ quote_mark ∷ []))

-- the fields of a record, with a comma between each two
pub data IsSpelledRecord : Fields → List ℕ → Type 0 where
  One : (field text : List ℕ) → IsSpelledField field text → IsSpelledRecord (field ∷ []) text
  More : (field text : List ℕ) (fields : Fields) (others : List ℕ) → IsSpelledField field text
      → IsSpelledRecord fields others → IsSpelledRecord (field ∷ fields) (text ++ comma ∷ others)

-- the records, each ended by a line end or the last one by the end of the text, with empty lines
-- anywhere
pub data IsSpelled : List Fields → List ℕ → Type 0 where
  Nothing : IsSpelled [] []
  EmptyLine : (records : List Fields) (end rest : List ℕ) → IsLineEnd end → IsSpelled records rest
      → IsSpelled records (end ++ rest)
  Record : (fields : Fields) (records : List Fields) (line end rest : List ℕ) → IsSpelledRecord fields line
      → IsLineEnd end → IsSpelled records rest → IsSpelled (fields ∷ records) (line ++ (end ++ rest))
  LastRecord : (fields : Fields) (line : List ℕ) → IsSpelledRecord fields line → IsSpelled (fields ∷ []) line
