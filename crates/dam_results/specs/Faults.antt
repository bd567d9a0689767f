-- The fault of a text that is no journal: the first one, in the order in which faults are looked
-- for.
use Rattle.std.specs.Prelude.{◌≡◌, ◌≢◌, ◌<◌, ◌≤◌, ◌⊎◌, ℕ, ◌+◌, List, [], ◌∷◌, ◌++◌, length, codes, Some, None}
use Rattle.dam_book.specs.declared.command.Command.{Command}
use Rattle.dam_results.specs.Limits.{most_bytes, most_records}
use Rattle.dam_results.specs.declared.journal_reading.JournalFault.{JournalFault}
use Rattle.dam_results.specs.declared.journal_reading.JournalFault.TheVariants.{TooLong, NotAscii, TooManyRecords, NotDay, FieldCount, BadField}
use Rattle.dam_results.specs.declared.journal_reading.JournalFault.TheVariants.{Memory}
use Rattle.dam_results.specs.Records.{Fields, records_of, kind_field}
use Rattle.dam_results.specs.Rules.{rules_of, IsLeastBroken}
use Rattle.dam_results.specs.Journal.{AreRecords, first_non_ascii}

-- the record of that number is within the limit, and a day if it is the first
abbrev pub IsInPlace : ℕ → Fields → Type 0
IsInPlace number fields = (number ≤ most_records) × (number ≡ 1 → kind_field fields ≡ codes "day")

-- the record of that number has that fault
abbrev pub IsRecordFault : ℕ → Fields → JournalFault → Type 0
IsRecordFault number fields TooManyRecords = most_records < number
IsRecordFault number fields NotDay = (number ≡ 1) × (kind_field fields ≢ codes "day")
IsRecordFault number fields (FieldCount at) = IsInPlace number fields × (at ≡ number) × (length fields ≢ 9)
IsRecordFault number fields (BadField at field) =
    IsInPlace number fields × (at ≡ number) × (length fields ≡ 9)
    × IsLeastBroken (rules_of number fields) fields field
IsRecordFault number fields TooLong = ⊥
IsRecordFault number fields (NotAscii offset) = ⊥
IsRecordFault number fields Memory = ⊥

-- one of the records has that fault, and those before it, if there are any, make a journal
pub record HasFault (records : List Fields) (fault : JournalFault) : Type 0 where
  pub front : List Fields
  pub fields : Fields
  pub rest : List Fields
  pub parts : records ≡ front ++ fields ∷ rest
  pub fine : (front ≡ []) ⊎ ((periods : ℕ) × (commands : List Command)
      × AreRecords front periods commands)
  pub faulty : IsRecordFault (length front + 1) fields fault

-- these records make no journal, and this is their first fault; of lack of memory it says nothing
abbrev pub IsFaultOfRecords : List Fields → JournalFault → Type 0
IsFaultOfRecords records NotDay = (records ≡ []) ⊎ HasFault records NotDay
IsFaultOfRecords records Memory = Unit {0}
IsFaultOfRecords records fault = HasFault records fault

-- the text is no journal, and this is its first fault; of lack of memory it says only that the
-- whole text has no fault of length or bytes
abbrev pub IsJournalFault : List ℕ → JournalFault → Type 0
IsJournalFault text TooLong = most_bytes < length text
IsJournalFault text (NotAscii offset) = (length text ≤ most_bytes) × (first_non_ascii text ≡ Some offset)
IsJournalFault text Memory = (length text ≤ most_bytes) × (first_non_ascii text ≡ None)
IsJournalFault text fault =
    (length text ≤ most_bytes) × (first_non_ascii text ≡ None) × IsFaultOfRecords (records_of text) fault
