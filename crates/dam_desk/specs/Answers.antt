-- The answer to a line that enters nothing.
use Rattle.std.specs.Prelude.{ℕ, List, ◌++◌, decimal, codes}
use Rattle.dam_desk.specs.declared.fault.InputLineFault.{InputLineFault}
use Rattle.dam_desk.specs.declared.fault.InputLineFault.TheVariants.{TooLong, NotAscii, NotOneRecord, NotDay, FieldCount, BadField, OtherDay, JournalFull, CutShort}

-- the word of a fault, and its place in the line
abbrev pub fault_word : InputLineFault → List ℕ
fault_word TooLong = codes "TooLong"
fault_word (NotAscii offset) = codes "NotAscii," ++ decimal offset
fault_word NotOneRecord = codes "NotOneRecord"
fault_word NotDay = codes "NotDay"
fault_word FieldCount = codes "FieldCount"
fault_word (BadField field) = codes "BadField," ++ decimal field
fault_word OtherDay = codes "OtherDay"
fault_word JournalFull = codes "JournalFull"
fault_word CutShort = codes "CutShort"

-- the answer to the line of this number, which has the fault
abbrev pub fault_answer : ℕ → InputLineFault → List ℕ
fault_answer number fault = codes "fault," ++ (decimal number ++ (codes "," ++ (fault_word fault ++ codes "\n")))
