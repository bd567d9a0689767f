-- The faults of a run: their lines, and the statuses that the program ends with.
use Rattle.std.specs.Prelude.{ℕ, List, ◌++◌, decimal, codes}
use Rattle.dam_results.specs.declared.journal_reading.JournalFault.{JournalFault}
use Rattle.dam_results.specs.declared.journal_reading.JournalFault.TheVariants.{TooLong, NotAscii, TooManyRecords, NotDay, FieldCount, BadField}
use Rattle.dam_results.specs.declared.journal_reading.JournalFault.TheVariants.{Memory as MemoryOfJournal}
use Rattle.dam_blocks.specs.declared.problem.ProblemFault.{ProblemFault}
use Rattle.dam_blocks.specs.declared.problem.ProblemFault.TheVariants.{StillOpen as OpenBook, Memory as MemoryOfProblem}
use Rattle.dam_gate.specs.declared.settlement.Mismatch.{Mismatch as Unmatched}
use Rattle.dam_gate.specs.declared.settlement.Mismatch.TheVariants.{StillOpen as OpenGate, Missing, Doubled, Differs, Extra}
use Rattle.dam_gate.specs.declared.settlement.Mismatch.TheVariants.{Memory as MemoryOfSettlement}
use Rattle.dam_search.specs.declared.fault.SearchFault.{SearchFault}
use Rattle.dam_search.specs.declared.fault.SearchFault.TheVariants.{Memory as MemoryOfSearch, AnswerMissingOrRepeated as IsFaulty, Unfinished as IsCut}
use Rattle.dam_engines.specs.declared.fault.RunFault.{RunFault}
use Rattle.dam_engines.specs.declared.fault.RunFault.TheVariants.{Read, Input, TooManyCommands, CloseGiven, TooManyParticipants, StillOpen}
use Rattle.dam_engines.specs.declared.fault.RunFault.TheVariants.{Mismatch, Unfinished, AnswerMissingOrRepeated, Memory, Write}

-- the printed text of a fault of the input
abbrev pub input_text : JournalFault → List ℕ
input_text TooLong = codes "input: TooLong"
input_text (NotAscii offset) = codes "input: NotAscii at " ++ decimal offset
input_text TooManyRecords = codes "input: TooManyRecords"
input_text NotDay = codes "input: NotDay"
input_text (FieldCount at) = codes "input: FieldCount in record " ++ decimal at
input_text (BadField at field) = codes "input: BadField in record " ++ (decimal at ++ (codes " field " ++ decimal field))
input_text MemoryOfJournal = codes "memory"

-- the printed text for a journal and receipts that don't fit together
abbrev pub mismatch_text : Unmatched → List ℕ
mismatch_text OpenGate = codes "mismatch: StillOpen"
mismatch_text (Missing number) = codes "mismatch: Missing " ++ decimal number
mismatch_text (Doubled number) = codes "mismatch: Doubled " ++ decimal number
mismatch_text (Differs number) = codes "mismatch: Differs " ++ decimal number
mismatch_text (Extra number) = codes "mismatch: Extra " ++ decimal number
mismatch_text MemoryOfSettlement = codes "memory"

-- the printed text of a fault
abbrev pub fault_text : RunFault → List ℕ
fault_text Read = codes "device: read"
fault_text (Input fault) = input_text fault
fault_text TooManyCommands = codes "input: TooManyCommands"
fault_text (CloseGiven at) = codes "input: CloseGiven in record " ++ decimal at
fault_text (TooManyParticipants at) = codes "input: TooManyParticipants in record " ++ decimal at
fault_text StillOpen = codes "input: StillOpen"
fault_text (Mismatch why) = mismatch_text why
fault_text (Unfinished piece visited) = codes "unfinished: piece " ++
    (decimal piece ++ (codes " after " ++ (decimal visited ++ codes " nodes")))
fault_text (AnswerMissingOrRepeated piece) = codes "mismatch: Collected " ++ decimal piece
fault_text Memory = codes "memory"
fault_text (Write written) = codes "device: write after " ++ (decimal written ++ codes " bytes")

-- 1 if the text that was read is at fault, 4 if the machine is
abbrev pub input_status : JournalFault → ℕ
input_status TooLong = 1
input_status (NotAscii offset) = 1
input_status TooManyRecords = 1
input_status NotDay = 1
input_status (FieldCount at) = 1
input_status (BadField at field) = 1
input_status MemoryOfJournal = 4

-- 5 if a journal and receipts don't fit together, 4 if the machine is at fault
abbrev pub mismatch_status : Unmatched → ℕ
mismatch_status OpenGate = 5
mismatch_status (Missing number) = 5
mismatch_status (Doubled number) = 5
mismatch_status (Differs number) = 5
mismatch_status (Extra number) = 5
mismatch_status MemoryOfSettlement = 4

-- the status that the program ends with at a fault: 1 and 4 as above, 3 if the search didn't finish, 5 if parts of a run don't
-- fit together
abbrev pub fault_status : RunFault → ℕ
fault_status Read = 4
fault_status (Input fault) = input_status fault
fault_status TooManyCommands = 1
fault_status (CloseGiven at) = 1
fault_status (TooManyParticipants at) = 1
fault_status StillOpen = 1
fault_status (Mismatch why) = mismatch_status why
fault_status (Unfinished piece visited) = 3
fault_status (AnswerMissingOrRepeated piece) = 5
fault_status Memory = 4
fault_status (Write written) = 4

-- the fault of a run whose input has that fault
abbrev pub run_fault_of : JournalFault → RunFault
run_fault_of TooLong = Input TooLong
run_fault_of (NotAscii offset) = Input (NotAscii offset)
run_fault_of TooManyRecords = Input TooManyRecords
run_fault_of NotDay = Input NotDay
run_fault_of (FieldCount at) = Input (FieldCount at)
run_fault_of (BadField at field) = Input (BadField at field)
run_fault_of MemoryOfJournal = Memory

-- the fault of a run whose book makes no problem
abbrev pub problem_fault_of : ProblemFault → RunFault
problem_fault_of OpenBook = StillOpen
problem_fault_of MemoryOfProblem = Memory

-- the fault of a run whose search has that fault
abbrev pub search_fault_of : SearchFault → RunFault
search_fault_of MemoryOfSearch = Memory
search_fault_of (IsFaulty piece) = AnswerMissingOrRepeated piece
search_fault_of (IsCut piece visited) = Unfinished piece visited
