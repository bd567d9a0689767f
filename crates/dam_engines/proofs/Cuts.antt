-- By cases on the fault: the facts of a failed write, and the end of a run with another fault.
use Rattle.std.proofs.Common.{◌≤◌, ℕ, List, length, Option, Err}
use Rattle.dam_engines.specs.declared.fault.RunFault.{RunFault}
use Rattle.dam_engines.specs.declared.fault.RunFault.TheVariants.{Read, Input, TooManyCommands, CloseGiven, TooManyParticipants, StillOpen}
use Rattle.dam_engines.specs.declared.fault.RunFault.TheVariants.{Mismatch, Unfinished, AnswerMissingOrRepeated, Memory, Write}
use Rattle.dam_engines.specs.Engine.{Ends, IsWritingFault}
use Rattle.dam_engines.specs.inside.Reading.{IsReadingFault}

-- a fact of each failed write is a fact of a text's that was cut off
pub cut-told : (Q : RunFault → Type 0) (old new : Option (List ℕ)) (sent : List ℕ) → ((written : ℕ) → Q (Write written))
    → (fault : RunFault) → IsWritingFault old new sent fault → Q fault
cut-told Q old new sent told Read cut = absurd cut
cut-told Q old new sent told (Input why) cut = absurd cut
cut-told Q old new sent told TooManyCommands cut = absurd cut
cut-told Q old new sent told (CloseGiven at) cut = absurd cut
cut-told Q old new sent told (TooManyParticipants at) cut = absurd cut
cut-told Q old new sent told StillOpen cut = absurd cut
cut-told Q old new sent told (Mismatch why) cut = absurd cut
cut-told Q old new sent told (Unfinished piece visited) cut = absurd cut
cut-told Q old new sent told (AnswerMissingOrRepeated piece) cut = absurd cut
cut-told Q old new sent told Memory cut = absurd cut
cut-told Q old new sent told (Write written) cut = told written

-- a text that may be printed was cut off
pub cut-ends : (IsPrinted : List ℕ → Type 0) (IsFault : RunFault → Type 0) (old new : Option (List ℕ)) (asked : ℕ) (printed : List ℕ)
    → IsPrinted printed
    → asked ≤ length printed → (fault : RunFault) → IsWritingFault old new printed fault → Ends IsPrinted IsFault old new asked (Err fault)
cut-ends IsPrinted IsFault old new asked printed is few Read cut = absurd cut
cut-ends IsPrinted IsFault old new asked printed is few (Input why) cut = absurd cut
cut-ends IsPrinted IsFault old new asked printed is few TooManyCommands cut = absurd cut
cut-ends IsPrinted IsFault old new asked printed is few (CloseGiven at) cut = absurd cut
cut-ends IsPrinted IsFault old new asked printed is few (TooManyParticipants at) cut = absurd cut
cut-ends IsPrinted IsFault old new asked printed is few StillOpen cut = absurd cut
cut-ends IsPrinted IsFault old new asked printed is few (Mismatch why) cut = absurd cut
cut-ends IsPrinted IsFault old new asked printed is few (Unfinished piece visited) cut = absurd cut
cut-ends IsPrinted IsFault old new asked printed is few (AnswerMissingOrRepeated piece) cut = absurd cut
cut-ends IsPrinted IsFault old new asked printed is few Memory cut = absurd cut
cut-ends IsPrinted IsFault old new asked printed is few (Write written) cut = (printed, is, cut, few)

-- a fault that may be answered, and is no failed write
pub fault-ends : (IsPrinted : List ℕ → Type 0) (IsFault : RunFault → Type 0) (old new : Option (List ℕ)) (asked : ℕ) →
    ((written : ℕ) → ¬ (IsFault (Write written)))
    → (fault : RunFault) → IsFault fault → Ends IsPrinted IsFault old new asked (Err fault)
fault-ends IsPrinted IsFault old new asked none Read is = tt
fault-ends IsPrinted IsFault old new asked none (Input why) is = is
fault-ends IsPrinted IsFault old new asked none TooManyCommands is = is
fault-ends IsPrinted IsFault old new asked none (CloseGiven at) is = is
fault-ends IsPrinted IsFault old new asked none (TooManyParticipants at) is = is
fault-ends IsPrinted IsFault old new asked none StillOpen is = is
fault-ends IsPrinted IsFault old new asked none (Mismatch why) is = is
fault-ends IsPrinted IsFault old new asked none (Unfinished piece visited) is = is
fault-ends IsPrinted IsFault old new asked none (AnswerMissingOrRepeated piece) is = is
fault-ends IsPrinted IsFault old new asked none Memory is = is
fault-ends IsPrinted IsFault old new asked none (Write written) is = absurd (none written is)

-- a weaker statement ends a run too
pub ends-weaker : (IsPrinted IsText : List ℕ → Type 0) (IsFault IsOther : RunFault → Type 0) (old new : Option (List ℕ)) (asked : ℕ)
    → ((printed : List ℕ) → IsPrinted printed → IsText printed) → ((fault : RunFault) → IsFault fault → IsOther fault)
    → (fault : RunFault) → Ends IsPrinted IsFault old new asked (Err fault) → Ends IsText IsOther old new asked (Err fault)
ends-weaker IsPrinted IsText IsFault IsOther old new asked text other Read is = tt
ends-weaker IsPrinted IsText IsFault IsOther old new asked text other (Input why) is = other (Input why) is
ends-weaker IsPrinted IsText IsFault IsOther old new asked text other TooManyCommands is = other TooManyCommands is
ends-weaker IsPrinted IsText IsFault IsOther old new asked text other (CloseGiven at) is = other (CloseGiven at) is
ends-weaker IsPrinted IsText IsFault IsOther old new asked text other (TooManyParticipants at) is = other (TooManyParticipants at) is
ends-weaker IsPrinted IsText IsFault IsOther old new asked text other StillOpen is = other StillOpen is
ends-weaker IsPrinted IsText IsFault IsOther old new asked text other (Mismatch why) is = other (Mismatch why) is
ends-weaker IsPrinted IsText IsFault IsOther old new asked text other (Unfinished piece visited) is = other (Unfinished piece visited) is
ends-weaker IsPrinted IsText IsFault IsOther old new asked text other (AnswerMissingOrRepeated piece) is = other (AnswerMissingOrRepeated piece) is
ends-weaker IsPrinted IsText IsFault IsOther old new asked text other Memory is = other Memory is
ends-weaker IsPrinted IsText IsFault IsOther old new asked text other (Write written) is = (is.0, text is.0 is.1, is.2, is.3)

-- a fact of both faults of reading
pub reading-told : (Q : RunFault → Type 0) → Q Read → Q Memory → (fault : RunFault) → IsReadingFault fault → Q fault
reading-told Q read memory Read is = read
reading-told Q read memory Memory is = memory
reading-told Q read memory (Input why) is = absurd is
reading-told Q read memory TooManyCommands is = absurd is
reading-told Q read memory (CloseGiven at) is = absurd is
reading-told Q read memory (TooManyParticipants at) is = absurd is
reading-told Q read memory StillOpen is = absurd is
reading-told Q read memory (Mismatch why) is = absurd is
reading-told Q read memory (Unfinished piece visited) is = absurd is
reading-told Q read memory (AnswerMissingOrRepeated piece) is = absurd is
reading-told Q read memory (Write written) is = absurd is
