-- The printed text of a sequence of calls.
use Rattle.std.specs.Prelude.{◌≡◌, ℕ, List, ◌++◌, true, false, codes, decimal}
use Rattle.dam_engines.specs.Fault.{fault_text}
use Rattle.dam_refusals.specs.declared.answer.Answer.{Answer}
use Rattle.dam_refusals.specs.declared.answer.Answer.TheVariants.{Entries, Commands, Welfare, Fault, Replay, Planned, Text}
use Rattle.dam_refusals.specs.declared.answer.Told.{Told}
use Rattle.dam_refusals.specs.declared.answer.Stop.{Stop}
use Rattle.dam_refusals.specs.declared.answer.Stop.TheVariants.{Memory, Wrong}

-- the answer of the last call
abbrev pub answer_text : Answer → List ℕ
answer_text (Entries count) = decimal count ++ codes " entries"
answer_text (Commands count) = decimal count ++ codes " commands"
answer_text (Welfare welfare) = codes "welfare " ++ decimal welfare
answer_text (Fault fault) = fault_text fault
answer_text Replay = codes "replay"
answer_text (Planned plan) = codes "workers " ++
    (decimal plan.workers ++ (codes " cut " ++ (decimal plan.cut ++ (codes " nodes " ++ decimal plan.node_limit))))
answer_text (Text true) = codes "help"
answer_text (Text false) = codes "refused"

-- that, and how many calls were refused memory
abbrev pub told_text : Told → List ℕ
told_text told = answer_text told.answer ++ (codes ", " ++ (decimal told.refused ++ codes " calls refused"))

-- why a sequence of calls stopped before its end
abbrev pub stop_text : Stop → List ℕ
stop_text Memory = codes "memory"
stop_text Wrong = codes "wrong"

-- the sequence was a day of this number of entries
abbrev pub IsDay : ℕ → Told → Type 0
IsDay entries told = told.answer ≡ Entries entries
