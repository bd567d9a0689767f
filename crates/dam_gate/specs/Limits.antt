-- How much a gate takes.
use Rattle.std.specs.Prelude.{ℕ}

-- the passes of one gate, the operator's among them
abbrev pub most_passes : ℕ
most_passes = 9

-- the participants of one day of given commands, each with a pass, next to the operator's
abbrev pub most_participants : ℕ
most_participants = 8
