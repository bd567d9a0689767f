-- The lines that a person at a terminal reads of a run.
use Rattle.std.specs.Prelude.{ℕ, ◌==◌, if◌then◌else◌, List, ◌++◌, codes, decimal}
use Rattle.dam_cli.specs.declared.progress.Count.{Count}

-- how many pieces of a search have ended, and how many it has
abbrev pub pieces_text : Count → List ℕ
pieces_text count = codes "dam: searched " ++ (decimal count.ended ++ (codes " of " ++ (decimal count.pieces ++ codes " pieces")))

-- how many commands the book refused
abbrev pub refused_text : ℕ → List ℕ
refused_text refused =
    if refused == 1 then codes "dam: 1 command was refused, which `dam replay` shows"
    else (codes "dam: " ++ (decimal refused ++ codes " commands were refused, which `dam replay` shows"))
