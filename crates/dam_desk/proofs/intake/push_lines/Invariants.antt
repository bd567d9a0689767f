-- The lines so far and the rest of the text are the text.
use Rattle.std.proofs.Common.{◌≡◌, ◌++◌, true, length}
use Rattle.dam_store.specs.FileLines.{text_of}
use Rattle.dam_desk.specs.inside.TextLines.{is_ended}
use Rattle.dam_desk.proofs.intake.push_lines.Given as goal

abbrev pub decreases-loop-line : goal.decreases-loop-line
decreases-loop-line l = length l.rest

abbrev pub invariant-loop-line : goal.invariant-loop-line
invariant-loop-line l = is_ended l.text ≡ true
    → (is_ended l.rest ≡ true) × (text_of l.batch ++ l.rest ≡ text_of l.initial.batch ++ l.text)
