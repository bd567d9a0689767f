-- The lines so far are answered, and the rest of the bytes is left.
use Rattle.std.proofs.Common.{List, ℕ, length}
use Rattle.dam_desk.specs.DeskJournal.{DeskState}
use Rattle.dam_desk.specs.inside.Intake.{HasRead}
use Rattle.dam_desk.proofs.intake.Intake.enter_lines.Given as goal

abbrev pub decreases-loop-line : goal.decreases-loop-line
decreases-loop-line l = length l.rest

abbrev pub invariant-loop-line : goal.invariant-loop-line
invariant-loop-line l = (state : DeskState) (given : List ℕ) → HasRead l.initial.self state given l.bytes → HasRead l.self state given l.rest
