use Rattle.std.proofs.Common.{Bor, List, ℕ, Option, sym, ap, ◌∙◌}
use Rattle.dam_desk.specs.InputLines.{record_of}
use Rattle.dam_desk.specs.inside.Intake.{periods_of}
use Rattle.dam_desk.specs.declared.desk_day.DeskDay.{DeskDay}
use Rattle.dam_desk.proofs.AfterDay.{valid_day}
use Rattle.dam_desk.proofs.intake.Intake.meaning_of_line.Goals as goal
use Rattle.dam_desk.proofs.intake.Intake.meaning_of_line.Goals.{in-Some, in-None}

pub returns : goal.returns
returns c text line =
    c.meaning_of_input_line.ensures (periods_of c.args.self.now.day) text (valid_day c.args.self.now.day) (elim c.match-self.branch [
      | in-Some w ↦ ap (λ (h : Bor (List ℕ)). h.now) w.day_record-is ∙ w.day_record-day_record.ensures
          ∙ ap (λ (d : Option DeskDay). record_of (periods_of d)) (sym w.in-Some.is)
      | in-None w ↦ ap (λ (h : Bor (List ℕ)). h.now) w.day_record-is
          ∙ ap (λ (d : Option DeskDay). record_of (periods_of d)) (sym w.in-None.is)
    ]) (c.bytes.ensures ∙ line)
