-- The text has the number as it is written with its commas.
use Rattle.std.proofs.Common.{◌∙◌, refl, sym}
use Rattle.std.specs.Fmt.{digits}
use Rattle.dam_cli.proofs.advice.rule_of_journal.Goals as goal
use Rattle.dam_cli.proofs.advice.rule_of_journal.Goals.{in-TooLong, in-NotAscii-eq0, in-NotAscii, in-TooManyRecords, in-NotDay, in-FieldCount, in-BadField-eq1-default}

pub returns-clause-limits : goal.returns-clause-limits
unfolding digits
returns-clause-limits c =
    elim c.match-fault.branch [
      | in-TooLong w ↦ (rw (w.in-TooLong.is, w.text-is) refl)
      | in-NotAscii-eq0 w ↦ (rw w.in-NotAscii-eq0.is tt)
      | in-NotAscii w ↦ (rw w.in-NotAscii.is tt)
      | in-TooManyRecords w ↦ (rw (w.in-TooManyRecords.is, w.text-is) refl)
      | in-NotDay w ↦ (rw w.in-NotDay.is tt)
      | in-FieldCount w ↦ (rw w.in-FieldCount.is tt)
      | in-BadField-eq1-default w ↦
          (let day = w.in-BadField-eq1-default in
          rw (day.is, w.text-is) (λ first. w.rule_of_day-text.ensures.days, λ command. absurd (command (sym day.record-is ∙ day.record-test))))
    ]
