-- The line is a command; or it is no day, and its text has a fault, or not one record.
use Rattle.std.proofs.Common.{◌++◌, ◌∷◌, [], List, ℕ, inl, inr, length, subst}
use Rattle.dam_results.specs.Journal.{ReadsAs}
use Rattle.dam_results.specs.Faults.{IsJournalFault}
use Rattle.dam_desk.specs.InputLines.{record_of}
use Rattle.dam_desk.proofs.AfterDay.{means_command}
use Rattle.dam_desk.proofs.Readings.{alone, not_one_alone, not_one_after, same_fault}
use Rattle.dam_desk.proofs.meaning.meaning_of_text.Goals as goal
use Rattle.dam_desk.proofs.meaning.meaning_of_text.Goals.{in-Ok, in-Ok-read_journal-2, in-Err-1, in-Ok-2+in-None, in-Err+in_ok-fault-in-Err}

pub returns-in-Some : goal.returns-in-Some
returns-in-Some c day line valid is before_is few =
    means_command day line c.args.text.now c.args.before c.in-Ok.field-0.periods c.in-Ok.field-0.commands.items c.in-Some.command valid is before_is
    c.if-before-eq0.false few c.in-Ok.ensures.ok c.in-Some.ensures

pub returns-in-None-2 : goal.returns-in-None-2
returns-in-None-2 c day line valid is before_is few =
    let text = c.args.text.now in
    let before = c.args.before in
    let none = rw c.in-None-2.is at c.in_ok-periods.ensures in
    let no_day : (q : ℕ) → ¬ (ReadsAs (line ++ 10 ∷ []) q []) = subst (λ (t : List ℕ). (q : ℕ) → ¬ (ReadsAs t q [])) (alone day line text before is before_is) none in
    inr (
      record { short = few; other = λ q day_line. no_day q day_line.1 },
      elim c.match-read_journal.branch [
        | in-Ok w ↦
            let reads = w.in-Ok.ensures.ok in
            inr (
              w.fault-is,
              (
                w.in-Ok.field-0.periods,
                w.in-Ok.field-0.commands.items,
                subst (λ (t : List ℕ). ReadsAs t w.in-Ok.field-0.periods w.in-Ok.field-0.commands.items) is reads,
                not_one_alone day line text before w.in-Ok.field-0.periods w.in-Ok.field-0.commands.items is before_is w.if-before-eq0.true no_day reads,
              ),
            )
        | in-Ok-2+in-None w ↦
            inr (
              w.fault-is,
              (
                w.in-Ok.field-0.periods,
                w.in-Ok.field-0.commands.items,
                subst (λ (t : List ℕ). ReadsAs t w.in-Ok.field-0.periods w.in-Ok.field-0.commands.items) is w.in-Ok.ensures.ok,
                not_one_after day before w.in-Ok.field-0.commands.items before_is w.if-before-eq0.false w.in-None.ensures,
              ),
            )
        | in-Err+in_ok-fault-in-Err w ↦
            inl (
              w.in-Err.fault,
              subst (λ (t : List ℕ). IsJournalFault t w.in-Err.fault) is w.in-Err.ensures.fault,
              same_fault before (length (record_of day)) w.in-Err.fault _ c.match-read_journal.fault before_is w.fault-is w.in_ok-fault-in-Err.ensures,
            )
      ],
    )
