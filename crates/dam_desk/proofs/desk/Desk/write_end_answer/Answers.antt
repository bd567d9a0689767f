-- A line that has begun is answered.
use Rattle.std.proofs.Common.{◌≡◌, ◌++◌, List, ℕ, MatchResult, length, take, sym, ap, ◌∙◌, subst}
use Rattle.std.proofs.lemmas.Bool.{eqb-true, eqb-false}
use Rattle.std.proofs.lemmas.Result.{IfErr-weaker, MatchResult-from_both}
use Rattle.std.specs.Io.KnownBytes.{Appends}
use Rattle.std.proofs.KnownBytes.{Appends-nil}
use Rattle.dam_desk.specs.Answers.{fault_answer}
use Rattle.dam_desk.specs.Desk.{end_answer}
use Rattle.dam_desk.specs.Faults.{SaysCount}
use Rattle.dam_desk.specs.DeskJournal.{next}
use Rattle.dam_desk.specs.InputLines.{kept_bytes}
use Rattle.dam_desk.specs.declared.fault.InputLineFault.TheVariants.{CutShort}
use Rattle.dam_desk.specs.declared.fault.DeskFault.TheVariants.{Memory}
use Rattle.dam_desk.proofs.Desks.{written_fault}
use Rattle.dam_desk.proofs.Ends.{err_is}
use Rattle.dam_desk.proofs.Lists.{end_of_none, end_of_some}
use Rattle.dam_desk.proofs.desk.Desk.write_end_answer.Goals as goal

pub returns-then-is_empty-clause-answer : goal.returns-then-is_empty-clause-answer
returns-then-is_empty-clause-answer g c begun line =
    let none = sym (ap length (c.bytes.ensures ∙ line)) ∙ eqb-true (length c.bytes.result.now) 0 (sym c.is_empty.ensures ∙ c.if-is_empty.true) in
    subst (Appends c.args.writer.now.taken c.args.writer.now.taken)
    (sym (end_of_none (next c.args.self.now.intake.answered) begun none)) (Appends-nil c.args.writer.now.taken)

pub returns-clause-answer : goal.returns-clause-answer
returns-clause-answer g c begun line =
    let some : ¬ (length (kept_bytes begun) ≡ 0) = λ none. eqb-false (length c.bytes.result.now) 0 (sym c.is_empty.ensures ∙ c.if-is_empty.false)
    (ap length (c.bytes.ensures ∙ line) ∙ none) in
    let text = c.as_slice.ensures.value ∙ c.in_ok-append_fault_answer.ensures
    ∙ ap (λ (t : List ℕ). t ++ fault_answer c.saturating_add-number.result CutShort) c.new-text.ensures.items
    ∙ ap (λ (n : ℕ). fault_answer n CutShort) c.saturating_add-number.ensures
    ∙ sym (end_of_some (next c.args.self.now.intake.answered) begun some) in
    let old = c.args.writer.now.taken in
    let new = c.write_text.new.writer.taken in
    subst (λ (t : List ℕ). MatchResult c.write_text.result (λ done. Appends old new t) (λ fault. (count : ℕ) × Appends old new (take count t) × SaysCount count fault)) text
    (MatchResult-from_both c.write_text.result _ _ c.write_text.ensures.done
    (IfErr-weaker c.write_text.result _ _ (written_fault old new c.as_slice.result.now) c.write_text.ensures.fault))

pub returns-in_err-append_fault_answer-clause-answer : goal.returns-in_err-append_fault_answer-clause-answer
returns-in_err-append_fault_answer-clause-answer g c begun line =
    let taken = c.args.writer.now.taken in
    let answer = end_answer (next c.args.self.now.intake.answered) begun in
    let none : (count : ℕ) × Appends taken taken (take count answer) × SaysCount count Memory = (0, Appends-nil taken, tt) in
    err_is c.from_residual.result
    (λ r. MatchResult r (λ done. Appends taken taken answer) (λ fault. (count : ℕ) × Appends taken taken (take count answer) × SaysCount count fault))
    Memory c.from_residual.ensures.1 none
