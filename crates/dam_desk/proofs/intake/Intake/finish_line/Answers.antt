-- One line more is answered.
use Rattle.std.proofs.Common.{◌≡◌, ◌++◌, ◌∷◌, [], List, ℕ, false, refl, sym, ap, ◌∙◌, subst}
use Rattle.dam_store.specs.FileLines.{has_byte}
use Rattle.dam_desk.specs.DeskJournal.{AreAnswers, answer_to, desk_journal_text, next, state_after}
use Rattle.dam_desk.proofs.Runs.{answers_snoc}
use Rattle.dam_desk.proofs.Texts.{all_snoc, line_more, none_both}
use Rattle.dam_desk.proofs.intake.Intake.finish_line.Goals as goal

pub returns : goal.returns
returns c state given after none read =
    let piece = c.args.piece.now in
    let line = read.begun ++ piece in
    let before = desk_journal_text state.journal in
    let taken = c.in_ok-enter_line.ensures.step before read.last.journal line (record { day = read.now.day; text = read.text })
    (c.in_ok-extend.ensures read.begun read.now.line) in
    let number = ap next read.now.answered in
    let answer = taken.answer
    ∙ ap (λ n. c.args.self.now.answers.items ++ answer_to n read.last.journal taken.meaning) number in
    record {
      lines = read.lines ++ line ∷ [];
      begun = [];
      last = state_after read.last taken.meaning;
      split = read.split ∙ line_more read.lines read.begun piece after;
      whole = all_snoc (λ (l : List ℕ). has_byte 10 l ≡ false) read.lines line read.whole (none_both read.begun piece read.now.unended none);
      answers = subst (λ (t : List ℕ). AreAnswers state (read.lines ++ line ∷ []) t (state_after read.last taken.meaning)) (sym answer)
          (answers_snoc state read.lines line c.args.self.now.answers.items read.last taken.meaning read.answers taken.means);
      now = record {
        answered = c.in_ok-enter_line.ensures.answered ∙ number;
        day = taken.at.day;
        line = c.clear.ensures;
        unended = refl;
      };
      text = taken.at.text;
    }
