-- The answers to lines, in order.
use Rattle.std.proofs.Common.{List, ℕ, [], ◌∷◌, ◌++◌, refl, sym, ap, ◌∙◌, subst, append_assoc, append-nil}
use Rattle.dam_desk.specs.InputLines.{IsMeaning}
use Rattle.dam_desk.specs.DeskJournal.{DeskState, AreAnswers, answer_to, day_of, next, state_after}
use Rattle.dam_desk.specs.declared.meaning.Meaning.{Meaning}

abbrev answer_at : DeskState → Meaning → List ℕ
answer_at state meaning = answer_to (next state.answered) state.journal meaning

-- one line more
pub answers_snoc : (state : DeskState) (lines : List (List ℕ)) (line text : List ℕ) (last : DeskState) (meaning : Meaning) → AreAnswers state lines text last
    → IsMeaning (day_of last.journal) line meaning
    → AreAnswers state (lines ++ line ∷ []) (text ++ answer_at last meaning) (state_after last meaning)
answers_snoc state [] line text last meaning run means =
    subst (λ (t : List ℕ). AreAnswers state (line ∷ []) (t ++ answer_at last meaning) (state_after last meaning)) (sym run.0)
    (subst (λ (s : DeskState). AreAnswers s (line ∷ []) (answer_at last meaning) (state_after last meaning)) run.1
    (meaning, means, [], sym (append-nil (answer_at last meaning)), (refl, refl)))
answers_snoc state (first ∷ lines) line text last meaning run means =
    let answer = answer_at last meaning in (
      run.0,
      run.1,
      run.2 ++ answer,
      ap (λ (t : List ℕ). t ++ answer) run.3 ∙ append_assoc (answer_at state run.0) run.2 answer,
      answers_snoc (state_after state run.0) lines line run.2 last meaning run.4 means,
    )

-- the lines of two runs
pub answers_both : (state : DeskState) (lines : List (List ℕ)) (text : List ℕ) (middle : DeskState) (more : List (List ℕ)) (also : List ℕ) (last : DeskState)
    → AreAnswers state lines text middle → AreAnswers middle more also last → AreAnswers state (lines ++ more) (text ++ also) last
answers_both state [] text middle more also last run then =
    subst (λ (t : List ℕ). AreAnswers state more (t ++ also) last) (sym run.0)
    (subst (λ (s : DeskState). AreAnswers s more also last) run.1 then)
answers_both state (first ∷ lines) text middle more also last run then =
    let answer = answer_at state run.0 in (
      run.0,
      run.1,
      run.2 ++ also,
      ap (λ (t : List ℕ). t ++ also) run.3 ∙ append_assoc answer run.2 also,
      answers_both (state_after state run.0) lines run.2 middle more also last run.4 then,
    )
