-- A line that isn't too long is kept whole.
use Rattle.std.proofs.Common.{◌≡◌, ◌++◌, ◌∷◌, [], ◌+◌, ◌≤◌, List, ℕ, inl, length, take, refl, ap, ap₂, ◌∙◌, arith, length-take}
use Rattle.dam_desk.specs.Limits.{most_line}
use Rattle.dam_desk.specs.InputLines.{text_after}
use Rattle.dam_desk.proofs.Lists.{kept_whole}
use Rattle.dam_desk.proofs.meaning.meaning_of_input_line.Goals as goal

pub returns-then-line-gt-MOST_LINE : goal.returns-then-line-gt-MOST_LINE
returns-then-line-gt-MOST_LINE c day text valid day_record line =
    inl (omega (arith, c.if-line-gt-MOST_LINE.true, ap length line, length-take (most_line + 1) text), refl)

pub returns : goal.returns
returns c day text valid day_record line =
    let few : length (take (most_line + 1) text) ≤ most_line = omega (arith, c.if-line-gt-MOST_LINE.false, ap length line) in
    let whole = line ∙ kept_whole most_line text few in
    let is : c.as_slice.result.now ≡ text_after day text = c.as_slice.ensures.value ∙ c.in_ok-text.ensures
    ∙ ap₂ (λ (h l : List ℕ). h ++ (l ++ 10 ∷ [])) day_record whole in
    c.meaning_of_text.ensures day text valid is (ap length day_record) (omega (arith, ap length whole, c.if-line-gt-MOST_LINE.false))
