-- One line more; and a text that ends with a line feed leaves no rest.
use Rattle.std.proofs.Common.{◌++◌, ◌∷◌, [], List, ℕ, sym, ap, ◌∙◌, append_assoc, append-nil}
use Rattle.dam_store.specs.FileLines.{text_of}
use Rattle.dam_desk.specs.inside.TextLines.{is_ended}
use Rattle.dam_desk.proofs.Texts.{ended_after, ended_none, text_snoc}
use Rattle.dam_desk.proofs.intake.push_lines.Goals as goal

pub loop-line-preserved : goal.loop-line-preserved
loop-line-preserved c ended =
    let so_far = c.loop-line.invariant ended in
    let lines = c.loop-line.batch in
    let line = c.in-Some.line.now in
    let after = c.in-Some.after.now in
    let first = c.in-Some.ensures.first in (
      sym (ended_after line after) ∙ ap is_ended (sym first.split) ∙ so_far.0,
      ap (λ (ls : List (List ℕ)). text_of ls ++ after) c.in_ok-push_line.ensures ∙ ap (λ (t : List ℕ). t ++ after) (text_snoc lines line)
          ∙ append_assoc (text_of lines) (line ++ 10 ∷ []) after
          ∙ ap (λ (t : List ℕ). text_of lines ++ t) (append_assoc line (10 ∷ []) after ∙ sym first.split) ∙ so_far.1,
    )

pub returns : goal.returns
returns c ended =
    let so_far = c.loop-line.invariant ended in
    let lines = c.loop-line.batch in
    let none = ended_none c.loop-line.rest.now c.in_default.ensures.first so_far.0 in
    sym (append-nil (text_of lines)) ∙ ap (λ (t : List ℕ). text_of lines ++ t) (sym none) ∙ so_far.1
