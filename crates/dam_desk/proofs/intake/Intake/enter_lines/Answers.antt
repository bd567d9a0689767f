-- Each line is answered, and the rest begins the next.
use Rattle.std.proofs.Common.{◌++◌, List, ℕ, sym, ap, ◌∙◌, subst, append-nil}
use Rattle.std.proofs.lemmas.Result.{on_ok_weaker}
use Rattle.dam_store.specs.FileLines.{text_of}
use Rattle.dam_desk.specs.inside.Intake.{HasRead}
use Rattle.dam_desk.proofs.Texts.{none_both}
use Rattle.dam_desk.proofs.intake.Intake.enter_lines.Goals as goal

pub loop-line-preserved : goal.loop-line-preserved
loop-line-preserved c state given read =
    let first = c.in-Some.ensures.first in
    c.in_ok-finish_line.ensures state given c.in-Some.after.now first.whole
    (subst (HasRead c.loop-line.self state given) first.split (c.loop-line.invariant state given read))

pub returns : goal.returns
returns c state given all =
    let read = c.loop-line.invariant state given all in
    let piece = c.loop-line.rest.now in
    on_ok_weaker c.extend.result (λ extended. record {
      lines = read.lines;
      begun = read.begun ++ piece;
      last = read.last;
      split = read.split ∙ ap (λ (t : List ℕ). text_of read.lines ++ t) (sym (append-nil (read.begun ++ piece)));
      whole = read.whole;
      answers = read.answers;
      now = record {
        answered = read.now.answered;
        day = read.now.day;
        line = extended read.begun read.now.line;
        unended = none_both read.begun piece read.now.unended c.in_default.ensures.first;
      };
      text = read.text;
    }) c.extend.ensures
