-- Nothing is entered yet.
use Rattle.std.proofs.Common.{◌++◌, [], List, ℕ, refl, ap, ◌∙◌, append-nil}
use Rattle.dam_desk.specs.DeskJournal.{desk_journal_text}
use Rattle.dam_desk.proofs.Steps.{nothing_yet}
use Rattle.dam_desk.proofs.intake.Intake.enter_batch.Goals as goal

pub returns : goal.returns
returns c state begun is =
    c.enter_lines.ensures state (begun ++ c.args.bytes.now) (record {
      lines = [];
      begun = begun;
      last = state;
      split = refl;
      whole = tt;
      answers = (c.clear-2.ensures.items, refl);
      now = record { answered = is.answered; day = is.day; line = is.line; unended = is.unended };
      text = ap (λ (t : List ℕ). desk_journal_text state.journal ++ t) (nothing_yet c.args.self.now.day c.clear.new.self.items c.clear.ensures.items)
          ∙ append-nil (desk_journal_text state.journal);
    })
