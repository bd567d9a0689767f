-- The effect of an amend.
use Rattle.std.proofs.Common.{sym, ◌∙◌}
use Rattle.dam_book.proofs.StepFacts.{after_done}
use Rattle.dam_book.proofs.book.Book.carry_out.Goals as goal

pub returns-in-Amend-clause-ok : goal.returns-in-Amend-clause-ok
returns-in-Amend-clause-ok g c =
    after_done c.args.self.now _ c.args.command.now _ (sym c.requires ∙ sym c.in_default.ensures) c.in-Amend.is c.amend.ensures
