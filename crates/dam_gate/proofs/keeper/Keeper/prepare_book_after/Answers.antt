-- A refused command leaves the book, and any other is carried out in an equal one.
use Rattle.std.proofs.Common.{◌≡◌, sym, ap, ◌∙◌}
use Rattle.std.proofs.lemmas.Result.{IfOk-weaker}
use Rattle.dam_gate.specs.Keeper.{KeeperState}
use Rattle.dam_gate.proofs.Histories.{refused_stays}
use Rattle.dam_gate.proofs.keeper.Keeper.prepare_book_after.Goals as goal

pub returns-in-Some-clause-book : goal.returns-in-Some-clause-book
returns-in-Some-clause-book g c =
    let b = c.args.self.now.journal.book in
    let same = refused_stays b c.args.command.now c.in-Some.field-0 (sym c.requires ∙ sym c.in-Some.ensures) in
    let here : c.self.inside.books.book ≡ b = ap (λ (k : KeeperState). k.journal.book) c.self.view_is in
    IfOk-weaker c.clone_book_handle.result _ _ (λ book is. is ∙ (here ∙ sym same)) c.clone_book_handle.ensures

-- the book that is changed is another, and the keeper's stays
pub returns-clause-same : goal.returns-clause-same
returns-clause-same g c = rw c.take_unshared_book.ensures.same c.self.view_is
