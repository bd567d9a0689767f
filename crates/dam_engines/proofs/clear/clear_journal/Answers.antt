-- The answer for the text's journal or its book is the answer for the text.
use Rattle.std.proofs.Common.{sym, subst}
use Rattle.std.proofs.lemmas.Result.{err_from_is_err_and, IfErr-weaker, IfOk-weaker}
use Rattle.dam_book.specs.Book.{BookState}
use Rattle.dam_engines.specs.Clear.{IsBookFault, IsClearFault, IsClearedWithin}
use Rattle.dam_engines.specs.inside.Watch.{piece_count}
use Rattle.dam_engines.proofs.Fronts.{made_fault-run, text_fault-run}
use Rattle.dam_engines.proofs.clear.clear_journal.Goals as goal

pub returns-in_err-run-clause-fault : goal.returns-in_err-run-clause-fault
returns-in_err-run-clause-fault g c =
    let p = err_from_is_err_and c.from_residual.result c.from_residual.ensures.1 in
    rw (p.1, p.2) (text_fault-run (IsClearFault c.args.plan) c.args.text.items _
    (rw c.as_slice.ensures.value at c.in_err-run.ensures.fault))

pub returns-clause-done : goal.returns-clause-done
returns-clause-done g c =
    let made = rw c.as_slice.ensures.value at c.in_ok-run.ensures.done in
    IfOk-weaker c.clear_book.result _ _
    (λ results is. (made.0, made.1, made.2, subst (λ (b : BookState). IsClearedWithin c.args.plan b results.items) made.3 is))
    c.clear_book.ensures.done

pub returns-clause-fault : goal.returns-clause-fault
returns-clause-fault g c =
    let made = rw c.as_slice.ensures.value at c.in_ok-run.ensures.done in
    IfErr-weaker c.clear_book.result _ _
    (λ fault is. made_fault-run (IsClearFault c.args.plan) c.args.text.items (λ periods commands why no. no) fault
    (made.0, made.1, made.2, subst (λ (b : BookState). IsBookFault c.args.plan b fault) made.3 is)) c.clear_book.ensures.fault

pub on_commands_refused-requires : goal.on_commands_refused-requires
on_commands_refused-requires g c =
    let made = rw c.as_slice.ensures.value at c.in_ok-run.ensures.done in
    subst (g.T.Listener.may_hear_refused c.args.watch.now) (sym made.4) (c.requires.watched made.0 made.1 made.2).0

pub clear_book-requires-clause-watched : goal.clear_book-requires-clause-watched
clear_book-requires-clause-watched g c κs lives =
    let made = rw c.as_slice.ensures.value at c.in_ok-run.ensures.done in
    subst (λ (b : BookState). g.T.Listener.may_hear_pieces c.args.watch.now (piece_count c.args.plan b)) (sym made.3)
    (c.requires.watched made.0 made.1 made.2).1
