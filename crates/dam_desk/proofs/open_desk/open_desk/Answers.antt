-- The end of the found store wasn't repaired.
use Rattle.std.proofs.Common.{List, ℕ, Result, Ok, Err, IfErr, IsErrAnd, subst, sym}
use Rattle.dam_desk.specs.Desk.{IsUnopened}
use Rattle.dam_desk.specs.Faults.{of_store}
use Rattle.dam_desk.specs.declared.fault.DeskFault.{DeskFault}
use Rattle.dam_desk.specs.inside.Intake.{IsReplayOf}
use Rattle.dam_desk.proofs.Opening.{unopened_late}
use Rattle.dam_desk.proofs.open_desk.open_desk.Goals as goal

error_of : {T E : Type 0} (r : Result T E) (P Q : E → Type 0) → ((e : E) → P e → Q e) → IsErrAnd r P → IfErr r Q
error_of (Ok x) P Q f h = absurd h
error_of (Err e) P Q f h = f e h

pub returns-in_err-store-clause-refused : goal.returns-in_err-store-clause-refused
returns-in_err-store-clause-refused g c =
    let found = c.in_ok-found.ensures in
    let late = c.in_err-store.ensures in
    let new = c.in_err-store.field-0.0.disk in
    let why = c.in_err-store.field-0.0.why in
    let replay = c.in-Ok.replay in
    let is = subst (λ (t : List ℕ). IsReplayOf t replay.day replay.replies.items) c.as_slice.ensures.value c.in-Ok.ensures.journal in
    let refused = unopened_late g.D.Disk c.args.disk c.in_ok-found.found.disk c.in_ok-found.found.text.items found.untouched found.no_fault found.text new why
    replay.day replay.replies.items is late.clean_unopened late.failure late.failed late.crash_unopened in
    error_of c.from_residual-in_err-store.result _ _
    (λ u e. subst (λ (w : DeskFault). IsUnopened g.D.Disk c.args.disk u.disk w) (sym e.0)
    (subst (λ d. IsUnopened g.D.Disk c.args.disk d (of_store why)) (sym e.1) refused))
    c.from_residual-in_err-store.ensures.1
