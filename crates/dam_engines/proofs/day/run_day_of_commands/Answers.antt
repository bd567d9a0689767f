-- The answer for the book of the settled journal is the answer for its commands.
use Rattle.std.proofs.Common.{subst, IfErr}
use Rattle.std.proofs.lemmas.Result.{err_from_is_err_and}
use Rattle.dam_gate.specs.Journal.{JournalState}
use Rattle.dam_engines.specs.Clear.{IsBookFault}
use Rattle.dam_engines.proofs.DayFaults.{journal_fault-day}
use Rattle.dam_engines.proofs.day.run_day_of_commands.Goals as goal

pub returns-in_err-settled-clause-fault : goal.returns-in_err-settled-clause-fault
returns-in_err-settled-clause-fault g c =
    let p = err_from_is_err_and c.from_residual.result c.from_residual.ensures.1 in
    rw (p.1, p.2) (c.in_err-settled.ensures.fault c.args.plan.now.search)

pub returns-clause-fault : goal.returns-clause-fault
returns-clause-fault g c =
    let day = c.in_ok-settled in
    journal_fault-day c.args.plan.now.search c.args.periods c.args.commands.now day.settled c.clear_to_day_text.result
    day.ensures.taken day.ensures.day day.ensures.journal day.ensures.periods
    (subst (λ (j : JournalState). IfErr c.clear_to_day_text.result (IsBookFault c.args.plan.now.search j.book)) c.journal.ensures.value
    c.clear_to_day_text.ensures.fault)
