-- A command that a day doesn't take stands among the first 10,000.
use Rattle.std.proofs.Common.{arith, subst}
use Rattle.std.proofs.lemmas.Option.{slice_get_within}
use Rattle.dam_book.specs.declared.command.Command.TheVariants.{Close}
use Rattle.dam_gate.specs.Day.{IsDayFault}
use Rattle.dam_engines.proofs.day.enter_and_settle.Goals as goal

pub overflow_add-result : goal.overflow_add-result
overflow_add-result g c =
    let cs = c.args.commands.now in
    let fault = c.in-Err-CloseGiven in
    let is = subst (IsDayFault cs) fault.field-0-is fault.ensures.fault in
    omega (arith, is.0, slice_get_within cs fault.place Close is.2)

pub overflow_add-result-in-Err-TooManyParticipants : goal.overflow_add-result-in-Err-TooManyParticipants
overflow_add-result-in-Err-TooManyParticipants g c =
    let cs = c.args.commands.now in
    let fault = c.in-Err-TooManyParticipants in
    let is = subst (IsDayFault cs) fault.field-0-is fault.ensures.fault in
    omega (arith, is.0, is.2)
