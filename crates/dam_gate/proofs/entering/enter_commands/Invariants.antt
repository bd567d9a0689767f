-- The commands at the places so far are entered.
use Rattle.std.proofs.Common.{◌≡◌, ◌++◌, take}
use Rattle.dam_book.specs.Book.{commands_of}
use Rattle.dam_gate.specs.inside.Entering.{commands_at}
use Rattle.dam_gate.proofs.entering.enter_commands.Given as goal

abbrev pub invariant-loop-place : goal.invariant-loop-place
invariant-loop-place g l = record {
  holder : l.pass.account.holder ≡ l.initial.pass.account.holder;
  entered : commands_of l.pass.account.receipts ≡ commands_of l.initial.pass.account.receipts
      ++ commands_at l.commands (take l.place-index l.places);
}
