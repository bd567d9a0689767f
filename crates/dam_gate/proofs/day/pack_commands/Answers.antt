-- One command more.
use Rattle.std.proofs.Common.{◌++◌, ◌∷◌, [], List, ap₂, ◌∙◌}
use Rattle.std.proofs.lemmas.List.{take_more}
use Rattle.dam_book.specs.declared.command.Command.{Command}
use Rattle.dam_gate.proofs.day.pack_commands.Goals as goal

pub loop-command-preserved : goal.loop-command-preserved
loop-command-preserved c =
    rw (take_more c.args.commands.now c.loop-command.command-index c.command-item.result c.loop-command-test.true)
    (c.in_ok-push.ensures.items ∙ ap₂ (λ (cs : List Command) (d : Command). cs ++ d ∷ []) c.loop-command.invariant
    (c.in_ok-of.ensures.command ∙ c.command-item.is))
