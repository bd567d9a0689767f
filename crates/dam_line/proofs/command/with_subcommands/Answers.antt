-- Each subcommand adds its shape.
use Rattle.std.proofs.Common.{◌∙◌, ap, ap₂}
use Rattle.std.proofs.lemmas.Result.{IfOk-weaker}
use Rattle.clap.specs.Words.{App, app_of, with_subcommand}
use Rattle.dam_line.proofs.command.with_subcommands.Goals as goal

pub returns : goal.returns
returns c =
    let shape = ap (λ (a : App). a.top) c.replay_command.ensures.app in
    let first = c.in_ok-subcommand.ensures.shape c.replay_command.ensures.local ∙ ap (with_subcommand (app_of c.args.command)) shape in
    let second = c.in_ok-subcommand-2.ensures.shape c.in_ok-clear_command.ensures.local
    ∙ ap₂ with_subcommand first c.in_ok-clear_command.ensures.shape in
    IfOk-weaker c.subcommand-3.result _ _
    (λ command third. third.shape c.in_ok-day_command.ensures.local ∙ ap₂ with_subcommand second c.in_ok-day_command.ensures.shape)
    c.subcommand-3.ensures
