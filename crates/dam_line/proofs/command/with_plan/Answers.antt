-- Each option's texts have its numbers, and each argument adds its rule.
use Rattle.std.proofs.Common.{◌∙◌, refl, ap, ap₂}
use Rattle.std.proofs.lemmas.Result.{IfOk-weaker}
use Rattle.std.specs.Fmt.{digits}
use Rattle.clap.specs.Words.{app_of, with_rule}
use Rattle.dam_line.proofs.command.with_plan.Goals as goal

pub number_option-requires : goal.number_option-requires
unfolding digits
number_option-requires c = record { default = refl; range = refl }

pub number_option-requires-2 : goal.number_option-requires-2
unfolding digits
number_option-requires-2 c = record { default = refl; range = refl }

pub number_option-requires-3 : goal.number_option-requires-3
unfolding digits
number_option-requires-3 c = record { default = refl; range = refl }

pub returns-clause-app : goal.returns-clause-app
returns-clause-app c =
    let first = c.in_ok-arg.ensures.shape c.number_option.ensures.local ∙ ap
    (with_rule (app_of c.args.command)) c.number_option.ensures.rule in
    let second = c.in_ok-arg-2.ensures.shape c.number_option-2.ensures.local ∙ ap₂ with_rule first c.number_option-2.ensures.rule in
    IfOk-weaker c.arg-3.result _ _ (λ command third. third.shape c.number_option-3.ensures.local
    ∙ ap₂ with_rule second c.number_option-3.ensures.rule) c.arg-3.ensures
