-- The number that was parsed is the one that the definition reads of the option's text.
use Rattle.std.proofs.Common.{◌∙◌, ◌<◌, ◌^◌, sym, ap, arith}
use Rattle.clap.specs.Words.{found_of}
use Rattle.dam_line.specs.Options.{terms_of}
use Rattle.dam_line.proofs.Numbers.{kept, given, kept_within, kept_below, kept_above}
use Rattle.dam_line.proofs.line.number_given.Goals as goal

pub returns-in-Some-clause-value : goal.returns-in-Some-clause-value
returns-in-Some-clause-value c =
    let option = terms_of c.args.option in
    let small : option.most < 2 ^ 32 = omega arith in
    sym (given option small (found_of c.args.options.now) c.get_one.result c.get_one.ensures.none c.get_one.ensures.value
    ∙ (ap (kept option) c.in-Some.is ∙ kept_within option _ c.if-option-number.true c.if-number-option.true))

pub returns-in_default-clause-value : goal.returns-in_default-clause-value
returns-in_default-clause-value c =
    let option = terms_of c.args.option in
    let small : option.most < 2 ^ 32 = omega arith in
    sym (given option small (found_of c.args.options.now) c.get_one.result c.get_one.ensures.none c.get_one.ensures.value
    ∙ (ap (kept option) c.in-Some.is ∙ kept_above option _ c.if-number-option.false))

pub returns-in_default-2-clause-value : goal.returns-in_default-2-clause-value
returns-in_default-2-clause-value c =
    let option = terms_of c.args.option in
    let small : option.most < 2 ^ 32 = omega arith in
    sym (given option small (found_of c.args.options.now) c.get_one.result c.get_one.ensures.none c.get_one.ensures.value
    ∙ (ap (kept option) c.in-Some.is ∙ kept_below option _ c.if-option-number.false))

pub returns-in_default-3-clause-value : goal.returns-in_default-3-clause-value
returns-in_default-3-clause-value c =
    let option = terms_of c.args.option in
    let small : option.most < 2 ^ 32 = omega arith in
    sym (given option small (found_of c.args.options.now) c.get_one.result c.get_one.ensures.none c.get_one.ensures.value
    ∙ ap (kept option) c.in_default.is)
