use Rattle.std.proofs.Common.{◌≡◌, ◌+◌, suc, take, drop, sym, ap, ◌∙◌, subst, arith}
use Rattle.std.proofs.lemmas.List.{take_rest}
use Rattle.dam_desk.specs.inside.TextLines.{BeginsWith}
use Rattle.dam_desk.proofs.Texts.{first_of, none_has}
use Rattle.dam_desk.proofs.text_lines.split_first_line.Goals as goal

pub returns-in_default-clause-first : goal.returns-in_default-clause-first
returns-in_default-clause-first c = none_has c.args.bytes.now (λ k low. c.in_default.ensures k (omega arith) low)

pub returns-clause-first : goal.returns-clause-first
returns-clause-first c =
    let bytes = c.args.bytes.now in
    let at = c.in-Some.at in
    let found = c.in-Some.ensures in
    let next : suc at ≡ at + 1 = omega arith in
    subst (BeginsWith bytes (take at bytes)) (ap (λ n. drop n bytes) next ∙ sym (take_rest bytes (at + 1)))
    (first_of bytes at found.0.high (λ j less. found.0.before j (omega arith) less) found.1)
