use Rattle.std.proofs.Common.{◌≡◌, inr, slice_index, arith}
use Rattle.std.proofs.lemmas.Bool.{eq-eqb}
use Rattle.dam_store.proofs.Lines.{none_has, first_line}
use Rattle.dam_store.proofs.marked_lines.line_len.Goals as goal

pub returns-in_default-memchr : goal.returns-in_default-memchr
returns-in_default-memchr c = inr (none_has c.args.bytes.now (λ k low. c.in_default-memchr.ensures k (omega arith) low))

pub returns : goal.returns
returns c =
    let found = c.in-Some.ensures in
    let mark : slice_index c.args.bytes.now 0 ≡ 43 = omega arith in
    first_line c.args.bytes.now c.in-Some.newline found.0.high (eq-eqb _ _ mark) (λ j less. found.0.before j (omega arith) less) found.1
