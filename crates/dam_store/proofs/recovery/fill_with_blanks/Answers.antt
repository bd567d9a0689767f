use Rattle.std.proofs.Common.{◌≡◌, List, ℕ, ◌-◌, ◌≤◌, ◌++◌, length, take, replicate, ap, ◌∙◌, arith, length-take}
use Rattle.std.proofs.lemmas.List.{take_all}
use Rattle.std.specs.Vec.{vec_len}
use Rattle.dam_store.proofs.recovery.fill_with_blanks.Goals as goal

pub returns : goal.returns
returns c =
    let bytes = c.args.bytes.now.items in
    let front = take c.args.at bytes in
    let cut = c.truncate.ensures.items in
    let spare : c.len-len.result - vec_len c.truncate.new.self ≡ length bytes - c.args.at = omega (
      arith,
      c.len-len.ensures,
      c.truncate.ensures.len,
    ) in
    let long : length front ≤ c.len-len.result = omega (arith, c.len-len.ensures, length-take c.args.at bytes) in
    c.in_ok-resize.ensures.items ∙ ap (λ (n : ℕ). take c.len-len.result c.truncate.new.self.items ++ replicate n 32) spare
    ∙ ap (λ (l : List ℕ). take c.len-len.result l ++ replicate (length bytes - c.args.at) 32) cut
    ∙ ap (λ (l : List ℕ). l ++ replicate (length bytes - c.args.at) 32) (take_all c.len-len.result front long)
