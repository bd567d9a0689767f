use Rattle.std.proofs.Common.{◌≡◌, [], ◌∷◌, ℕ, List, ◌+◌, ◌-◌, length, set, ap, arith, length-append}
use Rattle.dam_store.specs.FileLines.{marked, marked_lines}
use Rattle.dam_store.proofs.Lines.{batch_more}
use Rattle.dam_store.proofs.batch.append_whole_line.Goals as goal

pub returns-in-Ok-clause-ok : goal.returns-in-Ok-clause-ok
returns-in-Ok-clause-ok c =
    let bytes = c.args.bytes.now.items in
    let mark = c.len-mark.result - 1 in
    let long : mark + 1 ≡ length bytes = omega (
      arith,
      ap length c.requires.batch.split,
      length-append (marked (marked_lines bytes)) (45 ∷ []),
    ) in
    (batch_more bytes c.args.line.now _ mark c.requires.batch c.requires.line long (ap
    (λ (l : List ℕ). set l mark 43) c.in-Ok.ensures.ok)).1

pub returns-in-Ok-clause-batch : goal.returns-in-Ok-clause-batch
returns-in-Ok-clause-batch c =
    let bytes = c.args.bytes.now.items in
    let mark = c.len-mark.result - 1 in
    let long : mark + 1 ≡ length bytes = omega (
      arith,
      ap length c.requires.batch.split,
      length-append (marked (marked_lines bytes)) (45 ∷ []),
    ) in
    (batch_more bytes c.args.line.now _ mark c.requires.batch c.requires.line long (ap
    (λ (l : List ℕ). set l mark 43) c.in-Ok.ensures.ok)).0
