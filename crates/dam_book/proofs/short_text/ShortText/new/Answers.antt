-- The places after the text are those of an array of zeros.
use Rattle.dam_book.proofs.Common.{List, ap, ap₂, length, replicate, rules, sym, take_at, ℕ, ◌++◌, ◌-◌, ◌≡◌}
use Rattle.std.proofs.Math.ListN.{take, drop}
use Rattle.std.proofs.lemmas.List.{drop-replicate}
use Rattle.dam_book.proofs.short_text.ShortText.new.Goals as goal

zeros_after : (n : ℕ) (text bytes : List ℕ) → bytes ≡ text → bytes ++ drop (length text) (replicate n 0) ≡ take (length text)
    (bytes ++ drop (length text) (replicate n 0)) ++ replicate (n - length text) 0
zeros_after n text bytes e = ap₂ (λ (a b : List ℕ). a ++ b)
    (sym (take_at bytes (drop (length text) (replicate n 0)) (length text) (ap length e))) (drop-replicate (length text) n 0)

pub invariant_of-result : goal.invariant_of-result
invariant_of-result g c = (search rules, zeros_after g.row.N c.args.text.now c.copy_from_slice.new.self c.copy_from_slice.ensures.after)
