-- No byte of an ASCII text is above 127.
use Rattle.std.proofs.Common.{◌≡◌, ◌<◌, ℕ, List, Bool, cond, false, None, Some, length, get_or, nat_lt, arith, sym, ap}
use Rattle.std.specs.List.{position, position_or_len}
use Rattle.std.specs.Str.{IsAscii}
use Rattle.std.proofs.lemmas.Bool.Decides.{nat_tests}
use Rattle.std.proofs.lemmas.List.Sums.{position_or_len_is}
use Rattle.dam_results.proofs.journal_reading.first_non_ascii.Goals as goal

none_high : (text : List ℕ) → IsAscii text → None ≡ position (nat_lt 127) text
none_high text ascii =
    let place = position_or_len (nat_lt 127) text in
    let low : (k : ℕ) → k < length text → nat_lt 127 (get_or text k 0) ≡ false = λ k within. grind (arith, nat_tests, ascii k) in
    let past : place ≡ length text =
    position_or_len_is (nat_lt 127) text (length text) 0 (omega arith) low (λ within. absurd (omega (arith, within))) in
    let outside : nat_lt place (length text) ≡ false = grind (arith, nat_tests, past) in
    sym (ap (λ (b : Bool). cond b (Some place) None) outside)

pub returns-then-is_ascii : goal.returns-then-is_ascii
returns-then-is_ascii c = none_high _ c.if-is_ascii.ensures.cases
