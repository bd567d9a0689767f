-- A period more.
use Rattle.std.proofs.Common.{◌≡◌, ℕ, zero, suc, ◌+◌, ◌<◌, List, [], ◌∷◌, ◌++◌, length, get_or, take, append-nil, append_assoc, ap, ap₂}
use Rattle.std.proofs.Common.{◌∙◌, sym, refl, arith, rules}
use Rattle.dam_results.specs.declared.published.PeriodResult.{PeriodResult}
use Rattle.dam_results.specs.Replies.{day_line}
use Rattle.dam_results.specs.Published.{welfare_line, period_line, period_lines}
use Rattle.dam_results.proofs.results_writing.results_text.Goals as goal

-- the line of the period at place k comes last
lines_push : (t k n : ℕ) (rs : List PeriodResult) (r : PeriodResult) → k < length rs → r ≡ get_or rs k r → n ≡ t + k
    → period_lines t (take (suc k) rs) ≡ period_lines t (take k rs) ++ period_line n r
lines_push t k n [] r l is e = absurd (omega arith)
lines_push t zero n (q ∷ rs) r l is e = append-nil (period_line t q) ∙ ap₂ period_line (let same : t ≡ n = omega arith in same) (sym is)
lines_push t (suc k) n (q ∷ rs) r l is e =
    ap (λ (ls : List ℕ). period_line t q ++ ls) (lines_push (suc t) k n rs r (omega arith) is (omega arith))
    ∙ sym (append_assoc (period_line t q) (period_lines (suc t) (take k rs)) (period_line n r))

joined : (day welfare lines line text after : List ℕ) → text ≡ day ++ (welfare ++ lines) → after ≡ text ++ line → after ≡ day ++
    (welfare ++ (lines ++ line))
joined day welfare lines line text after so_far e = cc (append_assoc day (welfare ++ lines) line, append_assoc welfare lines line)

text_more : (day welfare : List ℕ) (k n : ℕ) (rs : List PeriodResult) (r : PeriodResult) (text after : List ℕ) → k < length rs
    → r ≡ get_or rs k r → n ≡ k + 1
    → after ≡ text ++ period_line n r → text ≡ day ++ (welfare ++ period_lines 1 (take k rs)) → after ≡ day ++
    (welfare ++ period_lines 1 (take (k + 1) rs))
text_more day welfare k n rs r text after l is number e so_far =
    let one : suc k ≡ k + 1 = omega arith in
    joined day welfare (period_lines 1 (take k rs)) (period_line n r) text after so_far e
    ∙ ap (λ (ls : List ℕ). day ++ (welfare ++ ls))
    (sym (lines_push 1 k n rs r l is (omega arith)) ∙ ap (λ (m : ℕ). period_lines 1 (take m rs)) one)

pub loop-place-preserved : goal.loop-place-preserved
loop-place-preserved g c =
    text_more (day_line (length c.args.results.now.periods.items))
    (welfare_line c.args.results.now.welfare) c.loop-place.place _ c.args.results.now.periods.items c.period-item.result
    c.loop-place.text.items _
    (omega arith) (search rules) refl c.in_ok-append_period.ensures c.loop-place.invariant
