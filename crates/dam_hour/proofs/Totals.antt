-- The totals at a supporting price give the best execution.
use Rattle.dam_hour.proofs.Common.{◌≡◌, ℕ, ◌+◌, ◌-◌, ◌<◌, ◌≤◌, ℤ, pos, negsuc, ◌+ℤ◌, ◌-ℤ◌, ◌*ℤ◌, ◌≤ℤ◌, List, ap, ◌∙◌, sym, refl, inl, inr, arith, ints}
use Rattle.dam_hour.proofs.Common.{cases_lt, up, IsPrice, Side, Buy, Sell, Step, IsExecution, executed_volume, Balances, IsBest, welfare_of, Supports}
use Rattle.dam_hour.proofs.Common.{IsSupporting, better_volume, at_volume, full_surplus, total_on, volumes_in_turn, IsHighEnough, IsLowEnough, AreTotals}
use Rattle.dam_hour.specs.Best.{IsNoBetter}
use Rattle.dam_hour.proofs.Duality.{supported_greatest, equals_supported, welfare_balanced, surplus_supported}
use Rattle.dam_hour.proofs.FilledExecution.{taken, supported_split, taken_at_most, fill_fits, fill_supported, fill_total, fill_last}

-- the volume that is left for each side at the price
abbrev pub left_at : ℤ → List Step → ℕ → ℕ → Side → ℕ
left_at p ss bought sold side = total_on side bought sold - better_volume side p ss

abbrev pub best_at : ℤ → List Step → ℕ → ℕ → List ℕ
best_at p ss bought sold = volumes_in_turn p ss (left_at p ss bought sold)

pub best_bought : (ss : List Step) (net p : ℤ) (bought sold : ℕ) → AreTotals ss net p bought sold
    → executed_volume Buy ss (best_at p ss bought sold) ≡ bought
best_bought ss net p bought sold t =
    let e = fill_total Buy p ss (left_at p ss bought sold) in omega (arith, e, t.buys_at_least, t.buys_at_most)

pub best_sold : (ss : List Step) (net p : ℤ) (bought sold : ℕ) → AreTotals ss net p bought sold
    → executed_volume Sell ss (best_at p ss bought sold) ≡ sold
best_sold ss net p bought sold t =
    let e = fill_total Sell p ss (left_at p ss bought sold) in omega (arith, e, t.sells_at_least, t.sells_at_most)

pub best_balance : (ss : List Step) (net p : ℤ) (bought sold : ℕ) → AreTotals ss net p bought sold
    → Balances ss net (best_at p ss bought sold)
best_balance ss net p bought sold t =
    ap (λ (n : ℕ). pos n +ℤ net) (best_sold ss net p bought sold t) ∙ t.balance ∙ sym (ap pos (best_bought ss net p bought sold t))

pub best_supported : (ss : List Step) (net p : ℤ) (bought sold : ℕ) → AreTotals ss net p bought sold → IsPrice p → IsSupporting ss net p
best_supported ss net p bought sold t r = record {
  in_range = r;
  volumes = best_at p ss bought sold;
  execution = fill_fits p ss (left_at p ss bought sold);
  balance = best_balance ss net p bought sold t;
  support = fill_supported p ss (left_at p ss bought sold);
}

-- nothing that the price supports buys more
bought_at_most : (net : ℤ) (b s bb sb b2 s2 : ℕ) → pos s +ℤ net ≡ pos b → (b < bb → s ≡ sb) → pos s2 +ℤ net ≡ pos b2 → b2 ≤ bb → s2 ≤ sb
    → b2 ≤ b
bought_at_most net b s bb sb b2 s2 e f e2 hb hs =
    elim (cases_lt b bb) [ inl l ↦ (let full = f l in omega (arith, ints)) | inr h ↦ omega arith ]

-- a supported execution with the two totals takes just the volume that is left at the price
left_for : (p : ℤ) (ss : List Step) (ys : List ℕ) (bought sold : ℕ) → IsExecution ss ys → Supports p ss ys
    → executed_volume Buy ss ys ≡ bought → executed_volume Sell ss ys ≡ sold → (side : Side)
    → taken side p ss ys ≤ left_at p ss bought sold side
left_for p ss ys bought sold e h eb es Buy = let k = supported_split Buy p ss ys e h in omega arith
left_for p ss ys bought sold e h eb es Sell = let k = supported_split Sell p ss ys e h in omega arith

same_sold : (net : ℤ) (b s s2 : ℕ) → pos s +ℤ net ≡ pos b → pos s2 +ℤ net ≡ pos b → s2 ≡ s
same_sold net b s s2 e e2 = omega (arith, ints)

ranks_below : (ss : List Step) (net p : ℤ) (bought sold : ℕ) → AreTotals ss net p bought sold
    → (ys : List ℕ) → IsExecution ss ys → Balances ss net ys → IsNoBetter ss ys (best_at p ss bought sold)
ranks_below ss net p bought sold t ys ey by =
    let xs = best_at p ss bought sold in
    let ex : IsExecution ss xs = fill_fits p ss (left_at p ss bought sold) in
    let sx : Supports p ss xs = fill_supported p ss (left_at p ss bought sold) in
    let bx : Balances ss net xs = best_balance ss net p bought sold t in
    let supported = λ (same : welfare_of ss ys ≡ welfare_of ss xs).
    (let le : welfare_of ss xs ≤ℤ welfare_of ss ys = omega (arith, ints) in equals_supported p net ss xs ys ex bx sx ey by le) in
    record {
      by_welfare = supported_greatest p net ss xs ys ex bx sx ey by;
      by_bought = λ same.
          (let sy = supported same in
          let b = supported_split Buy p ss ys ey sy in let tb = taken_at_most Buy p ss ys ey in
          let s = supported_split Sell p ss ys ey sy in let ts = taken_at_most Sell p ss ys ey in
          let most = bought_at_most net bought sold (better_volume Buy p ss + at_volume Buy p ss)
          (better_volume Sell p ss + at_volume Sell p ss)
          (executed_volume Buy ss ys) (executed_volume Sell ss ys) t.balance t.full by (omega arith) (omega arith) in
          omega (arith, most, best_bought ss net p bought sold t));
      by_order = λ same same_bought.
          (let eb : executed_volume Buy ss ys ≡ bought = same_bought ∙ best_bought ss net p bought sold t in
          let es : executed_volume Sell ss ys ≡ sold = same_sold net bought sold (executed_volume Sell ss ys) t.balance (by ∙ ap pos eb) in
          fill_last p ss ys (left_at p ss bought sold) ey (supported same) (left_for p ss ys bought sold ey (supported same) eb es));
    }

pub best_is_best : (ss : List Step) (net p : ℤ) (bought sold : ℕ) → AreTotals ss net p bought sold
    → IsBest ss net (best_at p ss bought sold)
best_is_best ss net p bought sold t = record {
  execution = fill_fits p ss (left_at p ss bought sold);
  balance = best_balance ss net p bought sold t;
  greatest = ranks_below ss net p bought sold t;
}

pub best_welfare : (ss : List Step) (net p : ℤ) (bought sold : ℕ) → AreTotals ss net p bought sold
    → welfare_of ss (best_at p ss bought sold) ≡ pos (full_surplus p ss) +ℤ p *ℤ net
best_welfare ss net p bought sold t =
    let xs = best_at p ss bought sold in
    let w = welfare_balanced p net ss xs (best_balance ss net p bought sold t) in
    let s = surplus_supported p ss xs (fill_fits p ss (left_at p ss bought sold)) (fill_supported p ss (left_at p ss bought sold)) in
    w ∙ ap (λ (z : ℤ). z +ℤ p *ℤ net) s

natural : (z : ℤ) → pos 0 ≤ℤ z → pos (up z) ≡ z
natural (pos n) h = refl
natural (negsuc n) h = absurd (let no : 0 < 0 = omega (arith, ints) in omega (arith, no))

-- if both tests hold, there are such totals
totals_of : (net : ℤ) (bb ba sb sa : ℕ) → pos bb ≤ℤ (pos (sb + sa) +ℤ net) → (pos sb +ℤ net) ≤ℤ pos (bb + ba)
    → (b : ℕ) × (s : ℕ) × (pos s +ℤ net ≡ pos b) × (bb ≤ b) × (b ≤ bb + ba) × (sb ≤ s) × (s ≤ sb + sa) × (b < bb + ba → s ≡ sb + sa)
totals_of net bb ba sb sa h l =
    let most = pos (sb + sa) +ℤ net in
    let enough : pos (up most) ≡ most = natural most (omega (arith, ints)) in
    elim (cases_lt (up most) (bb + ba)) [
      | inl less ↦ (up most, sb + sa, omega (arith, ints), omega (arith, ints), omega (arith, ints), omega arith, omega arith, λ _. refl)
      | inr more ↦
          (let rest : pos (up (pos (bb + ba) -ℤ net)) ≡ pos (bb + ba) -ℤ net = natural (pos (bb + ba) -ℤ net) (omega (arith, ints)) in (
            bb + ba,
            up (pos (bb + ba) -ℤ net),
            omega (arith, ints),
            omega arith,
            omega arith,
            omega (arith, ints),
            omega (arith, ints),
            λ no. absurd (omega (arith, no)),
          ))
    ]

pub totals_at : (ss : List Step) (net p : ℤ) → IsHighEnough ss net p → IsLowEnough ss net p → (b : ℕ) × (s : ℕ) × AreTotals ss net p b s
totals_at ss net p h l =
    let t = totals_of net (better_volume Buy p ss) (at_volume Buy p ss) (better_volume Sell p ss) (at_volume Sell p ss) h.enough l.enough in
    (t.0, t.1, record { balance = t.2; buys_at_least = t.3; buys_at_most = t.4; sells_at_least = t.5; sells_at_most = t.6; full = t.7 })

pub supporting_tests : (ss : List Step) (net p : ℤ) → IsSupporting ss net p → IsHighEnough ss net p × IsLowEnough ss net p
supporting_tests ss net p h =
    let b = supported_split Buy p ss h.volumes h.execution h.support in let tb = taken_at_most Buy p ss h.volumes h.execution in
    let s = supported_split Sell p ss h.volumes h.execution h.support in let ts = taken_at_most Sell p ss h.volumes h.execution in
    let e = h.balance in
    (record { enough = omega (arith, ints, b, tb, s, ts, e) }, record { enough = omega (arith, ints, b, tb, s, ts, e) })
