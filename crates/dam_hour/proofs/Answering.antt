-- The answers of the parts of a clearing, from the totals at the least supporting price.
use Rattle.dam_hour.proofs.Common.{◌≡◌, ℕ, ◌-◌, ℤ, pos, ◌+ℤ◌, ◌*ℤ◌, Some, None, List, take, ap, ◌∙◌, sym, subst, slice_get, Buy, Sell, Step, IsWithinOffers}
use Rattle.dam_hour.proofs.Common.{IsUnbalanced, IsBest, AreBestTotals, margin_of, at_volume, better_volume, full_surplus, share, volumes_in_turn, total_on}
use Rattle.dam_hour.proofs.Common.{AreTotals}
use Rattle.dam_hour.specs.Best.{greatest_welfare}
use Rattle.dam_hour.proofs.FilledExecution.{fill_place, execution_past}
use Rattle.dam_hour.proofs.Totals.{best_at, left_at, best_is_best, best_bought, best_sold, best_welfare}
use Rattle.dam_hour.proofs.VolumesInTurn.{fill_from_totals}
use Rattle.dam_hour.proofs.Supporting.{balance_within}
use Rattle.dam_hour.proofs.Existence.{best_unique}
use Rattle.dam_hour.proofs.Enumeration.{best_greatest_welfare}

pub outside_unbalanced : (steps : List Step) (net : ℤ) → ¬ (IsWithinOffers steps net) → IsUnbalanced steps net
outside_unbalanced steps net outside xs x b = outside (balance_within steps net xs x b)

pub best_totals : (steps : List Step) (net p : ℤ) (bought sold : ℕ) (w : ℤ) → AreTotals steps net p bought sold
    → w ≡ pos (full_surplus p steps) +ℤ p *ℤ net → AreBestTotals steps net bought sold w
best_totals steps net p bought sold w t e = record {
  volumes = best_at p steps bought sold;
  best = best_is_best steps net p bought sold t;
  bought_is = sym (best_bought steps net p bought sold t);
  sold_is = sym (best_sold steps net p bought sold t);
  welfare_is = e ∙ sym (best_welfare steps net p bought sold t);
}

pub totals_welfare : (steps : List Step) (net : ℤ) (bought sold : ℕ) (w : ℤ) → AreBestTotals steps net bought sold w
    → greatest_welfare steps net ≡ Some w
totals_welfare steps net bought sold w t =
    best_greatest_welfare steps net t.volumes t.best ∙ ap (λ (z : ℤ). Some z) (sym t.welfare_is)

-- the best execution's volume at a place
pub best_volume : (steps : List Step) (net p : ℤ) (bought sold : ℕ) (i : ℕ) (s : Step) (x : ℕ)
    → AreTotals steps net p bought sold → slice_get steps i ≡ Some s
    → x ≡ share (margin_of s.side s.price p) s.qty
    ((total_on s.side bought sold - better_volume s.side p steps) - at_volume s.side p (take i steps))
    → (xs : List ℕ) → IsBest steps net xs → Some x ≡ slice_get xs i
best_volume steps net p bought sold i s x t at e xs best =
    ap (λ (n : ℕ). Some n) e
    ∙ sym (fill_place p steps i s (left_at p steps bought sold) at)
    ∙ ap (λ (ys : List ℕ). slice_get ys i)
    (best_unique steps net (best_at p steps bought sold) xs (best_is_best steps net p bought sold t) best)

pub past_answer : (steps steps' : List Step) (net : ℤ) (i : ℕ) → steps' ≡ steps → slice_get steps' i ≡ None
    → (xs : List ℕ) → IsBest steps net xs → None ≡ slice_get xs i
past_answer steps steps' net i e past xs best =
    sym (execution_past steps xs i best.execution (ap (λ (all : List Step). slice_get all i) (sym e) ∙ past))

-- the whole best execution
pub execution_answer : (steps : List Step) (net p : ℤ) (bought sold buys sells : ℕ) (out : List ℕ)
    → AreTotals steps net p bought sold → buys ≡ bought - better_volume Buy p steps
    → sells ≡ sold - better_volume Sell p steps → out ≡ volumes_in_turn p steps (λ side. total_on side buys sells)
    → IsBest steps net out
execution_answer steps net p bought sold buys sells out t b s filled =
    subst (λ (xs : List ℕ). IsBest steps net xs) (sym (fill_from_totals p steps bought sold buys sells out b s filled))
    (best_is_best steps net p bought sold t)
