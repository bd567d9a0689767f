-- The published line of an hourly order is its execution at the price of its period.
use Rattle.std.proofs.Common.{◌≡◌, ℕ, zero, suc, ◌+◌, ◌-◌, pos, Bool, Some, List, [], ◌∷◌, ◌++◌, length, take, get_or, append_assoc, ap, ◌∙◌, sym, subst, refl, arith}
use Rattle.std.specs.List.{slice_get}
use Rattle.std.proofs.lemmas.List.{append-nil}
use Rattle.std.proofs.lemmas.Option.{same_Some}
use Rattle.dam_book.specs.Terms.{HourTerms, BlockTerms}
use Rattle.dam_book.specs.Book.{Key, Row, BookState}
use Rattle.dam_book.specs.declared.order.Order.TheVariants.{Hour, Block as BlockVariant}
use Rattle.dam_hour.specs.declared.step.Step.{Step}
use Rattle.dam_hour.specs.Best.{IsBest}
use Rattle.dam_hour.specs.Market.{IsExecutedAt}
use Rattle.dam_blocks.specs.declared.problem.Block.{Block}
use Rattle.dam_blocks.specs.Problem.{steps_in, hours_from, blocks_in, rows_after, problem_of}
use Rattle.dam_blocks.specs.Selection.{net_volume}
use Rattle.dam_blocks.specs.Eligible.{IsClearingPrice}
use Rattle.dam_results.specs.declared.published.PeriodResult.{PeriodResult}
use Rattle.dam_results.specs.declared.published.RowResult.{RowResult}
use Rattle.dam_results.specs.declared.published.RowResult.TheVariants.{Hour as HourResult, Block as BlockResult}
use Rattle.dam_results.specs.Published.{prices_of, ArePeriodResults, IsExecuted, AreRowResults}
use Rattle.dam_results.specs.Clearing.{IsClearing}
use Rattle.dam_results.specs.Market.{price_in}
use Rattle.dam_results.proofs.Places.{same_hour}
use Rattle.dam_results.proofs.AddingUp.{hour_is, step_of, stands_there}

-- the published price of a period is its price under the selection
price_at : (blocks : List Block) (sel : List Bool) (t k : ℕ) (hours : List (List Step)) (periods : List PeriodResult) (ss : List Step)
    → ArePeriodResults blocks sel t hours periods → slice_get hours k ≡ Some ss
    → IsClearingPrice ss (net_volume blocks sel (k + t)) (get_or (prices_of periods) k (pos 0))
price_at blocks sel t k [] [] ss are e = absurd (cc)
price_at blocks sel t k [] (r ∷ periods) ss are e = absurd are
price_at blocks sel t k (hour ∷ hours) [] ss are e = absurd are
price_at blocks sel t zero (hour ∷ hours) (r ∷ periods) ss are e =
    let same = same_Some hour ss e in
    let first : t ≡ 0 + t = omega arith in
    subst (λ (n : ℕ). IsClearingPrice ss (net_volume blocks sel n) r.price) first
    (subst (λ (h : List Step). IsClearingPrice h (net_volume blocks sel t) r.price) same are.0.price)
price_at blocks sel t (suc k) (hour ∷ hours) (r ∷ periods) ss are e =
    let next : k + suc t ≡ suc k + t = omega arith in
    subst (λ (n : ℕ). IsClearingPrice ss (net_volume blocks sel n) (get_or (prices_of periods) k (pos 0))) next
    (price_at blocks sel (suc t) k hours periods ss are.1 e)

-- the execution of the order, the rows of `front` standing before it
abbrev pub Executed : BookState → List Bool → List PeriodResult → List Row → HourTerms → ℕ → Type 0
Executed book sel periods front o volume =
    IsExecutedAt (steps_in o.period book.rows) (net_volume (blocks_in book.rows) sel o.period) (price_in periods o.period)
    (length (steps_in o.period front)) (step_of o) volume

order_executed : (book : BookState) (sel : List Bool) (periods : List PeriodResult) (front : List Row) (key : Key) (o : HourTerms)
    (rest : List Row) (t i volume : ℕ) → ArePeriodResults (blocks_in book.rows) sel 1 (hours_from 1 book.periods book.rows) periods
    → front ++ (key, Hour o) ∷ rest ≡ book.rows → o.period ≡ t → length (steps_in o.period front) ≡ i
    → IsExecuted (problem_of book) sel t i volume → Executed book sel periods front o volume
order_executed book sel periods front key o rest t i volume are whole period place is =
    let least = is.from_one in
    let hours = hours_from 1 book.periods book.rows in
    let blocks = blocks_in book.rows in
    let hour : slice_get hours (o.period - 1) ≡ Some is.hour = ap (λ (n : ℕ). slice_get hours (n - 1)) period ∙ is.stands in
    let own : (o.period - 1) + 1 ≡ o.period = omega (arith, least, period) in
    let steps : is.hour ≡ steps_in o.period book.rows =
    hour_is 1 book.periods (o.period - 1) book.rows is.hour hour ∙ ap (λ (n : ℕ). steps_in n book.rows) own in
    let price = subst (λ (ss : List Step). IsClearingPrice ss (net_volume blocks sel o.period) (price_in periods o.period)) steps
    (subst (λ (n : ℕ). IsClearingPrice is.hour (net_volume blocks sel n) (price_in periods o.period)) own
    (price_at blocks sel 1 (o.period - 1) hours periods is.hour are hour)) in
    let best = subst (λ (ss : List Step). IsBest ss (net_volume blocks sel o.period) is.executed) steps
    (subst (λ (n : ℕ). IsBest is.hour (net_volume blocks sel n) is.executed) (sym period) is.best) in
    record {
      low = price.low;
      high = price.high;
      ends = price.ends;
      price_is = price.between;
      volumes = is.executed;
      best = best;
      stands = ap (λ (rows : List Row). slice_get (steps_in o.period rows) (length (steps_in o.period front))) (sym whole)
          ∙ stands_there front key o rest;
      volume_is = ap (λ (n : ℕ). slice_get is.executed n) place ∙ is.volume_is;
    }

same_terms : (p o : HourTerms) → Hour p ≡ Hour o → p ≡ o
same_terms p o e = cc

no_hourly : (b : BlockTerms) (o : HourTerms) → BlockVariant b ≡ Hour o → ⊥
no_hourly b o e = cc

orders_equal : (row other : Row) → Some row ≡ Some other → row.1 ≡ other.1
orders_equal row other e = ap (λ (r : Row). r.1) (same_Some row other e)

same_volume : (w who m name : List ℕ) (x volume : ℕ) → Some (HourResult w m x) ≡ Some (HourResult who name volume) → x ≡ volume
same_volume w who m name x volume e = cc

after_one : (front rest : List Row) (row : Row) (place : ℕ) → (front ++ row ∷ []) ++ take place rest ≡ front ++ take (suc place) (row ∷ rest)
after_one front rest row place = append_assoc front (row ∷ []) (take place rest)

rows_executed : (book : BookState) (sel : List Bool) (periods : List PeriodResult) (front rest : List Row) (results : List RowResult)
    (place : ℕ) (key : Key) (o : HourTerms) (who name : List ℕ) (volume : ℕ)
    → ArePeriodResults (blocks_in book.rows) sel 1 (hours_from 1 book.periods book.rows) periods → front ++ rest ≡ book.rows
    → AreRowResults (problem_of book) sel (prices_of periods) (rows_after front rest) results → slice_get rest place ≡ Some (key, Hour o)
    → slice_get results place ≡ Some (HourResult who name volume) → Executed book sel periods (front ++ take place rest) o volume
rows_executed book sel periods front [] results place key o who name volume days whole are at line = absurd (cc)
rows_executed book sel periods front (row ∷ rest) [] place key o who name volume days whole are at line = absurd (cc)
rows_executed book sel periods front ((k, Hour p) ∷ rest) (HourResult w m x ∷ results) zero key o who name volume days whole are at line =
    let is = are.0.2 in
    let same = same_hour p.period (length (steps_in p.period front)) is.0 is.1 is.2 in
    let own = order_executed book sel periods front k p rest is.0 is.1 x days whole same.0 same.1 is.3 in
    subst (λ (rows : List Row). Executed book sel periods rows o volume) (sym (append-nil front))
    (subst (λ (q : HourTerms). Executed book sel periods front q volume) (same_terms p o (orders_equal (k, Hour p) (key, Hour o) at))
    (subst (λ (y : ℕ). Executed book sel periods front p y) (same_volume w who m name x volume line) own))
rows_executed book sel periods front ((k, Hour p) ∷ rest) (BlockResult w m accepted surplus ∷ results) zero key o who name volume days whole
    are at line =
    absurd (cc)
rows_executed book sel periods front ((k, BlockVariant b) ∷ rest) (r ∷ results) zero key o who name volume days whole are at line =
    absurd (no_hourly b o (orders_equal (k, BlockVariant b) (key, Hour o) at))
rows_executed book sel periods front (row ∷ rest) (r ∷ results) (suc place) key o who name volume days whole are at line =
    subst (λ (rows : List Row). Executed book sel periods rows o volume) (after_one front rest row place)
    (rows_executed book sel periods (front ++ row ∷ []) rest results place key o who name volume days
    (append_assoc front (row ∷ []) rest ∙ whole) are.1 at line)

pub orders_executed : (book : BookState) (welfare : ℕ) (periods : List PeriodResult) (rows : List RowResult)
    (clearing : IsClearing book welfare periods rows) (place : ℕ) (key : Key) (o : HourTerms) (who name : List ℕ) (volume : ℕ)
    → slice_get book.rows place ≡ Some (key, Hour o) → slice_get rows place ≡ Some (HourResult who name volume)
    → Executed book clearing.selection periods (take place book.rows) o volume
orders_executed book welfare periods rows clearing place key o who name volume at line =
    rows_executed book clearing.selection periods [] book.rows rows place key o who name volume clearing.published.periods_are refl
    clearing.published.rows_are at line
