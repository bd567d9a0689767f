-- The published lines of the orders add up: to the welfare, and in each period to the bought and the sold volume.
use Rattle.std.proofs.Common.{◌≡◌, ℕ, zero, suc, ◌+◌, ◌-◌, ◌≤◌, ◌==◌, ℤ, pos, ◌+ℤ◌, Bool, true, false, cond, Option, Some, None, List, []}
use Rattle.std.proofs.Common.{◌∷◌, ◌++◌, length, length-append, drop, get_or, append_assoc, ap, ap₂, ◌∙◌, sym, subst, refl, arith}
use Rattle.std.specs.List.{slice_get, cons_option}
use Rattle.std.specs.Option.{option_map, unwrap_or}
use Rattle.std.proofs.lemmas.Int.{ints}
use Rattle.std.proofs.lemmas.Bool.{eq-eqb, eqb-true}
use Rattle.std.proofs.lemmas.List.{append-nil, drop_all}
use Rattle.std.proofs.lemmas.Option.{same_Some}
use Rattle.dam_book.specs.Terms.{HourTerms, BlockTerms}
use Rattle.dam_book.specs.Book.{Key, Row, BookState, IsBook}
use Rattle.dam_book.specs.declared.order.Side.{Side}
use Rattle.dam_book.specs.declared.order.Side.TheVariants.{Buy, Sell}
use Rattle.dam_book.specs.declared.order.Order.TheVariants.{Hour, Block as BlockVariant}
use Rattle.dam_hour.specs.declared.step.Step.{Step}
use Rattle.dam_hour.specs.Execution.{executed_volume, volume_on}
use Rattle.dam_hour.specs.Best.{IsBest}
use Rattle.dam_hour.specs.Market.{order_surplus}
use Rattle.dam_blocks.specs.declared.problem.Block.{Block}
use Rattle.dam_blocks.specs.declared.problem.Place.TheVariants.{Hour as AtHour, Block as AtBlock}
use Rattle.dam_blocks.specs.Problem.{ProblemState, steps_in, hours_from, blocks_in, rows_after, problem_of, IsProblem}
use Rattle.dam_blocks.specs.Selection.{accepts, over_accepted, net_volume, volume_in}
use Rattle.dam_blocks.specs.Eligible.{ArePrices, surplus_of, surplus_at, selection_welfare}
use Rattle.dam_blocks.specs.Market.{AreBestExecutions, IsOutcome, block_volume_of, traded, order_surplus_at, order_surplus_in, gain_of, over_orders}
use Rattle.dam_results.specs.declared.published.PeriodResult.{PeriodResult}
use Rattle.dam_results.specs.declared.published.RowResult.{RowResult}
use Rattle.dam_results.specs.declared.published.RowResult.TheVariants.{Hour as HourResult, Block as BlockResult}
use Rattle.dam_results.specs.Published.{prices_of, IsPeriodResult, ArePeriodResults, IsExecuted, HasSurplus, AreRowResults}
use Rattle.dam_results.specs.Clearing.{IsClearing}
use Rattle.dam_results.specs.Market.{price_in, published_gains, published_trades}
use Rattle.dam_results.proofs.Places.{same_hour, same_block, best_at, get_between, blocks_split, steps_split}

-- the laws below
pub record AddingLaws : Type 0 where
  pub problem : (book : BookState) → IsBook book → book.closed ≡ true → IsProblem (problem_of book)
  pub shared : (problem : ProblemState) (sel : List Bool) (prices : List ℤ) (executions : List (List ℕ)) → IsProblem problem
      → IsOutcome problem sel prices executions
      → selection_welfare problem sel ≡ Some (over_orders (gain_of problem sel prices executions) problem.rows)
  pub balance : (blocks : List Block) (sel : List Bool) (t : ℕ) (ss : List Step) (xs : List ℕ) → IsBest ss (net_volume blocks sel t) xs
      → traded Buy blocks sel t ss xs ≡ traded Sell blocks sel t ss xs
  pub best : (ss : List Step) (net : ℤ) (xs ys : List ℕ) → IsBest ss net xs → IsBest ss net ys → xs ≡ ys

hour_no_block : (t i j : ℕ) → AtHour t i ≡ AtBlock j → ⊥
hour_no_block t i j e = cc

block_no_hour : (t i j : ℕ) → AtBlock j ≡ AtHour t i → ⊥
block_no_hour t i j e = cc

-- ---- the published periods
prices_are : (blocks : List Block) (sel : List Bool) (t : ℕ) (hours : List (List Step)) (periods : List PeriodResult)
    → ArePeriodResults blocks sel t hours periods → ArePrices blocks sel t hours (prices_of periods)
prices_are blocks sel t [] [] are = tt
prices_are blocks sel t [] (r ∷ periods) are = absurd are
prices_are blocks sel t (ss ∷ hours) [] are = absurd are
prices_are blocks sel t (ss ∷ hours) (r ∷ periods) are = (are.0.price, prices_are blocks sel (suc t) hours periods are.1)

executions_are : (blocks : List Block) (sel : List Bool) (t : ℕ) (hours : List (List Step)) (periods : List PeriodResult)
    → ArePeriodResults blocks sel t hours periods → (executions : List (List ℕ)) × AreBestExecutions blocks sel t hours executions
executions_are blocks sel t [] [] are = ([], tt)
executions_are blocks sel t [] (r ∷ periods) are = absurd are
executions_are blocks sel t (ss ∷ hours) [] are = absurd are
executions_are blocks sel t (ss ∷ hours) (r ∷ periods) are =
    let rest = executions_are blocks sel (suc t) hours periods are.1 in (are.0.executed ∷ rest.0, (are.0.best, rest.1))

period_at : (blocks : List Block) (sel : List Bool) (t k : ℕ) (hours : List (List Step)) (periods : List PeriodResult) (r : PeriodResult)
    → ArePeriodResults blocks sel t hours periods → slice_get periods k ≡ Some r
    → (ss : List Step) × (slice_get hours k ≡ Some ss) × IsPeriodResult blocks sel (k + t) ss r
period_at blocks sel t k [] [] r are e = absurd (cc)
period_at blocks sel t k [] (q ∷ periods) r are e = absurd are
period_at blocks sel t k (hour ∷ hours) [] r are e = absurd are
period_at blocks sel t zero (hour ∷ hours) (q ∷ periods) r are e =
    let same = same_Some q r e in
    let first : t ≡ 0 + t = omega arith in (
      hour,
      refl,
      subst (λ (n : ℕ). IsPeriodResult blocks sel n hour r) first
          (subst (λ (p : PeriodResult). IsPeriodResult blocks sel t hour p) same are.0),
    )
period_at blocks sel t (suc k) (hour ∷ hours) (q ∷ periods) r are e =
    let rest = period_at blocks sel (suc t) k hours periods r are.1 e in
    let next : k + suc t ≡ suc k + t = omega arith in
    (rest.0, rest.1, subst (λ (n : ℕ). IsPeriodResult blocks sel n rest.0 r) next rest.2)

pub hour_is : (t n k : ℕ) (rows : List Row) (ss : List Step) → slice_get (hours_from t n rows) k ≡ Some ss → ss ≡ steps_in (k + t) rows
hour_is t zero k rows ss e = absurd (cc)
hour_is t (suc n) zero rows ss e =
    let first : t ≡ 0 + t = omega arith in
    sym (same_Some (steps_in t rows) ss e) ∙ ap (λ (m : ℕ). steps_in m rows) first
hour_is t (suc n) (suc k) rows ss e =
    let next : k + suc t ≡ suc k + t = omega arith in
    hour_is (suc t) n k rows ss e ∙ ap (λ (m : ℕ). steps_in m rows) next

-- ---- the place of an hourly order
abbrev pub step_of : HourTerms → Step
step_of o = record { side = o.side; price = o.price; qty = o.qty }

own_steps : (key : Key) (o : HourTerms) (rest : List Row) → steps_in o.period ((key, Hour o) ∷ rest) ≡ step_of o ∷ steps_in o.period rest
own_steps key o rest =
    ap (λ (b : Bool). cons_option (cond b (Some (step_of o)) None) (steps_in o.period rest)) (eq-eqb o.period o.period refl)

pub stands_there : (front : List Row) (key : Key) (o : HourTerms) (rest : List Row)
    → slice_get (steps_in o.period (front ++ (key, Hour o) ∷ rest)) (length (steps_in o.period front)) ≡ Some (step_of o)
stands_there front key o rest =
    ap (λ (ss : List Step). slice_get ss (length (steps_in o.period front)))
    (steps_split o.period front ((key, Hour o) ∷ rest)
    ∙ ap (λ (ss : List Step). steps_in o.period front ++ ss) (own_steps key o rest))
    ∙ get_between (steps_in o.period front) (steps_in o.period rest) (step_of o)

-- ---- the published line of an hourly order
-- its period's orders and best execution, and its volume there
record StandsExecuted (book : BookState) (executions : List (List ℕ)) (front : List Row) (o : HourTerms) (volume : ℕ) : Type 0 where
  from_one : 1 ≤ o.period
  steps : List Step
  hour : slice_get (hours_from 1 book.periods book.rows) (o.period - 1) ≡ Some steps
  steps_are : steps ≡ steps_in o.period book.rows
  volumes : List ℕ
  executed : slice_get executions (o.period - 1) ≡ Some volumes
  step : slice_get steps (length (steps_in o.period front)) ≡ Some (step_of o)
  volume_is : slice_get volumes (length (steps_in o.period front)) ≡ Some volume

stands_executed : AddingLaws → (book : BookState) (sel : List Bool) (executions : List (List ℕ)) (front : List Row) (key : Key) (o : HourTerms)
    (rest : List Row) (t i volume : ℕ) → AreBestExecutions (blocks_in book.rows) sel 1 (hours_from 1 book.periods book.rows) executions
    → front ++ (key, Hour o) ∷ rest ≡ book.rows → o.period ≡ t → length (steps_in o.period front) ≡ i
    → IsExecuted (problem_of book) sel t i volume → StandsExecuted book executions front o volume
stands_executed laws book sel executions front key o rest t i volume best whole period place is =
    let least = is.from_one in
    let hours = hours_from 1 book.periods book.rows in
    let hour : slice_get hours (o.period - 1) ≡ Some is.hour = ap (λ (n : ℕ). slice_get hours (n - 1)) period ∙ is.stands in
    let found = best_at (blocks_in book.rows) sel 1 (o.period - 1) hours executions is.hour best hour in
    let again : (o.period - 1) + 1 ≡ t = omega (arith, least, period) in
    let same : found.0 ≡ is.executed =
    laws.best is.hour (net_volume (blocks_in book.rows) sel t) found.0 is.executed
    (subst (λ (n : ℕ). IsBest is.hour (net_volume (blocks_in book.rows) sel n) found.0) again found.2) is.best in
    let own : (o.period - 1) + 1 ≡ o.period = omega (arith, least, period) in
    let steps_are : is.hour ≡ steps_in o.period book.rows =
    hour_is 1 book.periods (o.period - 1) book.rows is.hour hour ∙ ap (λ (n : ℕ). steps_in n book.rows) own in
    record {
      from_one = omega (arith, least, period);
      steps = is.hour;
      hour = hour;
      steps_are = steps_are;
      volumes = found.0;
      executed = found.1;
      step = ap (λ (ss : List Step). slice_get ss (length (steps_in o.period front))) (steps_are
          ∙ ap (λ (rows : List Row). steps_in o.period rows) (sym whole)) ∙ stands_there front key o rest;
      volume_is = ap₂ (λ (xs : List ℕ) (n : ℕ). slice_get xs n) same place ∙ is.volume_is;
    }

-- ---- the welfare
gain_at_place : (p : ℤ) (ss : List Step) (xs : List ℕ) (i : ℕ) (s : Step) (x : ℕ) → slice_get ss i ≡ Some s → slice_get xs i ≡ Some x
    → order_surplus_at p ss xs i ≡ order_surplus p s x
gain_at_place p [] xs i s x e f = absurd (cc)
gain_at_place p (r ∷ ss) [] i s x e f = absurd (cc)
gain_at_place p (r ∷ ss) (y ∷ xs) zero s x e f = ap₂ (λ (q : Step) (z : ℕ). order_surplus p q z) (same_Some r s e) (same_Some y x f)
gain_at_place p (r ∷ ss) (y ∷ xs) (suc i) s x e f = gain_at_place p ss xs i s x e f

gain_in_period : (blocks : List Block) (sel : List Bool) (t : ℕ) (prices : List ℤ) (hours : List (List Step)) (executions : List (List ℕ))
    (k i : ℕ) (ss : List Step) (xs : List ℕ) (s : Step) (x : ℕ) → ArePrices blocks sel t hours prices → slice_get hours k ≡ Some ss
    → slice_get executions k ≡ Some xs → slice_get ss i ≡ Some s → slice_get xs i ≡ Some x
    → order_surplus_in prices hours executions k i ≡ order_surplus (get_or prices k (pos 0)) s x
gain_in_period blocks sel t prices [] executions k i ss xs s x are e f at volume = absurd (cc)
gain_in_period blocks sel t [] (hour ∷ hours) executions k i ss xs s x are e f at volume = absurd are
gain_in_period blocks sel t (p ∷ prices) (hour ∷ hours) [] k i ss xs s x are e f at volume = absurd (cc)
gain_in_period blocks sel t (p ∷ prices) (hour ∷ hours) (ys ∷ executions) zero i ss xs s x are e f at volume =
    ap₂ (λ (h : List Step) (v : List ℕ). order_surplus_at p h v i) (same_Some hour ss e) (same_Some ys xs f)
    ∙ gain_at_place p ss xs i s x at volume
gain_in_period blocks sel t (p ∷ prices) (hour ∷ hours) (ys ∷ executions) (suc k) i ss xs s x are e f at volume =
    gain_in_period blocks sel (suc t) prices hours executions k i ss xs s x are.1 e f at volume

-- a day as published
record IsDay (book : BookState) (sel : List Bool) (periods : List PeriodResult) (executions : List (List ℕ)) : Type 0 where
  periods_are : ArePeriodResults (blocks_in book.rows) sel 1 (hours_from 1 book.periods book.rows) periods
  best : AreBestExecutions (blocks_in book.rows) sel 1 (hours_from 1 book.periods book.rows) executions

hour_gains : AddingLaws → (book : BookState) (sel : List Bool) (periods : List PeriodResult) (executions : List (List ℕ)) (front : List Row)
    (key : Key) (o : HourTerms) (rest : List Row) (t i volume : ℕ) → IsDay book sel periods executions
    → front ++ (key, Hour o) ∷ rest ≡ book.rows → o.period ≡ t → length (steps_in o.period front) ≡ i
    → IsExecuted (problem_of book) sel t i volume
    → gain_of (problem_of book) sel (prices_of periods) executions (AtHour o.period (length (steps_in o.period front)))
    ≡ order_surplus (price_in periods o.period) (step_of o) volume
hour_gains laws book sel periods executions front key o rest t i volume day whole period place is =
    let at = stands_executed laws book sel executions front key o rest t i volume day.best whole period place is in
    gain_in_period (blocks_in book.rows) sel 1 (prices_of periods) (hours_from 1 book.periods book.rows) executions (o.period - 1)
    (length (steps_in o.period front)) at.steps at.volumes (step_of o) volume
    (prices_are (blocks_in book.rows) sel 1 (hours_from 1 book.periods book.rows) periods day.periods_are) at.hour at.executed at.step at.volume_is

block_gains : (blocks : List Block) (sel : List Bool) (prices : List ℤ) (n i : ℕ) (accepted : Bool) (surplus : ℤ) → n ≡ i
    → accepted ≡ accepts sel i → HasSurplus blocks prices i surplus
    → cond (accepts sel n) (surplus_at blocks prices n) (pos 0) ≡ cond accepted surplus (pos 0)
block_gains blocks sel prices n i accepted surplus place acc has =
    let own : surplus_at blocks prices i ≡ surplus =
    ap (λ (o : Option Block). unwrap_or (option_map (λ b. surplus_of prices b.order) o) (pos 0)) has.stands ∙ sym has.surplus_is in
    ap (λ (m : ℕ). cond (accepts sel m) (surplus_at blocks prices m) (pos 0)) place
    ∙ ap₂ (λ (b : Bool) (z : ℤ). cond b z (pos 0)) (sym acc) own

rows_gain : AddingLaws → (book : BookState) (sel : List Bool) (periods : List PeriodResult) (executions : List (List ℕ)) (front rest : List Row)
    (results : List RowResult) → IsDay book sel periods executions → front ++ rest ≡ book.rows
    → AreRowResults (problem_of book) sel (prices_of periods) (rows_after front rest) results
    → over_orders (gain_of (problem_of book) sel (prices_of periods) executions) (rows_after front rest) ≡ published_gains periods rest results
rows_gain laws book sel periods executions front [] [] day whole are = refl
rows_gain laws book sel periods executions front [] (r ∷ results) day whole are = absurd are
rows_gain laws book sel periods executions front (row ∷ rest) [] day whole are = absurd are
rows_gain laws book sel periods executions front ((key, Hour o) ∷ rest) (HourResult who name executed ∷ results) day whole are =
    let is = are.0.2 in
    let same = same_hour o.period (length (steps_in o.period front)) is.0 is.1 is.2 in
    ap₂ (λ (x y : ℤ). x +ℤ y)
    (hour_gains laws book sel periods executions front key o rest is.0 is.1 executed day whole same.0 same.1 is.3)
    (rows_gain laws book sel periods executions (front ++ (key, Hour o) ∷ []) rest results day
    (append_assoc front ((key, Hour o) ∷ []) rest ∙ whole) are.1)
rows_gain laws book sel periods executions front ((key, Hour o) ∷ rest) (BlockResult who name accepted surplus ∷ results) day whole are =
    let is = are.0.2 in absurd (hour_no_block o.period (length (steps_in o.period front)) is.0 is.1)
rows_gain laws book sel periods executions front ((key, BlockVariant o) ∷ rest) (HourResult who name executed ∷ results) day whole are =
    let is = are.0.2 in absurd (block_no_hour is.0 is.1 (length (blocks_in front)) is.2)
rows_gain laws book sel periods executions front ((key, BlockVariant o) ∷ rest) (BlockResult who name accepted surplus ∷ results) day whole are =
    let is = are.0.2 in
    ap₂ (λ (x y : ℤ). x +ℤ y)
    (block_gains (blocks_in book.rows) sel (prices_of periods) (length (blocks_in front)) is.0 accepted surplus
    (same_block (length (blocks_in front)) is.0 is.1) is.2 is.3)
    (rows_gain laws book sel periods executions (front ++ (key, BlockVariant o) ∷ []) rest results day
    (append_assoc front ((key, BlockVariant o) ∷ []) rest ∙ whole) are.1)

pub welfare_adds_up : AddingLaws → (book : BookState) (welfare : ℕ) (periods : List PeriodResult) (rows : List RowResult) → IsBook book
    → IsClearing book welfare periods rows → pos welfare ≡ published_gains periods book.rows rows
welfare_adds_up laws book welfare periods rows is clearing =
    let published = clearing.published in
    let sel = clearing.selection in
    let hours = hours_from 1 book.periods book.rows in
    let blocks = blocks_in book.rows in
    let executions = executions_are blocks sel 1 hours periods published.periods_are in
    let day : IsDay book sel periods executions.0 = record { periods_are = published.periods_are; best = executions.1 } in
    let outcome : IsOutcome (problem_of book) sel (prices_of periods) executions.0 =
    record { prices_are = prices_are blocks sel 1 hours periods published.periods_are; executions_are = executions.1 } in
    same_Some (pos welfare) (published_gains periods book.rows rows)
    (sym published.welfare_is
    ∙ laws.shared (problem_of book) sel (prices_of periods) executions.0 (laws.problem book is clearing.closed) outcome
    ∙ ap (λ (z : ℤ). Some z) (rows_gain laws book sel periods executions.0 [] book.rows rows day refl published.rows_are))

-- ---- the volumes of a period
abbrev where_true : Bool → ℤ → ℤ
where_true true x = x
where_true false x = pos 0

no_selection : (f : BlockTerms → ℤ) (bs : List Block) → over_accepted f bs [] ≡ pos 0
no_selection f [] = refl
no_selection f (b ∷ bs) = refl

-- the sum over the accepted blocks, one after another
next_block : (f : BlockTerms → ℤ) (b : Block) (bs : List Block) (n : ℕ) (sel : List Bool)
    → over_accepted f (b ∷ bs) (drop n sel) ≡ where_true (accepts sel n) (f b.order) +ℤ over_accepted f bs (drop (suc n) sel)
next_block f b bs zero [] = let none = no_selection f bs in omega (arith, ints, none)
next_block f b bs (suc n) [] = let none = no_selection f bs in omega (arith, ints, none)
next_block f b bs zero (true ∷ sel) = refl
next_block f b bs zero (false ∷ sel) = omega (arith, ints)
next_block f b bs (suc n) (a ∷ sel) = next_block f b bs n sel

drop_at : {A : Type 0} (xs : List A) (n : ℕ) (x : A) → slice_get xs n ≡ Some x → drop n xs ≡ x ∷ drop (suc n) xs
drop_at [] n x e = absurd (cc)
drop_at {A = A} (y ∷ xs) zero x e = ap (λ (z : A). z ∷ xs) (same_Some y x e)
drop_at (y ∷ xs) (suc n) x e = drop_at xs n x e

-- the rest of a period from the orders in front on
abbrev rest_executed : Side → List Step → List ℕ → ℕ → ℕ
rest_executed side ss xs n = executed_volume side (drop n ss) (drop n xs)

next_order : (side : Side) (ss : List Step) (xs : List ℕ) (n : ℕ) (s : Step) (x : ℕ) → slice_get ss n ≡ Some s → slice_get xs n ≡ Some x
    → rest_executed side ss xs n ≡ volume_on side s.side x + rest_executed side ss xs (suc n)
next_order side ss xs n s x e f = ap₂ (λ (ts : List Step) (ys : List ℕ). executed_volume side ts ys) (drop_at ss n s e) (drop_at xs n x f)

-- the period t of a day as published
record IsPeriodOf (book : BookState) (t : ℕ) (executions : List (List ℕ)) (ss : List Step) (xs : List ℕ) : Type 0 where
  from_one : 1 ≤ t
  hour : slice_get (hours_from 1 book.periods book.rows) (t - 1) ≡ Some ss
  steps_are : ss ≡ steps_in t book.rows
  executed : slice_get executions (t - 1) ≡ Some xs

one_more_here : (front : List Row) (key : Key) (o : HourTerms)
    → length (steps_in o.period (front ++ (key, Hour o) ∷ [])) ≡ suc (length (steps_in o.period front))
one_more_here front key o =
    let parts = ap (λ (ss : List Step). length ss) (steps_split o.period front ((key, Hour o) ∷ [])) in
    let own = ap (λ (ss : List Step). length ss) (own_steps key o []) in
    let sum = length-append (steps_in o.period front) (steps_in o.period ((key, Hour o) ∷ [])) in
    omega (arith, own, parts, sum)

none_more_elsewhere : (front : List Row) (key : Key) (o : HourTerms) (t : ℕ) → (o.period == t) ≡ false
    → length (steps_in t (front ++ (key, Hour o) ∷ [])) ≡ length (steps_in t front)
none_more_elsewhere front key o t apart =
    let parts = ap (λ (ss : List Step). length ss) (steps_split t front ((key, Hour o) ∷ [])) in
    let none : steps_in t ((key, Hour o) ∷ []) ≡ [] = ap (λ (b : Bool). cons_option (cond b (Some (step_of o)) None) []) apart in
    let own = ap (λ (ss : List Step). length ss) none in
    let sum = length-append (steps_in t front) (steps_in t ((key, Hour o) ∷ [])) in
    omega (arith, own, parts, sum)

none_more_of_block : (front : List Row) (key : Key) (o : BlockTerms) (t : ℕ)
    → length (steps_in t (front ++ (key, BlockVariant o) ∷ [])) ≡ length (steps_in t front)
none_more_of_block front key o t =
    let parts = ap (λ (ss : List Step). length ss) (steps_split t front ((key, BlockVariant o) ∷ [])) in
    let sum = length-append (steps_in t front) [] in
    omega (arith, parts, sum)

no_more_blocks : (front : List Row) (key : Key) (o : HourTerms) → length (blocks_in (front ++ (key, Hour o) ∷ [])) ≡ length (blocks_in front)
no_more_blocks front key o = ap length (blocks_split front ((key, Hour o) ∷ []) ∙ append-nil (blocks_in front))

one_more_block : (front : List Row) (key : Key) (o : BlockTerms)
    → length (blocks_in (front ++ (key, BlockVariant o) ∷ [])) ≡ suc (length (blocks_in front))
one_more_block front key o =
    let b : Block = record { who = key.0; name = key.1; order = o } in
    let parts = ap (λ (bs : List Block). length bs) (blocks_split front ((key, BlockVariant o) ∷ [])) in
    let sum = length-append (blocks_in front) (b ∷ []) in
    omega (arith, parts, sum)

-- an hourly order's part
hour_part : AddingLaws → (side : Side) (book : BookState) (sel : List Bool) (periods : List PeriodResult) (executions : List (List ℕ)) (t : ℕ)
    (ss : List Step) (xs : List ℕ) (front : List Row) (key : Key) (o : HourTerms) (rest : List Row) (u i volume : ℕ) (b : Bool)
    → IsDay book sel periods executions → IsPeriodOf book t executions ss xs → front ++ (key, Hour o) ∷ rest ≡ book.rows → o.period ≡ u
    → length (steps_in o.period front) ≡ i → IsExecuted (problem_of book) sel u i volume → (o.period == t) ≡ b
    → rest_executed side ss xs (length (steps_in t front))
    ≡ cond b (volume_on side o.side volume) 0 + rest_executed side ss xs (length (steps_in t (front ++ (key, Hour o) ∷ [])))
hour_part laws side book sel periods executions t ss xs front key o rest u i volume true day period whole own place is test =
    let same : o.period ≡ t = eqb-true o.period t test in
    let at = stands_executed laws book sel executions front key o rest u i volume day.best whole own place is in
    let steps : at.steps ≡ ss =
    same_Some at.steps ss (sym at.hour ∙ ap (λ (n : ℕ). slice_get (hours_from 1 book.periods book.rows) (n - 1)) same ∙ period.hour) in
    let volumes : at.volumes ≡ xs =
    same_Some at.volumes xs (sym at.executed ∙ ap (λ (n : ℕ). slice_get executions (n - 1)) same ∙ period.executed) in
    let n : length (steps_in t front) ≡ length (steps_in o.period front) = ap (λ (m : ℕ). length (steps_in m front)) (sym same) in
    let first = next_order side ss xs (length (steps_in o.period front)) (step_of o) volume
    (ap (λ (ts : List Step). slice_get ts (length (steps_in o.period front))) (sym steps) ∙ at.step)
    (ap (λ (ys : List ℕ). slice_get ys (length (steps_in o.period front))) (sym volumes) ∙ at.volume_is) in
    let later : suc (length (steps_in o.period front)) ≡ length (steps_in t (front ++ (key, Hour o) ∷ [])) =
    sym (one_more_here front key o) ∙ ap (λ (m : ℕ). length (steps_in m (front ++ (key, Hour o) ∷ []))) same in
    ap (λ (m : ℕ). rest_executed side ss xs m) n ∙ first
    ∙ ap (λ (m : ℕ). volume_on side o.side volume + rest_executed side ss xs m) later
hour_part laws side book sel periods executions t ss xs front key o rest u i volume false day period whole own place is test =
    ap (λ (m : ℕ). rest_executed side ss xs m) (sym (none_more_elsewhere front key o t test)) ∙ (omega arith)

-- a block's part
block_part : (side : Side) (t n i : ℕ) (o : BlockTerms) (sel : List Bool) (accepted : Bool) → n ≡ i → accepted ≡ accepts sel i
    → where_true (accepts sel n) (block_volume_of side t o) ≡ pos (cond accepted (volume_on side o.side (volume_in o.volumes t)) 0)
block_part side t n i o sel accepted place acc =
    ap (λ (m : ℕ). where_true (accepts sel m) (block_volume_of side t o)) place
    ∙ ap (λ (b : Bool). where_true b (block_volume_of side t o)) (sym acc)
    ∙ by_decision accepted (volume_on side o.side (volume_in o.volumes t))
  where
    by_decision : (b : Bool) (x : ℕ) → where_true b (pos x) ≡ pos (cond b x 0)
    by_decision true x = refl
    by_decision false x = refl

rows_trade : AddingLaws → (side : Side) (book : BookState) (sel : List Bool) (periods : List PeriodResult) (executions : List (List ℕ)) (t : ℕ)
    (ss : List Step) (xs : List ℕ) (front rest : List Row) (results : List RowResult) → IsDay book sel periods executions
    → IsPeriodOf book t executions ss xs → front ++ rest ≡ book.rows
    → AreRowResults (problem_of book) sel (prices_of periods) (rows_after front rest) results
    → pos (published_trades side t rest results)
    ≡ pos (rest_executed side ss xs (length (steps_in t front)))
    +ℤ over_accepted (block_volume_of side t) (blocks_in rest) (drop (length (blocks_in front)) sel)
rows_trade laws side book sel periods executions t ss xs front [] [] day period whole are =
    let all : steps_in t front ≡ ss = ap (λ (rows : List Row). steps_in t rows) (sym (append-nil front) ∙ whole) ∙ sym period.steps_are in
    let past = drop_all (length (steps_in t front)) ss (let long = ap (λ (ts : List Step). length ts) all in omega (arith, long)) in
    let none = ap (λ (ts : List Step). executed_volume side ts (drop (length (steps_in t front)) xs)) past in
    omega (arith, ints, none)
rows_trade laws side book sel periods executions t ss xs front [] (r ∷ results) day period whole are = absurd are
rows_trade laws side book sel periods executions t ss xs front (row ∷ rest) [] day period whole are = absurd are
rows_trade laws side book sel periods executions t ss xs front ((key, Hour o) ∷ rest) (HourResult who name executed ∷ results) day period whole
    are =
    let is = are.0.2 in
    let same = same_hour o.period (length (steps_in o.period front)) is.0 is.1 is.2 in
    let later = rows_trade laws side book sel periods executions t ss xs (front ++ (key, Hour o) ∷ []) rest results day period
    (append_assoc front ((key, Hour o) ∷ []) rest ∙ whole) are.1 in
    let here = hour_part laws side book sel periods executions t ss xs front key o rest is.0 is.1 executed (o.period == t) day period whole
    same.0 same.1 is.3 refl in
    let blocks = ap (λ (n : ℕ). over_accepted (block_volume_of side t) (blocks_in rest) (drop n sel)) (no_more_blocks front key o) in
    omega (arith, ints, later, here, blocks)
rows_trade laws side book sel periods executions t ss xs front ((key, Hour o) ∷ rest) (BlockResult who name accepted surplus ∷ results) day
    period whole are =
    let is = are.0.2 in absurd (hour_no_block o.period (length (steps_in o.period front)) is.0 is.1)
rows_trade laws side book sel periods executions t ss xs front ((key, BlockVariant o) ∷ rest) (HourResult who name executed ∷ results) day
    period whole are =
    let is = are.0.2 in absurd (block_no_hour is.0 is.1 (length (blocks_in front)) is.2)
rows_trade laws side book sel periods executions t ss xs front ((key, BlockVariant o) ∷ rest) (BlockResult who name accepted surplus ∷ results)
    day period whole are =
    let is = are.0.2 in
    let b : Block = record { who = key.0; name = key.1; order = o } in
    let n = length (blocks_in front) in
    let later = rows_trade laws side book sel periods executions t ss xs (front ++ (key, BlockVariant o) ∷ []) rest results day period
    (append_assoc front ((key, BlockVariant o) ∷ []) rest ∙ whole) are.1 in
    let here = next_block (block_volume_of side t) b (blocks_in rest) n sel in
    let part = block_part side t n is.0 o sel accepted (same_block n is.0 is.1) is.2 in
    let blocks = ap (λ (m : ℕ). over_accepted (block_volume_of side t) (blocks_in rest) (drop m sel)) (one_more_block front key o) in
    let hours = ap (λ (m : ℕ). rest_executed side ss xs m) (none_more_of_block front key o t) in
    omega (arith, ints, later, here, part, blocks, hours)

side_adds_up : AddingLaws → (side : Side) (book : BookState) (sel : List Bool) (periods : List PeriodResult) (executions : List (List ℕ)) (t : ℕ)
    (ss : List Step) (xs : List ℕ) (results : List RowResult) → IsDay book sel periods executions → IsPeriodOf book t executions ss xs
    → AreRowResults (problem_of book) sel (prices_of periods) (rows_after [] book.rows) results
    → pos (published_trades side t book.rows results) ≡ traded side (blocks_in book.rows) sel t ss xs
side_adds_up laws side book sel periods executions t ss xs results day period are =
    rows_trade laws side book sel periods executions t ss xs [] book.rows results day period refl are

-- the traded volume of the published lines is the traded volume of the selection and the best
-- execution
pub traded_is : AddingLaws → (book : BookState) (welfare : ℕ) (periods : List PeriodResult) (rows : List RowResult)
    (clearing : IsClearing book welfare periods rows) (k : ℕ) (ss : List Step) (side : Side)
    → slice_get (hours_from 1 book.periods book.rows) k ≡ Some ss
    → (xs : List ℕ) × IsBest ss (net_volume (blocks_in book.rows) clearing.selection (k + 1)) xs
    × (pos (published_trades side (k + 1) book.rows rows) ≡ traded side (blocks_in book.rows) clearing.selection (k + 1) ss xs)
traded_is laws book welfare periods rows clearing k ss side at =
    let published = clearing.published in
    let sel = clearing.selection in
    let hours = hours_from 1 book.periods book.rows in
    let blocks = blocks_in book.rows in
    let executions = executions_are blocks sel 1 hours periods published.periods_are in
    let day : IsDay book sel periods executions.0 = record { periods_are = published.periods_are; best = executions.1 } in
    let own = best_at blocks sel 1 k hours executions.0 ss executions.1 at in
    let back : k ≡ (k + 1) - 1 = omega arith in
    let there : IsPeriodOf book (k + 1) executions.0 ss own.0 = record {
      from_one = omega arith;
      hour = ap (λ (n : ℕ). slice_get hours n) (sym back) ∙ at;
      steps_are = hour_is 1 book.periods k book.rows ss at;
      executed = ap (λ (n : ℕ). slice_get executions.0 n) (sym back) ∙ own.1;
    } in
    (own.0, own.2, side_adds_up laws side book sel periods executions.0 (k + 1) ss own.0 rows day there published.rows_are)

both_sides : (bought sold volume : ℕ) (b s : ℤ) → pos bought ≡ b → pos sold ≡ s → b ≡ s → pos volume ≡ b
    → (bought ≡ volume) × (sold ≡ volume)
both_sides bought sold volume b s e f g h = (omega (arith, ints, e, f, g, h), omega (arith, ints, e, f, g, h))

pub volume_adds_up : AddingLaws → (book : BookState) (welfare : ℕ) (periods : List PeriodResult) (rows : List RowResult) (k : ℕ)
    (period : PeriodResult) → IsBook book → IsClearing book welfare periods rows → slice_get periods k ≡ Some period
    → (published_trades Buy (k + 1) book.rows rows ≡ period.volume) × (published_trades Sell (k + 1) book.rows rows ≡ period.volume)
volume_adds_up laws book welfare periods rows k period is clearing at =
    let sel = clearing.selection in
    let blocks = blocks_in book.rows in
    let t = k + 1 in
    let found = period_at blocks sel 1 k (hours_from 1 book.periods book.rows) periods period clearing.published.periods_are at in
    let ss = found.0 in
    let xs = found.2.executed in
    let best = found.2.best in
    let buys = traded_is laws book welfare periods rows clearing k ss Buy found.1 in
    let sells = traded_is laws book welfare periods rows clearing k ss Sell found.1 in
    both_sides (published_trades Buy t book.rows rows) (published_trades Sell t book.rows rows) period.volume (traded Buy blocks sel t ss xs)
    (traded Sell blocks sel t ss xs)
    (buys.2 ∙ ap (λ (ys : List ℕ). traded Buy blocks sel t ss ys) (laws.best ss (net_volume blocks sel t) buys.0 xs buys.1 best))
    (sells.2 ∙ ap (λ (ys : List ℕ). traded Sell blocks sel t ss ys) (laws.best ss (net_volume blocks sel t) sells.0 xs sells.1 best))
    (laws.balance blocks sel t ss xs best) found.2.volume
