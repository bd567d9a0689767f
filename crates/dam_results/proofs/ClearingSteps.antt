-- Clearing the periods and going through the rows, one by one.
use Rattle.std.proofs.Common.{◌≡◌, ℕ, zero, suc, ◌+◌, ◌-◌, ◌<◌, ◌≤◌, ℤ, pos, Bool, true, Option, Some, None, List, [], ◌∷◌, ◌++◌, length}
use Rattle.std.proofs.Common.{get_or, take, ap, ◌∙◌, sym, subst, refl, arith}
use Rattle.std.specs.List.{slice_get}
use Rattle.std.specs.Option.{option_and_then, MatchOption}
use Rattle.std.proofs.lemmas.Int.{ints}
use Rattle.std.proofs.lemmas.List.{take_more, length-take, length-map, map-append}
use Rattle.std.proofs.lemmas.Option.{slice_get_within, slice_get-get_or, get_or_from_slice_get, none-some, same_Some}
use Rattle.dam_book.specs.Limits.{last_period}
use Rattle.dam_book.specs.Book.{is_day}
use Rattle.dam_hour.specs.Execution.{IsExecution, IsBalanced}
use Rattle.dam_hour.specs.Price.{AreEnds, price_between}
use Rattle.dam_hour.specs.Best.{IsBest, AreBestTotals}
use Rattle.dam_hour.specs.declared.step.Step.{Step}
use Rattle.dam_blocks.specs.declared.problem.Block.{Block}
use Rattle.dam_blocks.specs.declared.problem.Place.{Place}
use Rattle.dam_blocks.specs.declared.problem.Place.TheVariants.{Hour as AtHour, Block as AtBlock}
use Rattle.dam_blocks.specs.declared.problem.ProblemRow.{ProblemRow}
use Rattle.dam_blocks.specs.Problem.{ProblemState, StandsAt}
use Rattle.dam_blocks.specs.Selection.{net_volume, bought_volume}
use Rattle.dam_blocks.specs.Eligible.{IsClearingPrice, ArePrices, IsEligible}
use Rattle.dam_blocks.specs.Market.{AreBestExecutions}
use Rattle.dam_results.specs.declared.published.PeriodResult.{PeriodResult}
use Rattle.dam_results.specs.declared.published.RowResult.{RowResult}
use Rattle.dam_results.specs.Published.{IsPeriodResult, ArePeriodResults, prices_of, IsExecuted, IsRowResult, AreRowResults}
use Rattle.dam_results.specs.inside.Cleared.{IsBalancedIn, IsCleared, AreCleared, volume_at}
use Rattle.dam_results.proofs.Places.{best_at}
use Rattle.dam_results.proofs.Rules.{short_day}

take_at : {X : Type 0} (xs : List X) (i : ℕ) (x : X) → slice_get xs i ≡ Some x → take (i + 1) xs ≡ take i xs ++ x ∷ []
take_at xs i x e = take_more xs i x (slice_get_within xs i x e) ∙ ap (λ (y : _). take i xs ++ y ∷ []) (get_or_from_slice_get xs i x x e)

-- ---- each period of an eligible selection balances
balanced_at : (blocks : List Block) (sel : List Bool) (t k : ℕ) (hours : List (List Step)) (prices : List ℤ)
    → ArePrices blocks sel t hours prices → k < length hours
    → (ss : List Step) × (slice_get hours k ≡ Some ss) × IsBalanced ss (net_volume blocks sel (t + k))
balanced_at blocks sel t k [] prices are l = absurd (omega (arith, l))
balanced_at blocks sel t k (ss ∷ hours) [] are l = absurd are
balanced_at blocks sel t zero (ss ∷ hours) (p ∷ prices) are l =
    let low = are.0.ends.low_supports in
    let at : t ≡ t + 0 = omega arith in
    (ss, refl, subst (λ (n : ℕ). IsBalanced ss (net_volume blocks sel n)) at (low.volumes, low.execution, low.balance))
balanced_at blocks sel t (suc k) (ss ∷ hours) (p ∷ prices) are l =
    let rest = balanced_at blocks sel (suc t) k hours prices are.1 (omega (arith, l)) in
    let at : suc t + k ≡ t + suc k = omega arith in
    (rest.0, rest.1, subst (λ (n : ℕ). IsBalanced rest.0 (net_volume blocks sel n)) at rest.2)

pub balanced_in : (problem : ProblemState) (sel : List Bool) (welfare : ℤ) (k t : ℕ) → IsEligible problem sel welfare
    → k < length problem.hours → t ≡ k + 1
    → IsBalancedIn problem sel t
balanced_in problem sel welfare k t eligible l e =
    let here = balanced_at problem.blocks sel 1 k problem.hours eligible.prices eligible.are_prices l in
    let back : k ≡ t - 1 = omega (arith, e) in
    let at : 1 + k ≡ t = omega (arith, e) in
    record {
      hour = here.0;
      stands = subst (λ (n : ℕ). slice_get problem.hours n ≡ Some here.0) back here.1;
      balanced = subst (λ (n : ℕ). IsBalanced here.0 (net_volume problem.blocks sel n)) at here.2;
    }

-- ---- a period
pub period_cleared : (problem : ProblemState) (sel : List Bool) (t bought sold blocks : ℕ) (ss : List Step) (net low high price welfare : ℤ)
    (executed : List ℕ)
    → slice_get problem.hours (t - 1) ≡ Some ss → net ≡ net_volume problem.blocks sel t → AreEnds ss net low high
    → price ≡ price_between low high
    → AreBestTotals ss net bought sold welfare → IsBest ss net executed → pos blocks ≡ bought_volume problem.blocks sel t
    → IsCleared problem sel t (record { price = price; volume = bought + blocks }) executed
period_cleared problem sel t bought sold blocks ss net low high price welfare executed stands net_is ends between totals best blocks_is =
    let is = totals.bought_is in
    record {
      hour = ss;
      stands = stands;
      result = record {
        price = subst (λ (z : ℤ). IsClearingPrice ss z price) net_is (record { low = low; high = high; ends = ends; between = between });
        executed = totals.volumes;
        best = subst (λ (z : ℤ). IsBest ss z totals.volumes) net_is totals.best;
        volume = omega (arith, ints, is, blocks_is);
      };
      best = subst (λ (z : ℤ). IsBest ss z executed) net_is best;
    }

-- ---- a period more
periods_push : (blocks : List Block) (sel : List Bool) (t n : ℕ) (hours : List (List Step)) (rs : List PeriodResult) (ss : List Step)
    (r : PeriodResult)
    → n ≡ t + length hours → ArePeriodResults blocks sel t hours rs → IsPeriodResult blocks sel n ss r → ArePeriodResults blocks sel t
    (hours ++ ss ∷ []) (rs ++ r ∷ [])
periods_push blocks sel t n [] [] ss r e all one = let same : n ≡ t = omega (arith, e) in
    (subst (λ (m : ℕ). IsPeriodResult blocks sel m ss r) same one, tt)
periods_push blocks sel t n [] (q ∷ rs) ss r e all one = absurd all
periods_push blocks sel t n (h ∷ hours) [] ss r e all one = absurd all
periods_push blocks sel t n (h ∷ hours) (q ∷ rs) ss r e all one =
    (all.0, periods_push blocks sel (suc t) n hours rs ss r (omega (arith, e)) all.1 one)

best_push : (blocks : List Block) (sel : List Bool) (t n : ℕ) (hours : List (List Step)) (rs : List (List ℕ)) (ss : List Step) (r : List ℕ)
    → n ≡ t + length hours → AreBestExecutions blocks sel t hours rs → IsBest ss (net_volume blocks sel n) r → AreBestExecutions blocks sel t (hours ++ ss ∷ [])
    (rs ++ r ∷ [])
best_push blocks sel t n [] [] ss r e all one = let same : n ≡ t = omega (arith, e) in
    (subst (λ (m : ℕ). IsBest ss (net_volume blocks sel m) r) same one, tt)
best_push blocks sel t n [] (q ∷ rs) ss r e all one = absurd all
best_push blocks sel t n (h ∷ hours) [] ss r e all one = absurd all
best_push blocks sel t n (h ∷ hours) (q ∷ rs) ss r e all one =
    (all.0, best_push blocks sel (suc t) n hours rs ss r (omega (arith, e)) all.1 one)

pub cleared_more : (problem : ProblemState) (sel : List Bool) (place t : ℕ) (periods periods' : List PeriodResult) (prices prices' : List ℤ)
    (executions executions' : List (List ℕ))
    (published : PeriodResult) (executed : List ℕ) → t ≡ place + 1 → IsCleared problem sel t published executed
    → periods' ≡ periods ++ published ∷ [] → prices' ≡ prices ++ published.price ∷ [] → executions' ≡ executions ++ executed ∷ []
    → AreCleared problem.blocks sel (take place problem.hours) periods prices executions → AreCleared problem.blocks sel
    (take (place + 1) problem.hours) periods' prices' executions'
cleared_more problem sel place t periods periods' prices prices' executions executions' published executed e one es ps xs so_far =
    let back : t - 1 ≡ place = omega (arith, e) in
    let stands : slice_get problem.hours place ≡ Some one.hour = subst
    (λ (n : ℕ). slice_get problem.hours n ≡ Some one.hour) back one.stands in
    let within = slice_get_within problem.hours place one.hour stands in
    let long = length-take place problem.hours in
    let number : t ≡ 1 + length (take place problem.hours) = omega (arith, e, within, long) in
    let hours = take_at problem.hours place one.hour stands in
    record {
      are_periods = subst (λ (hs : List (List Step)). ArePeriodResults problem.blocks sel 1 hs periods') (sym hours)
          (subst (λ (rs : List PeriodResult). ArePeriodResults problem.blocks sel 1 (take place problem.hours ++ one.hour ∷ []) rs) (sym es)
          (periods_push problem.blocks sel 1 t (take place problem.hours) periods one.hour published number so_far.are_periods one.result));
      are_prices = ps ∙ ap (λ (zs : List ℤ). zs ++ published.price ∷ []) so_far.are_prices ∙ sym
          (map-append (λ (r : PeriodResult). r.price) periods (published ∷ []))
          ∙ ap prices_of (sym es);
      are_best = subst (λ (hs : List (List Step)). AreBestExecutions problem.blocks sel 1 hs executions') (sym hours)
          (subst (λ (rs : List (List ℕ)). AreBestExecutions problem.blocks sel 1 (take place problem.hours ++ one.hour ∷ []) rs) (sym xs)
          (best_push problem.blocks sel 1 t (take place problem.hours) executions one.hour executed number so_far.are_best one.best));
    }

-- ---- facts of a cleared day
long_as : (ss : List Step) (xs : List ℕ) → IsExecution ss xs → length xs ≡ length ss
long_as [] [] is = refl
long_as [] (x ∷ xs) is = absurd is
long_as (s ∷ ss) [] is = absurd is
long_as (s ∷ ss) (x ∷ xs) is = ap (λ (n : ℕ). suc n) (long_as ss xs is.1)

-- the hourly order has a volume
volume_found : (problem : ProblemState) (sel : List Bool) (t i : ℕ) (executions : List (List ℕ)) (hour : List Step)
    → AreBestExecutions problem.blocks sel 1 problem.hours executions
    → slice_get problem.hours (t - 1) ≡ Some hour → 1 ≤ t → i < length hour → (v : ℕ) × (volume_at executions (t - 1) i ≡ Some v)
    × IsExecuted problem sel t i v
volume_found problem sel t i executions hour are stands least within =
    let found = best_at problem.blocks sel 1 (t - 1) problem.hours executions hour are stands in
    let number : (t - 1) + 1 ≡ t = omega (arith, least) in
    let best = subst (λ (n : ℕ). IsBest hour (net_volume problem.blocks sel n) found.0) number found.2 in
    let long = long_as hour found.0 best.execution in
    let volume = slice_get-get_or found.0 i 0 (omega (arith, long, within)) in (
      get_or found.0 i 0,
      ap (λ (o : Option (List ℕ)). option_and_then (λ (xs : List ℕ). slice_get xs i) o) found.1 ∙ volume,
      record {
        from_one = least;
        hour = hour;
        stands = stands;
        executed = found.0;
        best = best;
        volume_is = volume;
      },
    )

found_volume : (problem : ProblemState) (sel : List Bool) (t i w : ℕ) (o : Option ℕ) → o ≡ Some w → IsExecuted problem sel t i w
    → MatchOption o ⊥ (IsExecuted problem sel t i)
found_volume problem sel t i w None is executed = none-some w is
found_volume problem sel t i w (Some v) is executed = subst (λ (n : ℕ). IsExecuted problem sel t i n) (sym (same_Some v w is)) executed

pub executed_at : (problem : ProblemState) (sel : List Bool) (t i : ℕ) (executions : List (List ℕ)) (row : ProblemRow) (o : Option ℕ)
    → row.at ≡ AtHour t i → StandsAt problem row row.at
    → AreBestExecutions problem.blocks sel 1 problem.hours executions → o ≡ volume_at executions (t - 1) i → MatchOption o ⊥
    (IsExecuted problem sel t i)
executed_at problem sel t i executions row o at stands are is =
    let there = subst (λ (p : Place). StandsAt problem row p) at stands in
    let found = volume_found problem sel t i executions there.0 are there.1 there.2 there.3 in
    found_volume problem sel t i found.0 o (is ∙ found.1) found.2

pub block_at : (problem : ProblemState) (i : ℕ) (row : ProblemRow) → row.at ≡ AtBlock i → StandsAt problem row row.at
    → i < length problem.blocks
block_at problem i row at stands =
    let there = subst (λ (p : Place). StandsAt problem row p) at stands in
    slice_get_within problem.blocks i there.0 there.1

periods_long : (blocks : List Block) (sel : List Bool) (t : ℕ) (hours : List (List Step)) (rs : List PeriodResult)
    → ArePeriodResults blocks sel t hours rs → length rs ≡ length hours
periods_long blocks sel t [] [] are = refl
periods_long blocks sel t [] (r ∷ rs) are = absurd are
periods_long blocks sel t (h ∷ hours) [] are = absurd are
periods_long blocks sel t (h ∷ hours) (r ∷ rs) are = ap (λ (n : ℕ). suc n) (periods_long blocks sel (suc t) hours rs are.1)

pub few_prices : (blocks : List Block) (sel : List Bool) (hours : List (List Step)) (periods : List PeriodResult) (prices : List ℤ)
    (executions : List (List ℕ))
    → is_day (length hours) ≡ true → AreCleared blocks sel hours periods prices executions → length prices ≤ last_period
few_prices blocks sel hours periods prices executions day cleared =
    let few = short_day (length hours) day in
    let long = periods_long blocks sel 1 hours periods cleared.are_periods in
    let same = ap length cleared.are_prices ∙ length-map periods (λ (r : PeriodResult). r.price) in
    omega (arith, few, long, same)

-- ---- a row more
pub rows_push : (problem : ProblemState) (sel : List Bool) (prices : List ℤ) (rows : List ProblemRow) (rs : List RowResult)
    (row : ProblemRow) (r : RowResult)
    → AreRowResults problem sel prices rows rs → IsRowResult problem sel prices row r → AreRowResults problem sel prices (rows ++ row ∷ [])
    (rs ++ r ∷ [])
rows_push problem sel prices [] [] row r all one = (one, tt)
rows_push problem sel prices [] (q ∷ rs) row r all one = absurd all
rows_push problem sel prices (p ∷ rows) [] row r all one = absurd all
rows_push problem sel prices (p ∷ rows) (q ∷ rs) row r all one = (all.0, rows_push problem sel prices rows rs row r all.1 one)

pub rows_more : (problem : ProblemState) (sel : List Bool) (prices : List ℤ) (rows : List ProblemRow) (place : ℕ) (rs rs' : List RowResult)
    (row : ProblemRow) (r : RowResult)
    → slice_get rows place ≡ Some row → IsRowResult problem sel prices row r → rs' ≡ rs ++ r ∷ []
    → AreRowResults problem sel prices (take place rows) rs → AreRowResults problem sel prices (take (place + 1) rows) rs'
rows_more problem sel prices rows place rs rs' row r at one pushed so_far =
    subst (λ (ps : List ProblemRow). AreRowResults problem sel prices ps rs') (sym (take_at rows place row at))
    (subst (λ (qs : List RowResult). AreRowResults problem sel prices (take place rows ++ row ∷ []) qs) (sym pushed)
    (rows_push problem sel prices (take place rows) rs row r so_far one))
