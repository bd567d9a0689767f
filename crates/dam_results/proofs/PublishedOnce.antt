-- A selection is published in one way: the price of a period and its best execution are the only ones, and each order has one place.
use Rattle.std.proofs.Common.{◌≡◌, ℕ, suc, ℤ, pos, ◌+ℤ◌, Bool, List, [], ◌∷◌, Some, slice_get, ap, ap₂, ◌∙◌, sym, subst, refl, arith}
use Rattle.std.proofs.lemmas.Int.{ints}
use Rattle.std.proofs.lemmas.Option.{same_Some}
use Rattle.dam_book.specs.declared.order.Side.TheVariants.{Buy}
use Rattle.dam_hour.specs.Best.{IsBest}
use Rattle.dam_hour.specs.Execution.{executed_volume}
use Rattle.dam_hour.specs.Price.{AreEnds, price_between}
use Rattle.dam_hour.specs.declared.step.Step.{Step}
use Rattle.dam_blocks.specs.declared.problem.Block.{Block}
use Rattle.dam_blocks.specs.declared.problem.Place.{Place}
use Rattle.dam_blocks.specs.declared.problem.Place.TheVariants.{Hour as AtHour, Block as AtBlock}
use Rattle.dam_blocks.specs.declared.problem.ProblemRow.{ProblemRow}
use Rattle.dam_blocks.specs.Eligible.{IsClearingPrice, surplus_of}
use Rattle.dam_blocks.specs.Problem.{ProblemState}
use Rattle.dam_blocks.specs.Selection.{net_volume, bought_volume}
use Rattle.dam_results.specs.declared.published.PeriodResult.{PeriodResult}
use Rattle.dam_results.specs.declared.published.RowResult.{RowResult}
use Rattle.dam_results.specs.declared.published.RowResult.TheVariants.{Hour as HourResult, Block as BlockResult}
use Rattle.dam_results.specs.Published.{prices_of, IsPeriodResult, ArePeriodResults, IsExecuted, HasSurplus, IsRowResult, AreRowResults}
use Rattle.dam_results.specs.Published.{ArePublished}
use Rattle.dam_results.proofs.Places.{same_hour, same_block}

-- the law of one period
pub record IsOfOne : Type 0 where
  pub ends : (steps : List Step) (net low high other_low other_high : ℤ) → AreEnds steps net low high
      → AreEnds steps net other_low other_high → (low ≡ other_low) × (high ≡ other_high)
  pub best : (steps : List Step) (net : ℤ) (xs ys : List ℕ) → IsBest steps net xs → IsBest steps net ys → xs ≡ ys

price-one : IsOfOne → (ss : List Step) (net p q : ℤ) → IsClearingPrice ss net p → IsClearingPrice ss net q → p ≡ q
price-one law ss net p q a b =
    let same = law.ends ss net a.low a.high b.low b.high a.ends b.ends in
    a.between ∙ ap₂ price_between same.0 same.1 ∙ sym b.between

same_result : (r s : PeriodResult) → r.price ≡ s.price → pos r.volume ≡ pos s.volume → r ≡ s
same_result r s price volume =
    let number : r.volume ≡ s.volume = omega (arith, ints, volume) in
    ap₂ (λ (p : ℤ) (v : ℕ). record { price = p; volume = v }) price number

period-one : IsOfOne → (blocks : List Block) (sel : List Bool) (t : ℕ) (ss : List Step) (r s : PeriodResult)
    → IsPeriodResult blocks sel t ss r → IsPeriodResult blocks sel t ss s → r ≡ s
period-one law blocks sel t ss r s a b =
    let net = net_volume blocks sel t in
    let best = law.best ss net a.executed b.executed a.best b.best in
    same_result r s (price-one law ss net r.price s.price a.price b.price)
    (a.volume ∙ ap (λ xs. pos (executed_volume Buy ss xs) +ℤ bought_volume blocks sel t) best ∙ sym b.volume)

periods-one : IsOfOne → (blocks : List Block) (sel : List Bool) (t : ℕ) (hours : List (List Step)) (rs qs : List PeriodResult)
    → ArePeriodResults blocks sel t hours rs → ArePeriodResults blocks sel t hours qs → rs ≡ qs
periods-one law blocks sel t [] [] [] a b = refl
periods-one law blocks sel t [] [] (q ∷ qs) a b = absurd b
periods-one law blocks sel t [] (r ∷ rs) qs a b = absurd a
periods-one law blocks sel t (ss ∷ hours) [] qs a b = absurd a
periods-one law blocks sel t (ss ∷ hours) (r ∷ rs) [] a b = absurd b
periods-one law blocks sel t (ss ∷ hours) (r ∷ rs) (q ∷ qs) a b =
    ap₂ (λ (x : PeriodResult) (xs : List PeriodResult). x ∷ xs) (period-one law blocks sel t ss r q a.0 b.0)
    (periods-one law blocks sel (suc t) hours rs qs a.1 b.1)

executed-one : IsOfOne → (problem : ProblemState) (sel : List Bool) (t i x y : ℕ) → IsExecuted problem sel t i x
    → IsExecuted problem sel t i y → x ≡ y
executed-one law problem sel t i x y a b =
    let net = net_volume problem.blocks sel t in
    let hour : b.hour ≡ a.hour = same_Some b.hour a.hour (sym b.stands ∙ a.stands) in
    let best : a.executed ≡ b.executed = law.best a.hour net a.executed b.executed a.best
    (subst (λ ss. IsBest ss net b.executed) hour b.best) in
    same_Some x y (sym a.volume_is ∙ ap (λ xs. slice_get xs i) best ∙ b.volume_is)

surplus-one : (blocks : List Block) (prices : List ℤ) (i : ℕ) (x y : ℤ) → HasSurplus blocks prices i x → HasSurplus blocks prices i y
    → x ≡ y
surplus-one blocks prices i x y a b =
    let block : a.block ≡ b.block = same_Some a.block b.block (sym a.stands ∙ b.stands) in
    a.surplus_is ∙ ap (λ (b : Block). surplus_of prices b.order) block ∙ sym b.surplus_is

apart : {A : Type 0} (t i j : ℕ) (at : Place) → at ≡ AtHour t i → at ≡ AtBlock j → A
apart t i j at a b = absurd (cc)

row-one : IsOfOne → (problem : ProblemState) (sel : List Bool) (prices : List ℤ) (row : ProblemRow) (r q : RowResult)
    → IsRowResult problem sel prices row r → IsRowResult problem sel prices row q → r ≡ q
row-one law problem sel prices row (HourResult who name x) (HourResult other called y) a b =
    let place = same_hour a.2.0 a.2.1 b.2.0 b.2.1 (sym a.2.2 ∙ b.2.2) in
    let moved : IsExecuted problem sel b.2.0 b.2.1 x = subst (λ i. IsExecuted problem sel b.2.0 i x) place.1
    (subst (λ t. IsExecuted problem sel t a.2.1 x) place.0 a.2.3) in
    let volume : x ≡ y = executed-one law problem sel b.2.0 b.2.1 x y moved b.2.3 in
    let same : who ≡ other = a.0 ∙ sym b.0 in
    let named : name ≡ called = a.1 ∙ sym b.1 in
    cc
row-one law problem sel prices row (BlockResult who name accepted x) (BlockResult other called rejected y) a b =
    let place : a.2.0 ≡ b.2.0 = same_block a.2.0 b.2.0 (sym a.2.1 ∙ b.2.1) in
    let moved : HasSurplus problem.blocks prices b.2.0 x = subst (λ i. HasSurplus problem.blocks prices i x) place a.2.3 in
    let surplus : x ≡ y = surplus-one problem.blocks prices b.2.0 x y moved b.2.3 in
    let taken : accepted ≡ rejected = cc in
    let same : who ≡ other = a.0 ∙ sym b.0 in
    let named : name ≡ called = a.1 ∙ sym b.1 in
    cc
row-one law problem sel prices row (HourResult who name x) (BlockResult other called rejected y) a b = apart _ _ _ row.at a.2.2 b.2.1
row-one law problem sel prices row (BlockResult who name accepted x) (HourResult other called y) a b = apart _ _ _ row.at b.2.2 a.2.1

rows-one : IsOfOne → (problem : ProblemState) (sel : List Bool) (prices : List ℤ) (rows : List ProblemRow) (rs qs : List RowResult)
    → AreRowResults problem sel prices rows rs → AreRowResults problem sel prices rows qs → rs ≡ qs
rows-one law problem sel prices [] [] [] a b = refl
rows-one law problem sel prices [] [] (q ∷ qs) a b = absurd b
rows-one law problem sel prices [] (r ∷ rs) qs a b = absurd a
rows-one law problem sel prices (row ∷ rows) [] qs a b = absurd a
rows-one law problem sel prices (row ∷ rows) (r ∷ rs) [] a b = absurd b
rows-one law problem sel prices (row ∷ rows) (r ∷ rs) (q ∷ qs) a b =
    ap₂ (λ (x : RowResult) (xs : List RowResult). x ∷ xs) (row-one law problem sel prices row r q a.0 b.0)
    (rows-one law problem sel prices rows rs qs a.1 b.1)

pub published-one : IsOfOne → (problem : ProblemState) (sel : List Bool) (v w : ℕ) (ps qs : List PeriodResult) (rs ss : List RowResult)
    → ArePublished problem sel v ps rs → ArePublished problem sel w qs ss → (v ≡ w) × (ps ≡ qs) × (rs ≡ ss)
published-one law problem sel v w ps qs rs ss a b =
    let periods : ps ≡ qs = periods-one law problem.blocks sel 1 problem.hours ps qs a.periods_are b.periods_are in
    let welfare : pos v ≡ pos w = same_Some (pos v) (pos w) (sym a.welfare_is ∙ b.welfare_is) in (
      omega (arith, ints, welfare),
      periods,
      rows-one law problem sel (prices_of qs) problem.rows rs ss
          (subst (λ xs. AreRowResults problem sel (prices_of xs) problem.rows rs) periods a.rows_are) b.rows_are,
    )
