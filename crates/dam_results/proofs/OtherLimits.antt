-- The published results of a book with a block less, or with another limit for one.
use Rattle.std.proofs.Common.{◌≡◌, ℕ, zero, suc, ◌-◌, ◌<◌, ◌≤◌, ℤ, pos, ◌+ℤ◌, ◌≤ℤ◌, Bool, true, false, Some, List, []}
use Rattle.std.proofs.Common.{◌∷◌, ◌++◌, length, length-append, take, drop, set, append_assoc, ap, ap₂, ◌∙◌, sym, subst, refl, arith}
use Rattle.std.specs.List.{slice_get}
use Rattle.std.proofs.lemmas.Int.{ints}
use Rattle.std.proofs.lemmas.List.{append-nil}
use Rattle.std.proofs.lemmas.Option.{same_Some}
use Rattle.dam_book.specs.Terms.{HourTerms, BlockTerms}
use Rattle.dam_book.specs.Book.{Key, Row, BookState, IsBook}
use Rattle.dam_book.specs.declared.order.Order.{Order}
use Rattle.dam_book.specs.declared.order.Order.TheVariants.{Hour, Block as BlockVariant}
use Rattle.dam_hour.specs.declared.step.Step.{Step}
use Rattle.dam_hour.specs.Price.{IsBetter, IsWorse}
use Rattle.dam_hour.specs.Best.{IsBest}
use Rattle.dam_blocks.specs.declared.problem.Block.{Block}
use Rattle.dam_blocks.specs.declared.problem.Place.{Place}
use Rattle.dam_blocks.specs.declared.problem.Place.TheVariants.{Hour as AtHour, Block as AtBlock}
use Rattle.dam_blocks.specs.declared.problem.ProblemRow.{ProblemRow}
use Rattle.dam_blocks.specs.Problem.{ProblemState, steps_in, blocks_in, place_after, rows_after, problem_of, IsProblem}
use Rattle.dam_blocks.specs.Selection.{accepts, over_accepted, net_volume_of_block, bought_volume_of_block}
use Rattle.dam_blocks.specs.Eligible.{surplus_of}
use Rattle.dam_blocks.specs.Result.{IsResult}
use Rattle.dam_blocks.specs.Changes.{IsWithoutBlock, IsWithLimit, with_limit}
use Rattle.dam_results.specs.declared.published.PeriodResult.{PeriodResult}
use Rattle.dam_results.specs.declared.published.RowResult.{RowResult}
use Rattle.dam_results.specs.declared.published.RowResult.TheVariants.{Hour as HourResult, Block as BlockResult}
use Rattle.dam_results.specs.Published.{prices_of, ArePeriodResults, IsExecuted, HasSurplus, IsRowResult, AreRowResults}
use Rattle.dam_results.specs.Clearing.{IsBestSelection, IsClearing}
use Rattle.dam_results.specs.Market.{IsWithoutRow, IsWithOtherLimit}
use Rattle.dam_results.proofs.Places.{same_block, parted, replaced, blocks_split, steps_split}
use Rattle.dam_results.proofs.Withdrawn.{gone_block, same_periods}

-- ---- a block less
pub record OneMoreLaws : Type 0 where
  pub problem : (book : BookState) → IsBook book → book.closed ≡ true → IsProblem (problem_of book)
  pub result : (problem : ProblemState) (sel : List Bool) (w : ℤ) → IsBestSelection problem sel w → IsResult problem sel w
  pub change : (book other : BookState) (front back : List Row) (key : Key) (order : BlockTerms)
      → book.rows ≡ front ++ (key, BlockVariant order) ∷ back → other.rows ≡ front ++ back → other.periods ≡ book.periods
      → IsWithoutBlock (problem_of book) (problem_of other) (length (blocks_in front)) (gone_block key order)
  pub more : (problem other : ProblemState) (place : ℕ) (block : Block) (sel fewer : List Bool) (welfare less : ℤ) → IsProblem problem
      → IsProblem other → IsWithoutBlock problem other place block → IsResult problem sel welfare → IsResult other fewer less → less ≤ℤ welfare

pub welfare_of_more : OneMoreLaws → (book other : BookState) (place : ℕ) (key : Key) (order : BlockTerms) (welfare less : ℕ)
    (periods days : List PeriodResult) (rows results : List RowResult) → IsBook book → IsBook other → IsWithoutRow book other place
    → slice_get book.rows place ≡ Some (key, BlockVariant order) → IsClearing book welfare periods rows → IsClearing other less days results
    → less ≤ welfare
welfare_of_more laws book other place key order welfare less periods days rows results is is_other change at first second =
    let parts = parted book.rows place (key, BlockVariant order) at in
    let problem = laws.change book other (take place book.rows) (drop (suc place) book.rows) key order parts.0 change.rows change.periods in
    let fewer = laws.more (problem_of book) (problem_of other) (length (blocks_in (take place book.rows))) (gone_block key order) first.selection
    second.selection (pos welfare) (pos less) (laws.problem book is first.closed)
    (laws.problem other is_other (change.closed ∙ first.closed)) problem
    (laws.result (problem_of book) first.selection (pos welfare) first.best)
    (laws.result (problem_of other) second.selection (pos less) second.best) in
    omega (arith, ints, fewer)

-- ---- the line of an order
line_of : (problem : ProblemState) (sel : List Bool) (prices : List ℤ) (done front back : List Row) (r : Row) (results : List RowResult)
    → AreRowResults problem sel prices (rows_after done (front ++ r ∷ back)) results
    → (x : RowResult) × (slice_get results (length front) ≡ Some x)
    × IsRowResult problem sel prices (record { who = r.0.0; name = r.0.1; at = place_after (done ++ front) r.1 }) x
line_of problem sel prices done [] back r [] are = absurd are
line_of problem sel prices done [] back r (x ∷ results) are = (
  x,
  refl,
  subst (λ (rows : List Row). IsRowResult problem sel prices (record { who = r.0.0; name = r.0.1; at = place_after rows r.1 }) x)
      (sym (append-nil done)) are.0,
)
line_of problem sel prices done (s ∷ front) back r [] are = absurd are
line_of problem sel prices done (s ∷ front) back r (x ∷ results) are =
    let rest = line_of problem sel prices (done ++ s ∷ []) front back r results are.1 in (
      rest.0,
      rest.1,
      subst (λ (rows : List Row). IsRowResult problem sel prices (record { who = r.0.0; name = r.0.1; at = place_after rows r.1 }) rest.0)
          (append_assoc done (s ∷ []) front) rest.2,
    )

-- the line of a block
record IsBlockLine (sel : List Bool) (who name : List ℕ) (place : ℕ) (x : RowResult) : Type 0 where
  accepted : Bool
  surplus : ℤ
  line : x ≡ BlockResult who name accepted surplus
  accepted_is : accepted ≡ accepts sel place

block_line : (problem : ProblemState) (sel : List Bool) (prices : List ℤ) (who name : List ℕ) (n : ℕ) (x : RowResult)
    → IsRowResult problem sel prices (record { who = who; name = name; at = AtBlock n }) x → IsBlockLine sel who name n x
block_line problem sel prices who name n (HourResult own named executed) is = absurd (let no = is.2.2 in cc)
block_line problem sel prices who name n (BlockResult own named accepted surplus) is =
    let place : n ≡ is.2.0 = (let e = is.2.1 in cc) in
    record {
      accepted = accepted;
      surplus = surplus;
      line = ap₂ (λ (w m : List ℕ). BlockResult w m accepted surplus) is.0 is.1;
      accepted_is = is.2.2 ∙ ap (λ (k : ℕ). accepts sel k) (sym place);
    }

same_line : (who name own named : List ℕ) (a b : Bool) (x y : ℤ) → BlockResult who name a x ≡ BlockResult own named b y
    → (who ≡ own) × (name ≡ named) × (a ≡ b)
same_line who name own named a b x y e = (cc, cc, cc)

-- the published line of a block in a clearing
line_in : (book : BookState) (front back : List Row) (key : Key) (order : BlockTerms) (place welfare : ℕ) (periods : List PeriodResult)
    (rows : List RowResult) → (clearing : IsClearing book welfare periods rows) → book.rows ≡ front ++ (key, BlockVariant order) ∷ back
    → length front ≡ place
    → (x : RowResult) × (slice_get rows place ≡ Some x) × IsBlockLine clearing.selection key.0 key.1 (length (blocks_in front)) x
line_in book front back key order place welfare periods rows clearing whole at =
    let published = clearing.published in
    let found = line_of (problem_of book) clearing.selection (prices_of periods) [] front back (key, BlockVariant order) rows
    (subst (λ (rs : List Row). AreRowResults (problem_of book) clearing.selection (prices_of periods) (rows_after [] rs) rows) whole
    published.rows_are) in (
      found.0,
      ap (λ (n : ℕ). slice_get rows n) (sym at) ∙ found.1,
      block_line (problem_of book) clearing.selection (prices_of periods) key.0 key.1 (length (blocks_in front)) found.0 found.2,
    )

-- ---- another limit
-- the same change, with the rows before the block and after it
record IsChangedBetween (book other : BookState) (place : ℕ) (order : BlockTerms) (limit : ℤ) : Type 0 where
  key : Key
  front : List Row
  back : List Row
  place_is : length front ≡ place
  rows : book.rows ≡ front ++ (key, BlockVariant order) ∷ back
  others : other.rows ≡ front ++ (key, BlockVariant (record order { price = limit })) ∷ back
  periods : other.periods ≡ book.periods
  closed : other.closed ≡ book.closed

changed_between : (book other : BookState) (place : ℕ) (order : BlockTerms) (limit : ℤ) → IsWithOtherLimit book other place order limit
    → IsChangedBetween book other place order limit
changed_between book other place order limit is =
    let row : Row = (is.key, BlockVariant order) in
    let parts = parted book.rows place row is.stands in
    record {
      key = is.key;
      front = take place book.rows;
      back = drop (suc place) book.rows;
      place_is = parts.1;
      rows = parts.0;
      others = is.rows ∙ replaced book.rows place row (is.key, BlockVariant (record order { price = limit })) is.stands;
      periods = is.periods;
      closed = is.closed;
    }

-- ---- a better limit
pub record LimitLaws : Type 0 where
  pub result : (problem : ProblemState) (sel : List Bool) (w : ℤ) → IsBestSelection problem sel w → IsResult problem sel w
  pub change : (book other : BookState) (front back : List Row) (key : Key) (order : BlockTerms) (limit : ℤ)
      → book.rows ≡ front ++ (key, BlockVariant order) ∷ back
      → other.rows ≡ front ++ (key, BlockVariant (record order { price = limit })) ∷ back → other.periods ≡ book.periods
      → IsWithLimit (problem_of book) (problem_of other) (length (blocks_in front)) (gone_block key order) limit
  pub better : (problem other : ProblemState) (place : ℕ) (block : Block) (limit : ℤ) (sel changed : List Bool) (welfare after : ℤ)
      → IsWithLimit problem other place block limit → IsBetter block.order.side limit block.order.price → IsResult problem sel welfare
      → accepts sel place ≡ true → IsResult other changed after → accepts changed place ≡ true

pub still_accepted : LimitLaws → (book other : BookState) (place : ℕ) (order : BlockTerms) (limit : ℤ) (welfare after : ℕ)
    (periods days : List PeriodResult) (rows results : List RowResult) (who name : List ℕ) (surplus : ℤ)
    → IsWithOtherLimit book other place order limit → IsBetter order.side limit order.price → IsClearing book welfare periods rows
    → slice_get rows place ≡ Some (BlockResult who name true surplus) → IsClearing other after days results
    → (gain : ℤ) × (slice_get results place ≡ Some (BlockResult who name true gain))
still_accepted laws book other place order limit welfare after periods days rows results who name surplus other_limit better first at second =
    let change = changed_between book other place order limit other_limit in
    let key = change.key in let front = change.front in let back = change.back in
    let i = length (blocks_in front) in
    let old = line_in book front back key order place welfare periods rows first change.rows change.place_is in
    let new = line_in other front back key (record order { price = limit }) place after days results second change.others change.place_is in
    let was = same_line who name key.0 key.1 true old.2.accepted surplus old.2.surplus
    (same_Some (BlockResult who name true surplus) (BlockResult key.0 key.1 old.2.accepted old.2.surplus)
    (sym at ∙ old.1 ∙ ap (λ (x : RowResult). Some x) old.2.line)) in
    let kept = laws.better (problem_of book) (problem_of other) i (gone_block key order) limit first.selection second.selection (pos welfare)
    (pos after) (laws.change book other front back key order limit change.rows change.others change.periods) better
    (laws.result (problem_of book) first.selection (pos welfare) first.best) (sym (was.2 ∙ old.2.accepted_is))
    (laws.result (problem_of other) second.selection (pos after) second.best) in (
      new.2.surplus,
      new.1 ∙ ap (λ (x : RowResult). Some x) (new.2.line
          ∙ ap (λ (b : Bool). BlockResult key.0 key.1 b new.2.surplus) (new.2.accepted_is ∙ kept)
          ∙ ap₂ (λ (w m : List ℕ). BlockResult w m true new.2.surplus) (sym was.0) (sym was.1)),
    )

-- ---- a worse limit of a rejected block
pub record WorseLaws : Type 0 where
  pub best : (problem : ProblemState) (sel : List Bool) (w : ℤ) → IsResult problem sel w → IsBestSelection problem sel w
  pub result : (problem : ProblemState) (sel : List Bool) (w : ℤ) → IsBestSelection problem sel w → IsResult problem sel w
  pub change : (book other : BookState) (front back : List Row) (key : Key) (order : BlockTerms) (limit : ℤ)
      → book.rows ≡ front ++ (key, BlockVariant order) ∷ back
      → other.rows ≡ front ++ (key, BlockVariant (record order { price = limit })) ∷ back → other.periods ≡ book.periods
      → IsWithLimit (problem_of book) (problem_of other) (length (blocks_in front)) (gone_block key order) limit
  pub worse : (problem other : ProblemState) (place : ℕ) (block : Block) (limit : ℤ) (sel : List Bool) (welfare : ℤ)
      → IsWithLimit problem other place block limit → IsWorse block.order.side limit block.order.price → IsResult problem sel welfare
      → accepts sel place ≡ false → IsResult other sel welfare

-- a sum that doesn't read limits is the same
same_sum : (f : BlockTerms → ℤ) (bs : List Block) (i : ℕ) (b c : Block) (sel : List Bool) → slice_get bs i ≡ Some b → f c.order ≡ f b.order
    → over_accepted f (set bs i c) sel ≡ over_accepted f bs sel
same_sum f [] i b c sel at e = absurd (cc)
same_sum f (d ∷ bs) zero b c [] at e = refl
same_sum f (d ∷ bs) zero b c (true ∷ sel) at e =
    ap (λ (z : ℤ). z +ℤ over_accepted f bs sel) (e ∙ ap (λ (x : Block). f x.order) (sym (same_Some d b at)))
same_sum f (d ∷ bs) zero b c (false ∷ sel) at e = refl
same_sum f (d ∷ bs) (suc i) b c [] at e = refl
same_sum f (d ∷ bs) (suc i) b c (true ∷ sel) at e = ap (λ (z : ℤ). f d.order +ℤ z) (same_sum f bs i b c sel at e)
same_sum f (d ∷ bs) (suc i) b c (false ∷ sel) at e = same_sum f bs i b c sel at e

get_elsewhere : (bs : List Block) (i n : ℕ) (b : Block) → (n ≡ i → ⊥) → slice_get (set bs i b) n ≡ slice_get bs n
get_elsewhere [] i n b apart = refl
get_elsewhere (d ∷ bs) zero zero b apart = absurd (apart refl)
get_elsewhere (d ∷ bs) zero (suc n) b apart = refl
get_elsewhere (d ∷ bs) (suc i) zero b apart = refl
get_elsewhere (d ∷ bs) (suc i) (suc n) b apart = get_elsewhere bs i n b (λ e. apart (ap suc e))

get_here : (bs : List Block) (i : ℕ) (b c : Block) → slice_get bs i ≡ Some b → slice_get (set bs i c) i ≡ Some c
get_here [] i b c at = absurd (cc)
get_here (d ∷ bs) zero b c at = refl
get_here (d ∷ bs) (suc i) b c at = get_here bs i b c at

sum_of : (problem other : ProblemState) (i : ℕ) (b : Block) (limit : ℤ) (sel : List Bool) (f : BlockTerms → ℤ)
    → IsWithLimit problem other i b limit → f (with_limit b limit).order ≡ f b.order
    → over_accepted f other.blocks sel ≡ over_accepted f problem.blocks sel
sum_of problem other i b limit sel f two e =
    ap (λ (bs : List Block). over_accepted f bs sel) two.blocks
    ∙ same_sum f problem.blocks i b (with_limit b limit) sel two.stands e

-- the line of an order that isn't the block
row_alike : (problem other : ProblemState) (i : ℕ) (b : Block) (limit : ℤ) (sel : List Bool) (prices : List ℤ) (row : ProblemRow)
    (x : RowResult) → IsWithLimit problem other i b limit → (row.at ≡ AtBlock i → ⊥) → IsRowResult problem sel prices row x
    → IsRowResult other sel prices row x
row_alike problem other i b limit sel prices row (HourResult own named executed) two apart is =
    let e = is.2.3 in
    let moved : IsExecuted other sel is.2.0 is.2.1 executed = record {
      from_one = e.from_one;
      hour = e.hour;
      stands = ap (λ (hours : List (List Step)). slice_get hours (is.2.0 - 1)) two.hours ∙ e.stands;
      executed = e.executed;
      best = subst (λ (z : ℤ). IsBest e.hour z e.executed)
          (sym (sum_of problem other i b limit sel (net_volume_of_block is.2.0) two refl)) e.best;
      volume_is = e.volume_is;
    } in
    (is.0, is.1, (is.2.0, is.2.1, is.2.2, moved))
row_alike problem other i b limit sel prices row (BlockResult own named accepted surplus) two apart is =
    let has = is.2.3 in
    let elsewhere : is.2.0 ≡ i → ⊥ = λ e. apart (is.2.1 ∙ ap (λ (n : ℕ). AtBlock n) e) in
    let still : HasSurplus other.blocks prices is.2.0 surplus = record {
      block = has.block;
      stands = ap (λ (bs : List Block). slice_get bs is.2.0) two.blocks
          ∙ get_elsewhere problem.blocks i is.2.0 (with_limit b limit) elsewhere ∙ has.stands;
      surplus_is = has.surplus_is;
    } in
    (is.0, is.1, (is.2.0, is.2.1, is.2.2, still))

hour_is_no_block : (h : HourTerms) (i n : ℕ) → AtHour h.period i ≡ AtBlock n → ⊥
hour_is_no_block h i n e = cc

-- rows before the block
apart_before : (front done rest : List Row) (r : Row) → done ++ r ∷ rest ≡ front → place_after done r.1 ≡ AtBlock (length (blocks_in front)) → ⊥
apart_before front done rest (k, Hour h) whole e = hour_is_no_block h (length (steps_in h.period done)) (length (blocks_in front)) e
apart_before front done rest (k, BlockVariant b) whole e =
    let same = same_block (length (blocks_in done)) (length (blocks_in front)) e in
    let a = ap (λ (rows : List Row). length (blocks_in rows)) whole in
    let c = ap (λ (bs : List Block). length bs) (blocks_split done ((k, BlockVariant b) ∷ rest)) in
    let d = length-append (blocks_in done) (gone_block k b ∷ blocks_in rest) in
    let wrong : 0 < 0 = omega (arith, same, a, c, d) in
    omega (arith, wrong)

-- rows after it
apart_after : (front more : List Row) (key : Key) (o : BlockTerms) (order : Order)
    → place_after (front ++ (key, BlockVariant o) ∷ more) order ≡ AtBlock (length (blocks_in front)) → ⊥
apart_after front more key o (Hour h) e =
    hour_is_no_block h (length (steps_in h.period (front ++ (key, BlockVariant o) ∷ more))) (length (blocks_in front)) e
apart_after front more key o (BlockVariant b) e =
    let same = same_block (length (blocks_in (front ++ (key, BlockVariant o) ∷ more))) (length (blocks_in front)) e in
    let c = ap (λ (bs : List Block). length bs) (blocks_split front ((key, BlockVariant o) ∷ more)) in
    let d = length-append (blocks_in front) (gone_block key o ∷ blocks_in more) in
    let wrong : 0 < 0 = omega (arith, same, c, d) in
    omega (arith, wrong)

same_place : (front more : List Row) (key : Key) (o p : BlockTerms) (order : Order)
    → place_after (front ++ (key, BlockVariant o) ∷ more) order ≡ place_after (front ++ (key, BlockVariant p) ∷ more) order
same_place front more key o p (Hour h) =
    ap (λ (ss : List Step). AtHour h.period (length ss))
    (steps_split h.period front ((key, BlockVariant o) ∷ more) ∙ sym (steps_split h.period front ((key, BlockVariant p) ∷ more)))
same_place front more key o p (BlockVariant b) =
    let a = ap (λ (bs : List Block). length bs) (blocks_split front ((key, BlockVariant o) ∷ more)) in
    let c = ap (λ (bs : List Block). length bs) (blocks_split front ((key, BlockVariant p) ∷ more)) in
    let d = length-append (blocks_in front) (gone_block key o ∷ blocks_in more) in
    let e = length-append (blocks_in front) (gone_block key p ∷ blocks_in more) in
    let long : length (blocks_in (front ++ (key, BlockVariant o) ∷ more)) ≡ length (blocks_in (front ++ (key, BlockVariant p) ∷ more)) =
    omega (arith, a, c, d, e) in
    ap (λ (n : ℕ). AtBlock n) long

rows_behind : (problem other : ProblemState) (front : List Row) (key : Key) (o : BlockTerms) (limit : ℤ) (sel : List Bool)
    (prices : List ℤ) (more rest : List Row) (results : List RowResult)
    → IsWithLimit problem other (length (blocks_in front)) (gone_block key o) limit
    → AreRowResults problem sel prices (rows_after (front ++ (key, BlockVariant o) ∷ more) rest) results
    → AreRowResults other sel prices (rows_after (front ++ (key, BlockVariant (record o { price = limit })) ∷ more) rest) results
rows_behind problem other front key o limit sel prices more [] [] two are = tt
rows_behind problem other front key o limit sel prices more [] (x ∷ results) two are = absurd are
rows_behind problem other front key o limit sel prices more (r ∷ rest) [] two are = absurd are
rows_behind problem other front key o limit sel prices more (r ∷ rest) (x ∷ results) two are =
    let p : BlockTerms = record o { price = limit } in
    let later = subst (λ (rows : List Row). AreRowResults problem sel prices (rows_after rows rest) results)
    (append_assoc front ((key, BlockVariant o) ∷ more) (r ∷ [])) are.1 in
    let done = rows_behind problem other front key o limit sel prices (more ++ r ∷ []) rest results two later in (
      subst (λ (at : Place). IsRowResult other sel prices (record { who = r.0.0; name = r.0.1; at = at }) x)
          (same_place front more key o p r.1)
          (row_alike problem other (length (blocks_in front)) (gone_block key o) limit sel prices
          (record { who = r.0.0; name = r.0.1; at = place_after (front ++ (key, BlockVariant o) ∷ more) r.1 }) x two
          (apart_after front more key o r.1) are.0),
      subst (λ (rows : List Row). AreRowResults other sel prices (rows_after rows rest) results)
          (sym (append_assoc front ((key, BlockVariant p) ∷ more) (r ∷ []))) done,
    )

-- the gain of the block with its other limit
own_line : (problem other : ProblemState) (front : List Row) (key : Key) (o : BlockTerms) (limit : ℤ) (sel : List Bool) (prices : List ℤ)
    (done : List Row) (who name : List ℕ) (accepted : Bool) (surplus : ℤ)
    → IsWithLimit problem other (length (blocks_in front)) (gone_block key o) limit → done ≡ front
    → IsRowResult problem sel prices (record { who = key.0; name = key.1; at = place_after done (BlockVariant o) })
    (BlockResult who name accepted surplus)
    → IsRowResult other sel prices (record { who = key.0; name = key.1; at = place_after done (BlockVariant (record o { price = limit })) })
    (BlockResult who name accepted (surplus_of prices (record o { price = limit })))
own_line problem other front key o limit sel prices done who name accepted surplus two whole is =
    let place = same_block (length (blocks_in done)) is.2.0 is.2.1 in
    let b = gone_block key o in
    let here : is.2.0 ≡ length (blocks_in front) = sym place ∙ ap (λ (rows : List Row). length (blocks_in rows)) whole in
    let own : HasSurplus other.blocks prices is.2.0 (surplus_of prices (record o { price = limit })) = record {
      block = with_limit b limit;
      stands = ap₂ (λ (bs : List Block) (n : ℕ). slice_get bs n) two.blocks here
          ∙ get_here problem.blocks (length (blocks_in front)) b (with_limit b limit) two.stands;
      surplus_is = refl;
    } in
    (is.0, is.1, (is.2.0, is.2.1, is.2.2, own))

rows_alike : (problem other : ProblemState) (front back : List Row) (key : Key) (o : BlockTerms) (limit : ℤ) (sel : List Bool)
    (prices : List ℤ) (done rest : List Row) (results : List RowResult) (who name : List ℕ) (accepted : Bool) (surplus : ℤ)
    → IsWithLimit problem other (length (blocks_in front)) (gone_block key o) limit → done ++ rest ≡ front
    → AreRowResults problem sel prices (rows_after done (rest ++ (key, BlockVariant o) ∷ back)) results
    → slice_get results (length rest) ≡ Some (BlockResult who name accepted surplus)
    → AreRowResults other sel prices (rows_after done (rest ++ (key, BlockVariant (record o { price = limit })) ∷ back))
    (set results (length rest) (BlockResult who name accepted (surplus_of prices (record o { price = limit }))))
rows_alike problem other front back key o limit sel prices done [] [] who name accepted surplus two whole are at = absurd are
rows_alike problem other front back key o limit sel prices done [] (x ∷ results) who name accepted surplus two whole are at =
    let p : BlockTerms = record o { price = limit } in
    let here : done ≡ front = sym (append-nil done) ∙ whole in
    let is : x ≡ BlockResult who name accepted surplus = same_Some x (BlockResult who name accepted surplus) at in
    let later = subst (λ (rows : List Row). AreRowResults problem sel prices (rows_after (rows ++ (key, BlockVariant o) ∷ []) back) results)
    here are.1 in (
      own_line problem other front key o limit sel prices done who name accepted surplus two here
          (subst (λ (y : RowResult). IsRowResult problem sel prices
          (record { who = key.0; name = key.1; at = place_after done (BlockVariant o) }) y) is are.0),
      subst (λ (rows : List Row). AreRowResults other sel prices (rows_after (rows ++ (key, BlockVariant p) ∷ []) back) results)
          (sym here) (rows_behind problem other front key o limit sel prices [] back results two later),
    )
rows_alike problem other front back key o limit sel prices done (r ∷ rest) [] who name accepted surplus two whole are at = absurd are
rows_alike problem other front back key o limit sel prices done (r ∷ rest) (x ∷ results) who name accepted surplus two whole are at = (
  row_alike problem other (length (blocks_in front)) (gone_block key o) limit sel prices
      (record { who = r.0.0; name = r.0.1; at = place_after done r.1 }) x two (apart_before front done rest r whole) are.0,
  rows_alike problem other front back key o limit sel prices (done ++ r ∷ []) rest results who name accepted surplus two
      (append_assoc done (r ∷ []) rest ∙ whole) are.1 at,
)

pub published_with_worse : WorseLaws → (book other : BookState) (place : ℕ) (order : BlockTerms) (limit : ℤ) (welfare : ℕ)
    (periods : List PeriodResult) (rows : List RowResult) (who name : List ℕ) (surplus : ℤ)
    → IsWithOtherLimit book other place order limit → IsWorse order.side limit order.price → IsClearing book welfare periods rows
    → slice_get rows place ≡ Some (BlockResult who name false surplus)
    → (gain : ℤ) × IsClearing other welfare periods (set rows place (BlockResult who name false gain))
published_with_worse laws book other place order limit welfare periods rows who name surplus other_limit worse clearing at =
    let change = changed_between book other place order limit other_limit in
    let key = change.key in let front = change.front in let back = change.back in
    let p : BlockTerms = record order { price = limit } in
    let sel = clearing.selection in
    let published = clearing.published in
    let prices = prices_of periods in
    let i = length (blocks_in front) in
    let two = laws.change book other front back key order limit change.rows change.others change.periods in
    let old = line_in book front back key order place welfare periods rows clearing change.rows change.place_is in
    let was = same_line who name key.0 key.1 false old.2.accepted surplus old.2.surplus
    (same_Some (BlockResult who name false surplus) (BlockResult key.0 key.1 old.2.accepted old.2.surplus)
    (sym at ∙ old.1 ∙ ap (λ (x : RowResult). Some x) old.2.line)) in
    let after = laws.worse (problem_of book) (problem_of other) i (gone_block key order) limit sel (pos welfare) two worse
    (laws.result (problem_of book) sel (pos welfare) clearing.best) (sym (was.2 ∙ old.2.accepted_is)) in
    let lines = rows_alike (problem_of book) (problem_of other) front back key order limit sel prices [] front rows who name false surplus two refl
    (subst (λ (rs : List Row). AreRowResults (problem_of book) sel prices (rows_after [] rs) rows) change.rows published.rows_are)
    (ap (λ (n : ℕ). slice_get rows n) change.place_is ∙ at) in (
      surplus_of prices p,
      record {
        closed = change.closed ∙ clearing.closed;
        selection = sel;
        best = laws.best (problem_of other) sel (pos welfare) after;
        published = record {
          welfare_is = after.eligible.welfare_is;
          periods_are = subst (λ (hours : List (List Step)). ArePeriodResults (blocks_in other.rows) sel 1 hours periods) (sym two.hours)
              (same_periods (blocks_in book.rows) (blocks_in other.rows) sel sel 1 (problem_of book).hours periods
              (λ t. sum_of (problem_of book) (problem_of other) i (gone_block key order) limit sel (net_volume_of_block t) two refl)
              (λ t. sum_of (problem_of book) (problem_of other) i (gone_block key order) limit sel (bought_volume_of_block t) two refl)
              published.periods_are);
          rows_are = subst (λ (rs : List Row). AreRowResults (problem_of other) sel prices (rows_after [] rs)
              (set rows place (BlockResult who name false (surplus_of prices p)))) (sym change.others)
              (subst (λ (n : ℕ). AreRowResults (problem_of other) sel prices (rows_after [] (front ++ (key, BlockVariant p) ∷ back))
              (set rows n (BlockResult who name false (surplus_of prices p)))) change.place_is lines);
        };
      },
    )
