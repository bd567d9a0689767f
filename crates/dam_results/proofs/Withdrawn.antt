-- A book without a rejected block is published alike, but for the block's line.
use Rattle.std.proofs.Common.{◌≡◌, ℕ, zero, suc, ◌-◌, ◌<◌, ◌≤◌, ℤ, pos, ◌+ℤ◌, Bool, true, false, Some, List, [], ◌∷◌, ◌++◌, length}
use Rattle.std.proofs.Common.{length-append, append_assoc, ap, ap₂, ◌∙◌, sym, subst, refl, arith}
use Rattle.std.specs.List.{slice_get, remove}
use Rattle.std.proofs.lemmas.List.{append-nil}
use Rattle.dam_book.specs.Limits.{most_blocks}
use Rattle.dam_book.specs.Terms.{BlockTerms}
use Rattle.dam_book.specs.Book.{Key, Row, BookState, IsBook}
use Rattle.dam_book.specs.declared.order.Side.TheVariants.{Buy}
use Rattle.dam_book.specs.declared.order.Order.{Order}
use Rattle.dam_book.specs.declared.order.Order.TheVariants.{Hour, Block as BlockVariant}
use Rattle.dam_hour.specs.declared.step.Step.{Step}
use Rattle.dam_hour.specs.Execution.{executed_volume}
use Rattle.dam_hour.specs.Best.{IsBest}
use Rattle.dam_blocks.specs.declared.problem.Block.{Block}
use Rattle.dam_blocks.specs.declared.problem.Place.{Place}
use Rattle.dam_blocks.specs.declared.problem.Place.TheVariants.{Hour as AtHour, Block as AtBlock}
use Rattle.dam_blocks.specs.Problem.{ProblemState, steps_in, blocks_in, place_after, rows_after, problem_of}
use Rattle.dam_blocks.specs.Problem.{IsProblem}
use Rattle.dam_blocks.specs.Selection.{accepts, over_accepted, net_volume_of_block, net_volume, bought_volume_of_block, bought_volume}
use Rattle.dam_blocks.specs.Eligible.{IsClearingPrice}
use Rattle.dam_blocks.specs.Result.{IsResult}
use Rattle.dam_blocks.specs.Changes.{without_place, IsWithoutBlock}
use Rattle.dam_results.specs.declared.published.PeriodResult.{PeriodResult}
use Rattle.dam_results.specs.declared.published.RowResult.{RowResult}
use Rattle.dam_results.specs.declared.published.RowResult.TheVariants.{Hour as HourResult, Block as BlockResult}
use Rattle.dam_results.specs.Published.{prices_of, ArePeriodResults, IsExecuted, HasSurplus, IsRowResult, AreRowResults}
use Rattle.dam_results.specs.Clearing.{IsBestSelection, IsClearing}
use Rattle.dam_results.specs.Market.{IsWithoutRow}
use Rattle.dam_results.proofs.Places.{same_block, gone, blocks_split, steps_split}

-- the laws below
pub record WithdrawingLaws : Type 0 where
  pub problem : (book : BookState) → IsBook book → book.closed ≡ true → IsProblem (problem_of book)
  pub best : (problem : ProblemState) (sel : List Bool) (w : ℤ) → IsResult problem sel w → IsBestSelection problem sel w
  pub result : (problem : ProblemState) (sel : List Bool) (w : ℤ) → IsBestSelection problem sel w → IsResult problem sel w
  pub change : (book other : BookState) (front back : List Row) (key : Key) (order : BlockTerms)
      → book.rows ≡ front ++ (key, BlockVariant order) ∷ back → other.rows ≡ front ++ back → other.periods ≡ book.periods
      → IsWithoutBlock (problem_of book) (problem_of other) (length (blocks_in front)) (record { who = key.0; name = key.1; order = order })
  pub without : (problem other : ProblemState) (place : ℕ) (block : Block) (sel : List Bool) (w : ℤ) → IsProblem problem → IsProblem other
      → IsWithoutBlock problem other place block → IsResult problem sel w → accepts sel place ≡ false
      → IsResult other (without_place sel place) w
  pub sums : (problem other : ProblemState) (place : ℕ) (block : Block) (sel : List Bool) (f : BlockTerms → ℤ) → IsProblem problem
      → IsWithoutBlock problem other place block → length sel ≡ most_blocks → accepts sel place ≡ false
      → over_accepted f other.blocks (without_place sel place) ≡ over_accepted f problem.blocks sel

-- ---- places before and after the one that is gone
accepts_before : (sel : List Bool) (i j : ℕ) → j < i → accepts (without_place sel i) j ≡ accepts sel j
accepts_before sel zero j l = absurd (omega (arith, l))
accepts_before [] (suc i) zero l = refl
accepts_before [] (suc i) (suc j) l = refl
accepts_before (a ∷ sel) (suc i) zero l = refl
accepts_before (a ∷ sel) (suc i) (suc j) l = accepts_before sel i j (omega (arith, l))

accepts_last : (sel : List Bool) (j : ℕ) → accepts (sel ++ false ∷ []) j ≡ accepts sel j
accepts_last [] zero = refl
accepts_last [] (suc j) = refl
accepts_last (a ∷ sel) zero = refl
accepts_last (a ∷ sel) (suc j) = accepts_last sel j

accepts_after : (sel : List Bool) (i j : ℕ) → i ≤ j → accepts (without_place sel i) j ≡ accepts sel (suc j)
accepts_after [] zero zero l = refl
accepts_after [] zero (suc j) l = refl
accepts_after [] (suc i) zero l = refl
accepts_after [] (suc i) (suc j) l = refl
accepts_after (a ∷ sel) zero j l = accepts_last sel j
accepts_after (a ∷ sel) (suc i) zero l = absurd (omega (arith, l))
accepts_after (a ∷ sel) (suc i) (suc j) l = accepts_after sel i j (omega (arith, l))

get_before : {A : Type 0} (xs : List A) (i j : ℕ) → j < i → slice_get (remove xs i) j ≡ slice_get xs j
get_before xs zero j l = absurd (omega (arith, l))
get_before [] (suc i) j l = refl
get_before (x ∷ xs) (suc i) zero l = refl
get_before (x ∷ xs) (suc i) (suc j) l = get_before xs i j (omega (arith, l))

get_after : {A : Type 0} (xs : List A) (i j : ℕ) → i ≤ j → slice_get (remove xs i) j ≡ slice_get xs (suc j)
get_after [] zero j l = refl
get_after [] (suc i) j l = refl
get_after (x ∷ xs) zero j l = refl
get_after (x ∷ xs) (suc i) zero l = absurd (omega (arith, l))
get_after (x ∷ xs) (suc i) (suc j) l = get_after xs i j (omega (arith, l))

-- a problem and the same without the block at place i, and a selection that rejects it
record AreTwo (problem other : ProblemState) (sel : List Bool) (i : ℕ) : Type 0 where
  hours : other.hours ≡ problem.hours
  blocks : other.blocks ≡ remove problem.blocks i
  sums : (f : BlockTerms → ℤ) → over_accepted f other.blocks (without_place sel i) ≡ over_accepted f problem.blocks sel

abbrev pub gone_block : Key → BlockTerms → Block
gone_block key o = record { who = key.0; name = key.1; order = o }

-- ---- the lines of the periods
pub same_periods : (blocks others : List Block) (sel tel : List Bool) (t : ℕ) (hours : List (List Step)) (periods : List PeriodResult)
    → ((s : ℕ) → net_volume others tel s ≡ net_volume blocks sel s) → ((s : ℕ) → bought_volume others tel s ≡ bought_volume blocks sel s)
    → ArePeriodResults blocks sel t hours periods → ArePeriodResults others tel t hours periods
same_periods blocks others sel tel t [] [] net bought are = tt
same_periods blocks others sel tel t [] (r ∷ periods) net bought are = absurd are
same_periods blocks others sel tel t (ss ∷ hours) [] net bought are = absurd are
same_periods blocks others sel tel t (ss ∷ hours) (r ∷ periods) net bought are = (
  record {
    price = subst (λ (z : ℤ). IsClearingPrice ss z r.price) (sym (net t)) are.0.price;
    executed = are.0.executed;
    best = subst (λ (z : ℤ). IsBest ss z are.0.executed) (sym (net t)) are.0.best;
    volume = are.0.volume ∙ ap (λ (z : ℤ). pos (executed_volume Buy ss are.0.executed) +ℤ z) (sym (bought t));
  },
  same_periods blocks others sel tel (suc t) hours periods net bought are.1,
)

-- ---- the lines of the orders
same_executed : (problem other : ProblemState) (sel : List Bool) (i t k volume : ℕ) → AreTwo problem other sel i
    → IsExecuted problem sel t k volume → IsExecuted other (without_place sel i) t k volume
same_executed problem other sel i t k volume two is = record {
  from_one = is.from_one;
  hour = is.hour;
  stands = ap (λ (hours : List (List Step)). slice_get hours (t - 1)) two.hours ∙ is.stands;
  executed = is.executed;
  best = subst (λ (z : ℤ). IsBest is.hour z is.executed) (sym (two.sums (net_volume_of_block t))) is.best;
  volume_is = is.volume_is;
}

-- where place n of the blocks is without the one at place i
data MovesTo (i n : ℕ) : ℕ → Type 0 where
  Before : n < i → MovesTo i n n
  After : (m : ℕ) → i ≤ m → n ≡ suc m → MovesTo i n m

-- where a row's place is then
abbrev IsMoved : ℕ → Place → Place → Type 0
IsMoved i (AtHour t k) there = there ≡ AtHour t k
IsMoved i (AtBlock n) there = (m : ℕ) × (there ≡ AtBlock m) × MovesTo i n m

moved_accepts : (sel : List Bool) (i n m : ℕ) → MovesTo i n m → accepts (without_place sel i) m ≡ accepts sel n
moved_accepts sel i n _ (Before l) = accepts_before sel i n l
moved_accepts sel i n _ (After m l e) = accepts_after sel i m l ∙ ap (λ (k : ℕ). accepts sel k) (sym e)

moved_stands : (problem other : ProblemState) (sel : List Bool) (i n m : ℕ) → AreTwo problem other sel i → MovesTo i n m
    → slice_get other.blocks m ≡ slice_get problem.blocks n
moved_stands problem other sel i n _ two (Before l) =
    ap (λ (bs : List Block). slice_get bs n) two.blocks ∙ get_before problem.blocks i n l
moved_stands problem other sel i n _ two (After m l e) =
    ap (λ (bs : List Block). slice_get bs m) two.blocks ∙ get_after problem.blocks i m l
    ∙ ap (λ (k : ℕ). slice_get problem.blocks k) (sym e)

-- a row that stands at a place before the block, or after it
same_row : (problem other : ProblemState) (sel : List Bool) (i : ℕ) (prices : List ℤ) (who name : List ℕ) (at there : Place)
    (published : RowResult) → AreTwo problem other sel i → IsMoved i at there
    → IsRowResult problem sel prices (record { who = who; name = name; at = at }) published
    → IsRowResult other (without_place sel i) prices (record { who = who; name = name; at = there }) published
same_row problem other sel i prices who name (AtHour t k) there (HourResult own named executed) two moved is =
    (is.0, is.1, (is.2.0, is.2.1, moved ∙ is.2.2, same_executed problem other sel i is.2.0 is.2.1 executed two is.2.3))
same_row problem other sel i prices who name (AtHour t k) there (BlockResult own named accepted surplus) two moved is =
    absurd (let no = is.2.1 in cc)
same_row problem other sel i prices who name (AtBlock n) there (HourResult own named executed) two moved is =
    absurd (let no = is.2.2 in cc)
same_row problem other sel i prices who name (AtBlock n) there (BlockResult own named accepted surplus) two moved is =
    let place = same_block n is.2.0 is.2.1 in
    let has = is.2.3 in
    let m = moved.0 in
    let taken = is.2.2 ∙ ap (λ (k : ℕ). accepts sel k) (sym place) ∙ sym (moved_accepts sel i n m moved.2) in
    let still : HasSurplus other.blocks prices m surplus = record {
      block = has.block;
      stands = moved_stands problem other sel i n m two moved.2 ∙ ap (λ (k : ℕ). slice_get problem.blocks k) place ∙ has.stands;
      surplus_is = has.surplus_is;
    } in
    (is.0, is.1, (m, moved.1, taken, still))

-- the rows after the block
length_of_steps : (t : ℕ) (front more : List Row) (key : Key) (o : BlockTerms)
    → length (steps_in t (front ++ more)) ≡ length (steps_in t (front ++ (key, BlockVariant o) ∷ more))
length_of_steps t front more key o =
    ap (λ (ss : List Step). length ss) (steps_split t front more ∙ sym (steps_split t front ((key, BlockVariant o) ∷ more)))

length_of_blocks : (front more : List Row) (key : Key) (o : BlockTerms)
    → length (blocks_in (front ++ (key, BlockVariant o) ∷ more)) ≡ suc (length (blocks_in (front ++ more)))
length_of_blocks front more key o =
    let a = ap (λ (bs : List Block). length bs) (blocks_split front ((key, BlockVariant o) ∷ more)) in
    let b = ap (λ (bs : List Block). length bs) (blocks_split front more) in
    let c = length-append (blocks_in front) (gone_block key o ∷ blocks_in more) in
    let d = length-append (blocks_in front) (blocks_in more) in
    omega (arith, a, b, c, d)

at_least_front : (front more : List Row) → length (blocks_in front) ≤ length (blocks_in (front ++ more))
at_least_front front more =
    let b = ap (λ (bs : List Block). length bs) (blocks_split front more) in
    let d = length-append (blocks_in front) (blocks_in more) in
    omega (arith, b, d)

moved_after : (front more : List Row) (key : Key) (o : BlockTerms) (order : Order)
    → IsMoved (length (blocks_in front)) (place_after (front ++ (key, BlockVariant o) ∷ more) order) (place_after (front ++ more) order)
moved_after front more key o (Hour h) = ap (λ (n : ℕ). AtHour h.period n) (length_of_steps h.period front more key o)
moved_after front more key o (BlockVariant b) = (
  length (blocks_in (front ++ more)),
  refl,
  After (length (blocks_in (front ++ more))) (at_least_front front more) (length_of_blocks front more key o),
)

rows_behind : (problem other : ProblemState) (front : List Row) (key : Key) (o : BlockTerms) (sel : List Bool) (prices : List ℤ)
    (more rest : List Row) (results : List RowResult) → AreTwo problem other sel (length (blocks_in front))
    → AreRowResults problem sel prices (rows_after (front ++ (key, BlockVariant o) ∷ more) rest) results
    → AreRowResults other (without_place sel (length (blocks_in front))) prices (rows_after (front ++ more) rest) results
rows_behind problem other front key o sel prices more [] [] two are = tt
rows_behind problem other front key o sel prices more [] (x ∷ results) two are = absurd are
rows_behind problem other front key o sel prices more (r ∷ rest) [] two are = absurd are
rows_behind problem other front key o sel prices more (r ∷ rest) (x ∷ results) two are =
    let i = length (blocks_in front) in
    let later = subst (λ (rows : List Row). AreRowResults problem sel prices (rows_after rows rest) results)
    (append_assoc front ((key, BlockVariant o) ∷ more) (r ∷ [])) are.1 in
    let done = rows_behind problem other front key o sel prices (more ++ r ∷ []) rest results two later in (
      same_row problem other sel i prices r.0.0 r.0.1 (place_after (front ++ (key, BlockVariant o) ∷ more) r.1)
          (place_after (front ++ more) r.1) x two (moved_after front more key o r.1) are.0,
      subst (λ (rows : List Row). AreRowResults other (without_place sel i) prices (rows_after rows rest) results)
          (sym (append_assoc front more (r ∷ []))) done,
    )

-- the rows before it
moved_before : (front done rest : List Row) (r : Row) → done ++ r ∷ rest ≡ front
    → IsMoved (length (blocks_in front)) (place_after done r.1) (place_after done r.1)
moved_before front done rest (k, Hour h) whole = refl
moved_before front done rest (k, BlockVariant b) whole =
    let a = ap (λ (rows : List Row). length (blocks_in rows)) whole in
    let c = ap (λ (bs : List Block). length bs) (blocks_split done ((k, BlockVariant b) ∷ rest)) in
    let d = length-append (blocks_in done) (gone_block k b ∷ blocks_in rest) in
    (length (blocks_in done), refl, Before (omega (arith, a, c, d)))

rows_without : (problem other : ProblemState) (front back : List Row) (key : Key) (o : BlockTerms) (sel : List Bool) (prices : List ℤ)
    (done rest : List Row) (results : List RowResult) → AreTwo problem other sel (length (blocks_in front)) → done ++ rest ≡ front
    → AreRowResults problem sel prices (rows_after done (rest ++ (key, BlockVariant o) ∷ back)) results
    → AreRowResults other (without_place sel (length (blocks_in front))) prices (rows_after done (rest ++ back)) (remove results (length rest))
rows_without problem other front back key o sel prices done [] [] two whole are = absurd are
rows_without problem other front back key o sel prices done [] (x ∷ results) two whole are =
    let here : done ≡ front = sym (append-nil done) ∙ whole in
    let later = subst (λ (rows : List Row). AreRowResults problem sel prices (rows_after rows back) results)
    (ap (λ (rows : List Row). rows ++ (key, BlockVariant o) ∷ []) here) are.1 in
    subst (λ (rows : List Row). AreRowResults other (without_place sel (length (blocks_in front))) prices (rows_after rows back) results)
    (append-nil front ∙ sym here) (rows_behind problem other front key o sel prices [] back results two later)
rows_without problem other front back key o sel prices done (r ∷ rest) [] two whole are = absurd are
rows_without problem other front back key o sel prices done (r ∷ rest) (x ∷ results) two whole are = (
  same_row problem other sel (length (blocks_in front)) prices r.0.0 r.0.1 (place_after done r.1) (place_after done r.1) x two
      (moved_before front done rest r whole) are.0,
  rows_without problem other front back key o sel prices (done ++ r ∷ []) rest results two (append_assoc done (r ∷ []) rest ∙ whole) are.1,
)

-- ---- the row of a rejected block is a block's
record IsOfBlock (sel : List Bool) (done rest : List Row) : Type 0 where
  key : Key
  order : BlockTerms
  front : List Row
  back : List Row
  whole : rest ≡ front ++ (key, BlockVariant order) ∷ back
  rejected : accepts sel (length (blocks_in (done ++ front))) ≡ false

first_block : (problem : ProblemState) (sel : List Bool) (prices : List ℤ) (done rest : List Row) (r : Row) (who name : List ℕ) (surplus : ℤ)
    → IsRowResult problem sel prices (record { who = r.0.0; name = r.0.1; at = place_after done r.1 }) (BlockResult who name false surplus)
    → (is : IsOfBlock sel done (r ∷ rest)) × (length is.front ≡ 0)
first_block problem sel prices done rest (k, Hour h) who name surplus is = absurd (let no = is.2.1 in cc)
first_block problem sel prices done rest (k, BlockVariant o) who name surplus is =
    let place : length (blocks_in done) ≡ is.2.0 = (let e = is.2.1 in cc) in (
      record {
        key = k;
        order = o;
        front = [];
        back = rest;
        whole = refl;
        rejected = ap (λ (rows : List Row). accepts sel (length (blocks_in rows))) (append-nil done)
            ∙ ap (λ (n : ℕ). accepts sel n) place ∙ sym is.2.2;
      },
      refl,
    )

of_block : (problem : ProblemState) (sel : List Bool) (prices : List ℤ) (done rest : List Row) (results : List RowResult) (n : ℕ)
    (who name : List ℕ) (surplus : ℤ) → AreRowResults problem sel prices (rows_after done rest) results
    → slice_get results n ≡ Some (BlockResult who name false surplus) → (is : IsOfBlock sel done rest) × (length is.front ≡ n)
of_block problem sel prices done [] [] n who name surplus are e = absurd (cc)
of_block problem sel prices done [] (x ∷ results) n who name surplus are e = absurd are
of_block problem sel prices done (r ∷ rest) [] n who name surplus are e = absurd are
of_block problem sel prices done (r ∷ rest) (x ∷ results) zero who name surplus are e =
    let is : x ≡ BlockResult who name false surplus = cc in
    first_block problem sel prices done rest r who name surplus
    (subst (λ (y : RowResult). IsRowResult problem sel prices (record { who = r.0.0; name = r.0.1; at = place_after done r.1 }) y) is are.0)
of_block problem sel prices done (r ∷ rest) (x ∷ results) (suc n) who name surplus are e =
    let found = of_block problem sel prices (done ++ r ∷ []) rest results n who name surplus are.1 e in
    let is = found.0 in (
      record {
        key = is.key;
        order = is.order;
        front = r ∷ is.front;
        back = is.back;
        whole = ap (λ (rows : List Row). r ∷ rows) is.whole;
        rejected = ap (λ (rows : List Row). accepts sel (length (blocks_in rows))) (sym (append_assoc done (r ∷ []) is.front)) ∙ is.rejected;
      },
      ap suc found.1,
    )

-- ---- all of it
pub cleared_without : WithdrawingLaws → (book other : BookState) (place welfare : ℕ) (periods : List PeriodResult) (rows : List RowResult)
    (who name : List ℕ) (surplus : ℤ) → IsBook book → IsBook other → IsWithoutRow book other place → IsClearing book welfare periods rows
    → slice_get rows place ≡ Some (BlockResult who name false surplus) → IsClearing other welfare periods (remove rows place)
cleared_without laws book other place welfare periods rows who name surplus is is_other change clearing at =
    let sel = clearing.selection in
    let published = clearing.published in
    let prices = prices_of periods in
    let found = of_block (problem_of book) sel prices [] book.rows rows place who name surplus published.rows_are at in
    let of = found.0 in
    let fewer : other.rows ≡ of.front ++ of.back =
    change.rows ∙ ap₂ (λ (rs : List Row) (n : ℕ). remove rs n) of.whole (sym found.1) ∙ gone of.front of.back (of.key, BlockVariant of.order) in
    let problem = problem_of book in
    let fewer_blocks = laws.change book other of.front of.back of.key of.order of.whole fewer change.periods in
    let result = laws.result problem sel (pos welfare) clearing.best in
    let i = length (blocks_in of.front) in
    let block = gone_block of.key of.order in
    let valid = laws.problem book is clearing.closed in
    let two : AreTwo problem (problem_of other) sel i = record {
      hours = fewer_blocks.hours;
      blocks = fewer_blocks.blocks;
      sums = λ f. laws.sums problem (problem_of other) i block sel f valid fewer_blocks result.eligible.as_long of.rejected;
    } in
    let closed : other.closed ≡ true = change.closed ∙ clearing.closed in
    let after = laws.without problem (problem_of other) i block sel (pos welfare) valid (laws.problem other is_other closed) fewer_blocks result
    of.rejected in
    let lines = rows_without problem (problem_of other) of.front of.back of.key of.order sel prices [] of.front rows two refl
    (subst (λ (rs : List Row). AreRowResults problem sel prices (rows_after [] rs) rows) of.whole published.rows_are) in
    record {
      closed = closed;
      selection = without_place sel i;
      best = laws.best (problem_of other) (without_place sel i) (pos welfare) after;
      published = record {
        welfare_is = after.eligible.welfare_is;
        periods_are = subst (λ (hours : List (List Step)). ArePeriodResults (blocks_in other.rows) (without_place sel i) 1 hours periods)
            (sym two.hours)
            (same_periods (blocks_in book.rows) (blocks_in other.rows) sel (without_place sel i) 1 problem.hours periods
            (λ t. two.sums (net_volume_of_block t)) (λ t. two.sums (bought_volume_of_block t)) published.periods_are);
        rows_are = subst (λ (rs : List Row). AreRowResults (problem_of other) (without_place sel i) prices (rows_after [] rs) (remove rows place))
            (sym fewer)
            (subst (λ (n : ℕ). AreRowResults (problem_of other) (without_place sel i) prices (rows_after [] (of.front ++ of.back))
            (remove rows n)) found.1 lines);
      };
    }
