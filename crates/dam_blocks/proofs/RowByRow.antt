-- A row more of a book.
use Rattle.dam_blocks.proofs.Common.{◌≡◌, ℕ, zero, suc, ◌+◌, ◌-◌, ◌<◌, ◌≤◌, Bool, true, false, cond, ◌==◌, Option, Some, None, List, [], ◌∷◌, map, ℤ, ◌++◌}
use Rattle.dam_blocks.proofs.Common.{length, get_or, take, drop, append_assoc, length-append, ap, ap₂, ◌∙◌, sym, subst, refl, arith, cons_option, nat_tests}
use Rattle.dam_blocks.proofs.Common.{append-nil, slice_get_within, get_or_from_slice_get, most_hourly, Side, HourTerms, BlockTerms, Key, Row, AreRows, Hour}
use Rattle.dam_blocks.proofs.Common.{Step, Block, ProblemRow, steps_in, hours_from, block_under, blocks_in, rows_after, hourly_orders}
use Rattle.std.specs.List.{slice_get, filter_map}
use Rattle.std.proofs.lemmas.List.{take_more, map-set, get_or-map}
use Rattle.std.proofs.Math.ListN.{set}
use Rattle.dam_book.specs.Book.{hourly_count}
use Rattle.dam_book.specs.Order.{is_beyond}
use Rattle.dam_book.specs.declared.order.Order.TheVariants.{Block as BlockVariant}
use Rattle.dam_blocks.specs.declared.problem.Place.TheVariants.{Hour as AtHour, Block as AtBlock}
use Rattle.dam_blocks.specs.Problem.{place_after}
use Rattle.dam_blocks.specs.inside.Making.{hourly_step, with_step}
use Rattle.dam_blocks.proofs.FromBook.{hour_stands, few_hours, blocks-append, steps-append}

pub drop_at : {X : Type 0} (xs : List X) (i : ℕ) (x : X) → slice_get xs i ≡ Some x → drop i xs ≡ x ∷ drop (i + 1) xs
drop_at xs i x e = go xs i x e ∙ ap (λ (n : ℕ). x ∷ drop n xs) (let one : suc i ≡ i + 1 = omega arith in one)
  where
    go : {X : Type 0} (xs : List X) (i : ℕ) (x : X) → slice_get xs i ≡ Some x → drop i xs ≡ x ∷ drop (suc i) xs
    go [] i x e = absurd (cc)
    go (y ∷ xs) zero x e = let same : y ≡ x = cc in ap (λ (z : _). z ∷ xs) same
    go (y ∷ xs) (suc i) x e = go xs i x e

take_at : {X : Type 0} (xs : List X) (i : ℕ) (x : X) → slice_get xs i ≡ Some x → take (i + 1) xs ≡ take i xs ++ x ∷ []
take_at xs i x e = take_more xs i x (slice_get_within xs i x e) ∙ ap (λ (y : _). take i xs ++ y ∷ []) (get_or_from_slice_get xs i x x e)

-- an item that passes joins the items
pub more_some : {X Y : Type 0} (f : X → Option Y) (xs : List X) (i : ℕ) (x : X) (y : Y) (items items' total : List Y)
    → slice_get xs i ≡ Some x → Some y ≡ f x
    → items' ≡ items ++ y ∷ [] → items ++ filter_map f (drop i xs) ≡ total → items' ++ filter_map f (drop (i + 1) xs) ≡ total
more_some f xs i x y items items' total at is pushed so_far =
    ap (λ (zs : _). zs ++ filter_map f (drop (i + 1) xs)) pushed
    ∙ append_assoc items (y ∷ []) (filter_map f (drop (i + 1) xs))
    ∙ ap (λ (o : _). items ++ cons_option o (filter_map f (drop (i + 1) xs))) is
    ∙ ap (λ (zs : _). items ++ filter_map f zs) (sym (drop_at xs i x at))
    ∙ so_far

pub same_block : (b : Block) (who name : List ℕ) (o : BlockTerms) → b.who ≡ who → b.name ≡ name → b.order ≡ o
    → Some b ≡ block_under who name (BlockVariant o)
same_block b who name o e f g =
    ap (λ (w : List ℕ). Some (record { who = w; name = b.name; order = b.order })) e
    ∙ ap (λ (n : List ℕ). Some (record { who = who; name = n; order = b.order })) f
    ∙ ap (λ (p : BlockTerms). Some (record { who = who; name = name; order = p })) g

pub one_longer : {X : Type 0} (xs ys : List X) (x : X) → ys ≡ xs ++ x ∷ [] → length ys ≡ length xs + 1
one_longer xs ys x e = ap length e ∙ length-append xs (x ∷ [])

-- an item that doesn't pass is left out
pub more_none : {X Y : Type 0} (f : X → Option Y) (xs : List X) (i : ℕ) (x : X) (items total : List Y) → slice_get xs i ≡ Some x
    → None ≡ f x
    → items ++ filter_map f (drop i xs) ≡ total → items ++ filter_map f (drop (i + 1) xs) ≡ total
more_none f xs i x items total at is so_far =
    ap (λ (o : _). items ++ cons_option o (filter_map f (drop (i + 1) xs))) is
    ∙ ap (λ (zs : _). items ++ filter_map f zs) (sym (drop_at xs i x at))
    ∙ so_far

-- ---- the rows with their places
pub record IsPlacedSoFar (n : ℕ) (all : List Row) (place : ℕ) (rows : List ProblemRow) (hours : List (List Step))
    (blocks : ℕ) : Type 0 where
  pub sum : rows ++ rows_after (take place all) (drop place all) ≡ rows_after [] all
  pub hours_are : hours ≡ hours_from 1 n (take place all)
  pub block_count : blocks ≡ length (blocks_in (take place all))

rows_more : (all : List Row) (place : ℕ) (r : Row) (rows rows' : List ProblemRow) (q : ProblemRow) → slice_get all place ≡ Some r
    → q ≡ record { who = r.0.0; name = r.0.1; at = place_after (take place all) r.1 } → rows' ≡ rows ++ q ∷ []
    → rows ++ rows_after (take place all) (drop place all) ≡ rows_after [] all
    → rows' ++ rows_after (take (place + 1) all) (drop (place + 1) all) ≡ rows_after [] all
rows_more all place r rows rows' q at is pushed so_far =
    ap₂ (λ (zs : List ProblemRow) (front : List Row). zs ++ rows_after front (drop (place + 1) all)) pushed (take_at all place r at)
    ∙ append_assoc rows (q ∷ []) (rows_after (take place all ++ r ∷ []) (drop (place + 1) all))
    ∙ ap (λ (p : ProblemRow). rows ++ p ∷ rows_after (take place all ++ r ∷ []) (drop (place + 1) all)) is
    ∙ ap (λ (zs : List Row). rows ++ rows_after (take place all) zs) (sym (drop_at all place r at))
    ∙ so_far

blocks_more : (all : List Row) (place : ℕ) (k : Key) (o : BlockTerms) → slice_get all place ≡ Some (k, BlockVariant o)
    → length (blocks_in (take (place + 1) all)) ≡ length (blocks_in (take place all)) + 1
blocks_more all place k o at =
    ap (λ (rs : List Row). length (blocks_in rs)) (take_at all place (k, BlockVariant o) at)
    ∙ ap (λ (bs : List Block). length bs) (blocks-append (take place all) ((k, BlockVariant o) ∷ []))
    ∙ length-append (blocks_in (take place all)) (blocks_in ((k, BlockVariant o) ∷ []))

blocks_kept : (all : List Row) (place : ℕ) (k : Key) (o : HourTerms) → slice_get all place ≡ Some (k, Hour o)
    → length (blocks_in (take (place + 1) all)) ≡ length (blocks_in (take place all))
blocks_kept all place k o at =
    let sum = ap (λ (rs : List Row). length (blocks_in rs)) (take_at all place (k, Hour o) at)
    ∙ ap (λ (bs : List Block). length bs) (blocks-append (take place all) ((k, Hour o) ∷ []))
    ∙ length-append (blocks_in (take place all)) (blocks_in ((k, Hour o) ∷ [])) in
    omega (arith, sum)

apart_test : (m n : ℕ) → (m ≡ n → ⊥) → (m == n) ≡ false
apart_test m n h = grind (arith, nat_tests)

same_test : (m n : ℕ) → m ≡ n → (m == n) ≡ true
same_test m n h = grind (arith, nat_tests)

one_step : (b : Bool) (s : Step) → b ≡ true → cons_option (cond b (Some s) None) [] ≡ s ∷ []
one_step true s e = refl
one_step false s e = absurd (cc)

no_step : (b : Bool) (s : Step) → b ≡ false → cons_option (cond b (Some s) None) [] ≡ []
no_step true s e = absurd (cc)
no_step false s e = refl

-- an hourly order joins the orders of its period, and no other
steps_own : (t : ℕ) (front : List Row) (k : Key) (o : HourTerms) → o.period ≡ t
    → steps_in t (front ++ (k, Hour o) ∷ []) ≡ steps_in t front ++ hourly_step o ∷ []
steps_own t front k o e =
    steps-append t front ((k, Hour o) ∷ [])
    ∙ ap (λ (ss : List Step). steps_in t front ++ ss) (one_step (o.period == t) (hourly_step o) (same_test o.period t e))

steps_other : (t : ℕ) (front : List Row) (k : Key) (o : HourTerms) → (o.period ≡ t → ⊥)
    → steps_in t (front ++ (k, Hour o) ∷ []) ≡ steps_in t front
steps_other t front k o apart =
    steps-append t front ((k, Hour o) ∷ [])
    ∙ ap (λ (ss : List Step). steps_in t front ++ ss) (no_step (o.period == t) (hourly_step o) (apart_test o.period t apart))
    ∙ append-nil (steps_in t front)

-- the steps of a period, and those of the later ones
abbrev with_hour : List Step → List (List Step) → List (List Step)
with_hour ss hours = ss ∷ hours

hours_later : (t n : ℕ) (front : List Row) (k : Key) (o : HourTerms) → o.period < t
    → hours_from t n (front ++ (k, Hour o) ∷ []) ≡ hours_from t n front
hours_later t zero front k o l = refl
hours_later t (suc n) front k o l =
    ap₂ with_hour
    (steps_other t front k o (λ e. omega (arith, e, l))) (hours_later (suc t) n front k o (omega (arith, l)))

hours_more : (t n i : ℕ) (front : List Row) (k : Key) (o : HourTerms) → i + t ≡ o.period
    → hours_from t n (front ++ (k, Hour o) ∷ []) ≡ set (hours_from t n front) i (steps_in o.period front ++ hourly_step o ∷ [])
hours_more t zero i front k o e = refl
hours_more t (suc n) zero front k o e =
    let own : o.period ≡ t = omega (arith, e) in
    ap₂ with_hour
    (steps_own t front k o own ∙ ap (λ (m : ℕ). steps_in m front ++ hourly_step o ∷ []) (sym own))
    (hours_later (suc t) n front k o (omega (arith, own)))
hours_more t (suc n) (suc i) front k o e =
    ap₂ with_hour
    (steps_other t front k o (λ same. omega (arith, e, same))) (hours_more (suc t) n i front k o (omega (arith, e)))

-- a block joins none
hours_kept : (t n : ℕ) (front : List Row) (k : Key) (o : BlockTerms)
    → hours_from t n (front ++ (k, BlockVariant o) ∷ []) ≡ hours_from t n front
hours_kept t zero front k o = refl
hours_kept t (suc n) front k o =
    ap₂ with_hour
    (steps-append t front ((k, BlockVariant o) ∷ []) ∙ append-nil (steps_in t front)) (hours_kept (suc t) n front k o)

-- an hourly order has its place among those of its period
pub hour_placed : (n : ℕ) (all : List Row) (place : ℕ) (k : Key) (o : HourTerms) (rows rows' : List ProblemRow)
    (hours hours' : List (List Step)) (blocks blocks' at_place : ℕ) (q : ProblemRow)
    → slice_get all place ≡ Some (k, Hour o) → 1 ≤ o.period → o.period ≤ n
    → q ≡ record { who = k.0; name = k.1; at = AtHour o.period at_place } → at_place ≡ length (get_or hours (o.period - 1) [])
    → rows' ≡ rows ++ q ∷ [] → hours' ≡ with_step hours o → blocks' ≡ blocks
    → IsPlacedSoFar n all place rows hours blocks → IsPlacedSoFar n all (place + 1) rows' hours' blocks'
hour_placed n all place k o rows rows' hours hours' blocks blocks' at_place q at least most is count pushed grown kept so_far =
    let front = take place all in
    let index : (o.period - 1) + 1 ≡ o.period = omega (arith, least) in
    let own : get_or hours (o.period - 1) [] ≡ steps_in o.period front =
    ap (λ (hs : List (List Step)). get_or hs (o.period - 1) []) so_far.hours_are
    ∙ get_or_from_slice_get (hours_from 1 n front) (o.period - 1) (steps_in ((o.period - 1) + 1) front) []
    (hour_stands 1 n (o.period - 1) front (omega (arith, least, most)))
    ∙ ap (λ (m : ℕ). steps_in m front) index in
    record {
      sum = rows_more all place (k, Hour o) rows rows' q at
          (is ∙ ap (λ (m : ℕ). record { who = k.0; name = k.1; at = AtHour o.period m }) (count ∙ ap length own)) pushed so_far.sum;
      hours_are = grown
          ∙ ap₂ (λ (hs : List (List Step)) (ss : List Step). set hs (o.period - 1) (ss ++ hourly_step o ∷ [])) so_far.hours_are own
          ∙ sym (hours_more 1 n (o.period - 1) front k o index)
          ∙ ap (λ (rs : List Row). hours_from 1 n rs) (sym (take_at all place (k, Hour o) at));
      block_count = kept ∙ so_far.block_count ∙ sym (blocks_kept all place k o at);
    }

-- and a block among the blocks
pub block_placed : (n : ℕ) (all : List Row) (place : ℕ) (k : Key) (o : BlockTerms) (rows rows' : List ProblemRow)
    (hours hours' : List (List Step)) (blocks blocks' : ℕ) (q : ProblemRow)
    → slice_get all place ≡ Some (k, BlockVariant o) → q ≡ record { who = k.0; name = k.1; at = AtBlock blocks }
    → rows' ≡ rows ++ q ∷ [] → hours' ≡ hours → blocks' ≡ blocks + 1
    → IsPlacedSoFar n all place rows hours blocks → IsPlacedSoFar n all (place + 1) rows' hours' blocks'
block_placed n all place k o rows rows' hours hours' blocks blocks' q at is pushed kept counted so_far =
    record {
      sum = rows_more all place (k, BlockVariant o) rows rows' q at
          (is ∙ ap (λ (m : ℕ). record { who = k.0; name = k.1; at = AtBlock m }) so_far.block_count) pushed so_far.sum;
      hours_are = kept ∙ so_far.hours_are
          ∙ sym (hours_kept 1 n (take place all) k o)
          ∙ ap (λ (rs : List Row). hours_from 1 n rs) (sym (take_at all place (k, BlockVariant o) at));
      block_count = counted
          ∙ (let more = blocks_more all place k o at in let before = so_far.block_count in omega (arith, more, before));
    }

-- before the first row
pub nothing_placed : (n : ℕ) (all : List Row) (rows : List ProblemRow) (hours : List (List Step)) (blocks : ℕ) → rows ≡ []
    → hours ≡ hours_from 1 n [] → blocks ≡ 0 → IsPlacedSoFar n all 0 rows hours blocks
nothing_placed n all rows hours blocks e f g = record {
  sum = ap (λ (qs : List ProblemRow). qs ++ rows_after [] all) e;
  hours_are = f;
  block_count = g;
}

-- ---- the lists of the periods
pub none_more : (n i : ℕ) (lists lists' total : List (List Step)) → i < n → lists' ≡ lists ++ [] ∷ []
    → lists ++ hours_from (i + 1) (n - i) [] ≡ total → lists' ++ hours_from ((i + 1) + 1) (n - (i + 1)) [] ≡ total
none_more n i lists lists' total l pushed so_far =
    let left : n - i ≡ suc (n - (i + 1)) = omega arith in
    let next : suc (i + 1) ≡ (i + 1) + 1 = omega arith in
    ap (λ (hs : List (List Step)). hs ++ hours_from ((i + 1) + 1) (n - (i + 1)) []) pushed
    ∙ append_assoc lists ([] ∷ []) (hours_from ((i + 1) + 1) (n - (i + 1)) [])
    ∙ ap (λ (m : ℕ). lists ++ [] ∷ hours_from m (n - (i + 1)) []) (sym next)
    ∙ ap (λ (m : ℕ). lists ++ hours_from (i + 1) m []) (sym left)
    ∙ so_far

-- an hourly order of a book is for a period of the day
pub in_day : (n : ℕ) (rows : List Row) (i : ℕ) (k : Key) (o : HourTerms) → AreRows n rows → slice_get rows i ≡ Some (k, Hour o)
    → o.period ≤ n
in_day n [] i k o all at = absurd (cc)
in_day n (r ∷ rs) zero k o all at =
    let same : r ≡ (k, Hour o) = cc in
    let within : is_beyond n (Hour o) ≡ false = subst (λ (row : Row). is_beyond n row.1 ≡ false) same all.0.in_day in
    grind (arith, nat_tests, within)
in_day n (r ∷ rs) (suc i) k o all at = in_day n rs i k o all.1 at

-- no period has more orders than all of them together
one_of_hours : (hours : List (List Step)) (i : ℕ) (ss : List Step) → slice_get hours i ≡ Some ss → length ss ≤ hourly_orders hours
one_of_hours [] i ss e = absurd (cc)
one_of_hours (hour ∷ hours) zero ss e = let same : hour ≡ ss = cc in let long = ap length same in omega (arith, long)
one_of_hours (hour ∷ hours) (suc i) ss e = let rest = one_of_hours hours i ss e in omega (arith, rest)

-- an order as a step, read part by part
pub same_step : (o : HourTerms) (side : Side) (price : ℤ) (qty : ℕ) (ss ss' : List Step) → side ≡ o.side → price ≡ o.price → qty ≡ o.qty
    → ss' ≡ ss ++ record { side = side; price = price; qty = qty } ∷ [] → ss' ≡ ss ++ hourly_step o ∷ []
same_step o side price qty ss ss' e f g pushed =
    pushed
    ∙ ap (λ (s : Side). ss ++ record { side = s; price = price; qty = qty } ∷ []) e
    ∙ ap (λ (p : ℤ). ss ++ record { side = o.side; price = p; qty = qty } ∷ []) f
    ∙ ap (λ (q : ℕ). ss ++ record { side = o.side; price = o.price; qty = q } ∷ []) g

-- one list is longer, among all
pub list_grown : {X : Type 0} (f : X → List Step) (lists : List X) (own grown : X) (m : ℕ) (o : HourTerms) → m ≡ o.period
    → m - 1 < length lists
    → own ≡ get_or lists (m - 1) own → f grown ≡ f own ++ hourly_step o ∷ [] → map f (set lists (m - 1) grown) ≡ with_step (map f lists) o
list_grown f lists own grown m o index there is more =
    map-set f lists (m - 1) grown
    ∙ ap (λ (ss : List Step). set (map f lists) (m - 1) ss)
    (more ∙ ap (λ (ss : List Step). ss ++ hourly_step o ∷ []) (ap f is ∙ sym (get_or-map f lists (m - 1) own [] there)))
    ∙ ap (λ (n : ℕ). set (map f lists) (n - 1) (get_or (map f lists) (n - 1) [] ++ hourly_step o ∷ [])) index

map_at : {X : Type 0} (f : X → List Step) (xs : List X) (i : ℕ) (x : X) → slice_get xs i ≡ Some x → slice_get (map f xs) i ≡ Some (f x)
map_at f [] i x e = absurd (cc)
map_at f (y ∷ xs) zero x e = let same : y ≡ x = cc in ap (λ (z : _). Some (f z)) same
map_at f (y ∷ xs) (suc i) x e = map_at f xs i x e

-- an hour more
pub hour_more : {X : Type 0} (f : X → List Step) (xs : List X) (i : ℕ) (x : X) (built : List Step) (hours hours' : List (List Step))
    → slice_get xs i ≡ Some x → built ≡ f x → hours' ≡ hours ++ built ∷ [] → hours ≡ take i (map f xs) → hours' ≡ take (i + 1) (map f xs)
hour_more f xs i x built hours hours' at is pushed so_far =
    pushed
    ∙ ap₂ (λ (hs : List (List Step)) (ss : List Step). hs ++ ss ∷ []) so_far is
    ∙ sym (take_at (map f xs) i (f x) (map_at f xs i x at))

pub few_of_period : {X : Type 0} (f : X → List Step) (xs : List X) (i : ℕ) (x : X) → slice_get xs i ≡ Some x
    → length (f x) ≤ hourly_orders (map f xs)
few_of_period f xs i x at = one_of_hours (map f xs) i (f x) (map_at f xs i x at)

-- all periods together have no more orders than a book
pub few_in_periods : (n : ℕ) (rows : List Row) (hours : List (List Step)) → hours ≡ hours_from 1 n rows → hourly_count rows ≤ most_hourly
    → hourly_orders hours ≤ most_hourly
few_in_periods n rows hours same few =
    let own = few_hours 1 n rows in
    subst (λ (hs : List (List Step)). hourly_orders hs ≤ most_hourly) (sym same) (omega (arith, own, few))
