-- No hourly order loses, and no participant does: its accepted blocks make up whole families, none of which loses.
use Rattle.dam_blocks.proofs.Common.{◌≡◌, ℕ, zero, suc, ◌+◌, ◌-◌, ℤ, pos, ◌+ℤ◌, ◌≤ℤ◌, Bool, true, false, cond, ◌&&◌, Option, Some, None, List, [], ◌∷◌, ◌++◌}
use Rattle.dam_blocks.proofs.Common.{length, length-append, ap, ap₂, ◌∙◌, sym, subst, refl, arith, bytes_decides, ints, and_parts, append-nil, same_text}
use Rattle.dam_blocks.proofs.Common.{BlockTerms, Row, Hour, Step, IsExecution, AreEnds, price_between, IsBest, execution_surplus, Block, ProblemState, steps_in}
use Rattle.dam_blocks.proofs.Common.{blocks_in, rows_after, IsProblem, accepts, over_accepted, net_volume, IsAdmissible, descends, accepted_where}
use Rattle.dam_blocks.proofs.Common.{accepted_descendants, Descends, Child, OfChild, ArePrices, surplus_of, surplus_at, family_surplus, HasNoLoss, IsEligible}
use Rattle.dam_blocks.proofs.Common.{AreBestExecutions, IsOutcome, gain_of}
use Rattle.std.specs.List.{slice_get}
use Rattle.dam_book.specs.declared.order.Order.TheVariants.{Block as BlockVariant}
use Rattle.dam_hour.specs.Price.{Supports}
use Rattle.dam_hour.specs.Market.{order_surplus}
use Rattle.dam_blocks.specs.declared.problem.Place.TheVariants.{Hour as AtHour}
use Rattle.dam_blocks.specs.Market.{order_surplus_at, order_surplus_in, over_orders_of}
use Rattle.dam_blocks.proofs.Sums.{over_accepted-nil}
use Rattle.dam_blocks.proofs.Families.{AreChains, no_loss_in_families, accepts_where, accepts_descendant, where_true}
use Rattle.dam_blocks.proofs.WelfareAtLeastZero.{are_chains, parent_found, same_block}
use Rattle.dam_blocks.proofs.Descending.{descends_is}
use Rattle.dam_blocks.proofs.PricesUnique.{prices_unique}
use Rattle.dam_blocks.proofs.FromBook.{blocks-append}

-- ---- hourly orders
-- the laws of one period on its price and its best execution
pub record GainLaws : Type 0 where
  pub support : (ss : List Step) (net low high : ℤ) (xs : List ℕ) → AreEnds ss net low high → IsBest ss net xs
      → Supports (price_between low high) ss xs
  pub at_least_zero : (p : ℤ) (ss : List Step) (xs : List ℕ) → IsExecution ss xs → Supports p ss xs → pos 0 ≤ℤ execution_surplus p ss xs

one_order : GainLaws → (p : ℤ) (s : Step) (ss : List Step) (x : ℕ) (xs : List ℕ) → IsExecution (s ∷ ss) (x ∷ xs) → Supports p (s ∷ ss) (x ∷ xs)
    → pos 0 ≤ℤ order_surplus p s x
one_order laws p s ss x xs e h =
    let alone = laws.at_least_zero p (s ∷ []) (x ∷ []) (e.0, tt) (h.0, h.1, tt) in omega (arith, ints, alone)

order_gains : GainLaws → (p : ℤ) (ss : List Step) (xs : List ℕ) (i : ℕ) → IsExecution ss xs → Supports p ss xs
    → pos 0 ≤ℤ order_surplus_at p ss xs i
order_gains laws p [] xs i e h = omega (arith, ints)
order_gains laws p (s ∷ ss) [] i e h = absurd e
order_gains laws p (s ∷ ss) (x ∷ xs) zero e h = one_order laws p s ss x xs e h
order_gains laws p (s ∷ ss) (x ∷ xs) (suc i) e h = order_gains laws p ss xs i e.1 h.2

orders_gain : GainLaws → (blocks : List Block) (sel : List Bool) (t : ℕ) (hours : List (List Step)) (prices : List ℤ)
    (executions : List (List ℕ)) (k i : ℕ) → ArePrices blocks sel t hours prices → AreBestExecutions blocks sel t hours executions
    → pos 0 ≤ℤ order_surplus_in prices hours executions k i
orders_gain laws blocks sel t [] [] executions k i are best = omega (arith, ints)
orders_gain laws blocks sel t [] (p ∷ prices) executions k i are best = absurd are
orders_gain laws blocks sel t (ss ∷ hours) [] executions k i are best = absurd are
orders_gain laws blocks sel t (ss ∷ hours) (p ∷ prices) [] k i are best = absurd best
orders_gain laws blocks sel t (ss ∷ hours) (p ∷ prices) (xs ∷ executions) zero i are best =
    let supports = laws.support ss (net_volume blocks sel t) are.0.low are.0.high xs are.0.ends best.0 in
    order_gains laws p ss xs i best.0.execution (subst (λ (z : ℤ). Supports z ss xs) (sym are.0.between) supports)
orders_gain laws blocks sel t (ss ∷ hours) (p ∷ prices) (xs ∷ executions) (suc k) i are best =
    orders_gain laws blocks sel (suc t) hours prices executions k i are.1 best.1

pub order_at_least_zero : GainLaws → (problem : ProblemState) (sel : List Bool) (prices : List ℤ) (executions : List (List ℕ)) (t i : ℕ)
    → IsOutcome problem sel prices executions → pos 0 ≤ℤ gain_of problem sel prices executions (AtHour t i)
order_at_least_zero laws problem sel prices executions t i is =
    orders_gain laws problem.blocks sel 1 problem.hours prices executions (t - 1) i is.prices_are is.executions_are

-- ---- the accepted blocks of one participant
-- two selections that agree where a block stands give one sum
pub over_accepted-agree : (f : BlockTerms → ℤ) (bs : List Block) (xs ys : List Bool)
    → ((i : ℕ) (b : Block) → slice_get bs i ≡ Some b → accepts xs i ≡ accepts ys i) → over_accepted f bs xs ≡ over_accepted f bs ys
over_accepted-agree f [] xs ys h = refl
over_accepted-agree f (b ∷ bs) [] [] h = refl
over_accepted-agree f (b ∷ bs) [] (true ∷ ys) h = absurd (let no = h 0 b refl in cc)
over_accepted-agree f (b ∷ bs) [] (false ∷ ys) h = sym (over_accepted-nil f bs) ∙ over_accepted-agree f bs [] ys (λ i c at. h (suc i) c at)
over_accepted-agree f (b ∷ bs) (true ∷ xs) [] h = absurd (let no = h 0 b refl in cc)
over_accepted-agree f (b ∷ bs) (false ∷ xs) [] h = over_accepted-agree f bs xs [] (λ i c at. h (suc i) c at) ∙ over_accepted-nil f bs
over_accepted-agree f (b ∷ bs) (true ∷ xs) (true ∷ ys) h =
    ap (λ (z : ℤ). f b.order +ℤ z) (over_accepted-agree f bs xs ys (λ i c at. h (suc i) c at))
over_accepted-agree f (b ∷ bs) (true ∷ xs) (false ∷ ys) h = absurd (let no = h 0 b refl in cc)
over_accepted-agree f (b ∷ bs) (false ∷ xs) (true ∷ ys) h = absurd (let no = h 0 b refl in cc)
over_accepted-agree f (b ∷ bs) (false ∷ xs) (false ∷ ys) h = over_accepted-agree f bs xs ys (λ i c at. h (suc i) c at)

-- whether it is an order of the participant
abbrev is_of : List ℕ → Option Block → Bool
is_of who None = false
is_of who (Some b) = same_text b.who who

abbrev mine : List ℕ → List Block → List Bool → List Bool
mine who blocks sel = accepted_where (λ j. is_of who (slice_get blocks j)) 0 sel

zero_first : (i : ℕ) → 0 + i ≡ i
zero_first i = omega arith

accepts_mine : (who : List ℕ) (blocks : List Block) (sel : List Bool) (i : ℕ)
    → accepts (mine who blocks sel) i ≡ (accepts sel i && is_of who (slice_get blocks i))
accepts_mine who blocks sel i =
    accepts_where (λ j. is_of who (slice_get blocks j)) 0 sel i
    ∙ ap (λ (m : ℕ). accepts sel i && is_of who (slice_get blocks m)) (zero_first i)

-- a block that is accepted of the participant is accepted, and the participant's
mine_parts : (who : List ℕ) (blocks : List Block) (sel : List Bool) (i : ℕ) → accepts (mine who blocks sel) i ≡ true
    → (accepts sel i ≡ true) × (is_of who (slice_get blocks i) ≡ true)
mine_parts who blocks sel i e =
    let both = and_parts (accepts sel i) (is_of who (slice_get blocks i)) (sym (accepts_mine who blocks sel i) ∙ e) in (both.0, both.1)

mine_from : (who : List ℕ) (blocks : List Block) (sel : List Bool) (i : ℕ) (b : Block) → accepts sel i ≡ true → slice_get blocks i ≡ Some b
    → b.who ≡ who → accepts (mine who blocks sel) i ≡ true
mine_from who blocks sel i b acc at own =
    accepts_mine who blocks sel i
    ∙ ap₂ (λ (x : Bool) (o : Option Block). x && is_of who o) acc at
    ∙ (bytes_decides b.who who).1 own

own_of : (who : List ℕ) (blocks : List Block) (i : ℕ) (b : Block) → slice_get blocks i ≡ Some b → is_of who (slice_get blocks i) ≡ true
    → b.who ≡ who
own_of who blocks i b at own = (bytes_decides b.who who).0 (ap (λ (o : Option Block). is_of who o) (sym at) ∙ own)

-- a family is one participant's
pub one_owner : (blocks : List Block) (i j : ℕ) (a b : Block) → Descends blocks i j → slice_get blocks i ≡ Some a → slice_get blocks j ≡ Some b
    → a.who ≡ b.who
one_owner blocks i _ a b (Child j at) first second =
    ap (λ (c : Block). c.who) (same_block a at.parent (sym first ∙ at.parent_stands))
    ∙ at.is_parent.who
    ∙ ap (λ (c : Block). c.who) (same_block at.child b (sym at.child_stands ∙ second))
one_owner blocks i _ a b (OfChild k j further at) first second =
    one_owner blocks i k a at.parent further first at.parent_stands
    ∙ at.is_parent.who
    ∙ ap (λ (c : Block). c.who) (same_block at.child b (sym at.child_stands ∙ second))

chains_of_mine : (problem : ProblemState) (sel : List Bool) (who : List ℕ) → IsProblem problem → IsAdmissible problem.blocks sel
    → AreChains problem.blocks (mine who problem.blocks sel)
chains_of_mine problem sel who is admissible =
    let blocks = problem.blocks in
    let all = are_chains problem sel is admissible in
    record {
      before = all.before;
      with_parent = λ j p acc e.
          (let parts = mine_parts who blocks sel j acc in
          let found = parent_found blocks j p e in
          let child = own_of who blocks j found.child found.child_stands parts.1 in
          mine_from who blocks sel p found.parent (all.with_parent j p parts.0 e) found.parent_stands (found.is_parent.who ∙ child));
      within = λ j acc. all.within j (mine_parts who blocks sel j acc).0;
    }

-- of an own block the participant's accepted descendants are all of them
same_descendant : (problem : ProblemState) (sel : List Bool) (who : List ℕ) (i j : ℕ) (a b : Block) (d : Bool) → IsProblem problem
    → slice_get problem.blocks i ≡ Some a → a.who ≡ who → slice_get problem.blocks j ≡ Some b → descends problem.blocks i j ≡ d
    → (accepts (mine who problem.blocks sel) j && d) ≡ (accepts sel j && d)
same_descendant problem sel who i j a b true is at own there e =
    let owner = one_owner problem.blocks i j a b ((descends_is problem i j is).0 e) at there in
    let test : is_of who (slice_get problem.blocks j) ≡ true =
    ap (λ (o : Option Block). is_of who o) there ∙ (bytes_decides b.who who).1 (sym owner ∙ own) in
    ap (λ (x : Bool). x && true)
    (accepts_mine who problem.blocks sel j ∙ ap (λ (x : Bool). accepts sel j && x) test ∙ and_true (accepts sel j))
  where
    and_true : (x : Bool) → (x && true) ≡ x
    and_true true = refl
    and_true false = refl
same_descendant problem sel who i j a b false is at own there e = and_false (accepts (mine who problem.blocks sel) j) (accepts sel j)
  where
    and_false : (x y : Bool) → (x && false) ≡ (y && false)
    and_false true true = refl
    and_false true false = refl
    and_false false true = refl
    and_false false false = refl

same_gain : (problem : ProblemState) (sel : List Bool) (who : List ℕ) (prices : List ℤ) (i : ℕ) (a : Block) → IsProblem problem
    → slice_get problem.blocks i ≡ Some a → a.who ≡ who
    → family_surplus problem.blocks (mine who problem.blocks sel) prices i ≡ family_surplus problem.blocks sel prices i
same_gain problem sel who prices i a is at own =
    let blocks = problem.blocks in
    ap (λ (z : ℤ). surplus_at blocks prices i +ℤ z)
    (over_accepted-agree (surplus_of prices) blocks (accepted_descendants blocks (mine who blocks sel) i) (accepted_descendants blocks sel i)
    (λ j b there.
    accepts_descendant blocks (mine who blocks sel) i j
    ∙ same_descendant problem sel who i j a b (descends blocks i j) is at own there refl
    ∙ sym (accepts_descendant blocks sel i j)))

no_loss_of_mine : (problem : ProblemState) (sel : List Bool) (who : List ℕ) (prices : List ℤ) → IsProblem problem
    → IsAdmissible problem.blocks sel → HasNoLoss problem.blocks sel prices → HasNoLoss problem.blocks (mine who problem.blocks sel) prices
no_loss_of_mine problem sel who prices is admissible none = record {
  gains = λ i acc.
      (let blocks = problem.blocks in
      let parts = mine_parts who blocks sel i acc in
      let there = (are_chains problem sel is admissible).within i parts.0 in
      let same = same_gain problem sel who prices i there.0 is there.1 (own_of who blocks i there.0 there.1 parts.1) in
      let gain = none.gains i parts.0 in
      omega (arith, ints, same, gain));
}

blocks_gain : (problem : ProblemState) (sel : List Bool) (who : List ℕ) (prices : List ℤ) → IsProblem problem
    → IsAdmissible problem.blocks sel → HasNoLoss problem.blocks sel prices
    → pos 0 ≤ℤ over_accepted (surplus_of prices) problem.blocks (mine who problem.blocks sel)
blocks_gain problem sel who prices is admissible none =
    no_loss_in_families problem.blocks (mine who problem.blocks sel) prices (chains_of_mine problem sel who is admissible)
    (no_loss_of_mine problem sel who prices is admissible none)

-- an accepted block and its accepted descendants
pub descendants_gain : (problem : ProblemState) (sel : List Bool) (w : ℤ) (prices : List ℤ) (executions : List (List ℕ)) (i : ℕ)
    → IsEligible problem sel w → IsOutcome problem sel prices executions → accepts sel i ≡ true
    → pos 0 ≤ℤ family_surplus problem.blocks sel prices i
descendants_gain problem sel w prices executions i eligible outcome acc =
    let one = prices_unique problem.blocks sel 1 problem.hours eligible.prices prices eligible.are_prices outcome.prices_are in
    (subst (λ (ps : List ℤ). HasNoLoss problem.blocks sel ps) one eligible.no_loss).gains i acc

-- ---- row by row
-- the sum over the accepted ones, the list of blocks beginning at place n
abbrev pub by_place : (BlockTerms → ℤ) → List Bool → ℕ → List Block → ℤ
by_place f xs n [] = pos 0
by_place f xs n (b ∷ bs) = where_true (accepts xs n) (f b.order) +ℤ by_place f xs (suc n) bs

by_place-none : (f : BlockTerms → ℤ) (n : ℕ) (bs : List Block) → by_place f [] n bs ≡ pos 0
by_place-none f n [] = refl
by_place-none f n (b ∷ bs) = let rest = by_place-none f (suc n) bs in omega (arith, ints, rest)

by_place-later : (f : BlockTerms → ℤ) (x : Bool) (xs : List Bool) (n : ℕ) (bs : List Block)
    → by_place f (x ∷ xs) (suc n) bs ≡ by_place f xs n bs
by_place-later f x xs n [] = refl
by_place-later f x xs n (b ∷ bs) = ap (λ (z : ℤ). where_true (accepts xs n) (f b.order) +ℤ z) (by_place-later f x xs (suc n) bs)

pub by_place-all : (f : BlockTerms → ℤ) (bs : List Block) (xs : List Bool) → over_accepted f bs xs ≡ by_place f xs 0 bs
by_place-all f [] xs = refl
by_place-all f (b ∷ bs) [] = sym (by_place-none f 0 (b ∷ bs))
by_place-all f (b ∷ bs) (true ∷ xs) =
    ap (λ (z : ℤ). f b.order +ℤ z) (by_place-all f bs xs ∙ sym (by_place-later f true xs 0 bs))
by_place-all f (b ∷ bs) (false ∷ xs) =
    let rest = by_place-all f bs xs in let later = by_place-later f false xs 0 bs in omega (arith, ints, rest, later)

-- a block's part of both sums
one_row : (acc own : Bool) (x : ℤ) → where_true (acc && own) x ≡ cond own (cond acc x (pos 0)) (pos 0)
one_row true true x = refl
one_row true false x = refl
one_row false true x = refl
one_row false false x = refl

own_part : (own : Bool) (x : ℤ) → pos 0 ≤ℤ x → pos 0 ≤ℤ cond own x (pos 0)
own_part true x h = h
own_part false x h = omega (arith, ints)

-- the places of the rows agree with the problem's blocks
abbrev pub StandFrom : ProblemState → List Row → List Row → Type 0
StandFrom problem front rest = (k : ℕ) (b : Block) → slice_get (blocks_in rest) k ≡ Some b
    → slice_get problem.blocks (length (blocks_in front) + k) ≡ Some b

-- .. with one row more in front
pub stand_later : (problem : ProblemState) (front rest : List Row) (r : Row) → blocks_in (r ∷ rest) ≡ blocks_in rest
    → length (blocks_in (front ++ r ∷ [])) ≡ length (blocks_in front) → StandFrom problem front (r ∷ rest)
    → StandFrom problem (front ++ r ∷ []) rest
stand_later problem front rest r none long stand k b at =
    let there = stand k b (ap (λ (bs : List Block). slice_get bs k) none ∙ at) in
    ap (λ (n : ℕ). slice_get problem.blocks (n + k)) long ∙ there

rows_gain : (problem : ProblemState) (sel : List Bool) (prices : List ℤ) (executions : List (List ℕ)) (who : List ℕ) (front rest : List Row)
    → ((t i : ℕ) → pos 0 ≤ℤ gain_of problem sel prices executions (AtHour t i)) → StandFrom problem front rest
    → by_place (surplus_of prices) (mine who problem.blocks sel) (length (blocks_in front)) (blocks_in rest)
    ≤ℤ over_orders_of who (gain_of problem sel prices executions) (rows_after front rest)
rows_gain problem sel prices executions who front [] hours stand = omega (arith, ints)
rows_gain problem sel prices executions who front ((k, Hour o) ∷ rest) hours stand =
    let long : length (blocks_in (front ++ (k, Hour o) ∷ [])) ≡ length (blocks_in front) =
    ap length (blocks-append front ((k, Hour o) ∷ []) ∙ append-nil (blocks_in front)) in
    let later = rows_gain problem sel prices executions who (front ++ (k, Hour o) ∷ []) rest hours
    (stand_later problem front rest (k, Hour o) refl long stand) in
    let from = ap (λ (n : ℕ). by_place (surplus_of prices) (mine who problem.blocks sel) n (blocks_in rest)) long in
    let here = own_part (same_text k.0 who) (gain_of problem sel prices executions (AtHour o.period (length (steps_in o.period front))))
    (hours o.period (length (steps_in o.period front))) in
    omega (arith, ints, later, from, here)
rows_gain problem sel prices executions who front ((k, BlockVariant o) ∷ rest) hours stand =
    let blocks = problem.blocks in
    let n = length (blocks_in front) in
    let b : Block = record { who = k.0; name = k.1; order = o } in
    let long : length (blocks_in (front ++ (k, BlockVariant o) ∷ [])) ≡ suc n =
    omega (
      arith,
      ap (λ (bs : List Block). length bs) (blocks-append front ((k, BlockVariant o) ∷ [])),
      length-append (blocks_in front) (b ∷ []),
    ) in
    let later = rows_gain problem sel prices executions who (front ++ (k, BlockVariant o) ∷ []) rest hours
    (λ j c at. (let next : length (blocks_in (front ++ (k, BlockVariant o) ∷ [])) + j ≡ n + suc j = omega (arith, long) in
    ap (λ (m : ℕ). slice_get blocks m) next ∙ stand (suc j) c at)) in
    let from = ap (λ (m : ℕ). by_place (surplus_of prices) (mine who blocks sel) m (blocks_in rest)) long in
    let same_place : n ≡ n + 0 = omega arith in
    let there : slice_get blocks n ≡ Some b = ap (λ (m : ℕ). slice_get blocks m) same_place ∙ stand 0 b refl in
    let own : surplus_at blocks prices n ≡ surplus_of prices o = rw there in
    let taken = accepts_mine who blocks sel n ∙ ap (λ (p : Option Block). accepts sel n && is_of who p) there in
    let part = ap (λ (x : Bool). where_true x (surplus_of prices o)) taken
    ∙ one_row (accepts sel n) (same_text k.0 who) (surplus_of prices o)
    ∙ ap (λ (z : ℤ). cond (same_text k.0 who) (cond (accepts sel n) z (pos 0)) (pos 0)) (sym own) in
    omega (arith, ints, later, from, part)

pub participant_gains : GainLaws → (problem : ProblemState) (sel : List Bool) (w : ℤ) (prices : List ℤ) (executions : List (List ℕ))
    (who : List ℕ) → IsProblem problem → IsEligible problem sel w → IsOutcome problem sel prices executions
    → pos 0 ≤ℤ over_orders_of who (gain_of problem sel prices executions) problem.rows
participant_gains laws problem sel w prices executions who is eligible outcome =
    let book = is.book in
    let made = is.is_of_book in
    let one = prices_unique problem.blocks sel 1 problem.hours eligible.prices prices eligible.are_prices outcome.prices_are in
    let none = subst (λ (ps : List ℤ). HasNoLoss problem.blocks sel ps) one eligible.no_loss in
    let gain = blocks_gain problem sel who prices is eligible.admissible none in
    let all = by_place-all (surplus_of prices) problem.blocks (mine who problem.blocks sel) in
    let same = ap (λ (p : ProblemState). by_place (surplus_of prices) (mine who problem.blocks sel) 0 p.blocks) made in
    let sum = ap (λ (p : ProblemState). over_orders_of who (gain_of problem sel prices executions) p.rows) made in
    let rows = rows_gain problem sel prices executions who [] book.rows
    (λ t i. order_at_least_zero laws problem sel prices executions t i outcome)
    (λ k b at. (let first : 0 + k ≡ k = omega arith in
    ap (λ (p : ProblemState). slice_get p.blocks (0 + k)) made ∙ ap (λ (m : ℕ). slice_get (blocks_in book.rows) m) first ∙ at)) in
    omega (arith, ints, gain, all, same, sum, rows)
