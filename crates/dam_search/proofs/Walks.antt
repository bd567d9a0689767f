-- The cost of one step of a walk, and of two walks after one another.
use Rattle.dam_search.proofs.Common.{◌≡◌, ℕ, zero, suc, ◌+◌, ◌-◌, ◌^◌, ◌<◌, ◌≤◌, ◌⊎◌, inl, inr, ℤ, pos, negsuc, ◌<ℤ◌, ◌≤ℤ◌, Bool, true, false, not, Option}
use Rattle.dam_search.proofs.Common.{Some, None, List, [], ◌∷◌, ◌++◌, length, if◌then◌else◌, ◌∙◌, ap, sym, subst, refl, arith, nat_tests, ints, ProblemState}
use Rattle.dam_search.proofs.Common.{most_blocks, padded, IsAdmissible, node_count, IsSpent}
use Rattle.std.proofs.lemmas.Nat.{pow_pos}
use Rattle.std.proofs.Math.Nat.{two-pow-succ}
use Rattle.dam_bound.specs.Relaxed.{relaxed_welfare, reaches, live_count}
use Rattle.dam_search.specs.Piece.{needed_nodes, AdmitsOnly, HasNeeded}
use Rattle.dam_search.specs.inside.PrefixWalk.{Spends, ReadsIncumbent}
use Rattle.dam_search.proofs.Prefixes.{length_more, still_rejected}

-- a power of two twice over
doubled : (n : ℕ) → 2 ^ (n + 1) ≡ 2 ^ n + 2 ^ n
doubled n = let e : n + 1 ≡ suc n = omega arith in ap (λ (k : ℕ). 2 ^ k) e ∙ two-pow-succ n

pub two_or_more : (n : ℕ) → 2 ≤ 2 ^ (n + 1)
two_or_more n = omega (arith, doubled n, pow_pos n)

-- a welfare that reaches a value reaches a lesser one
pub reaches_less : (welfare : Option ℤ) (value less : ℕ) → less ≤ value → reaches welfare value ≡ true → reaches welfare less ≡ true
reaches_less None value less h e = e
reaches_less (Some (pos n)) value less h e = grind (arith, nat_tests)
reaches_less (Some (negsuc n)) value less h e = absurd (cc)

accepted_first : (problem : ProblemState) (prefix : List Bool) (value least undecided_count next : ℕ) → value ≤ least
    → reaches (relaxed_welfare problem prefix) least ≡ true → undecided_count ≡ suc next
    → live_count problem value prefix undecided_count ≡ live_count problem value (prefix ++ true ∷ []) next + live_count problem value
    (prefix ++ false ∷ []) next + 1
accepted_first problem prefix value least undecided_count next h r e =
    let alive = reaches_less (relaxed_welfare problem prefix) least value h r in
    ap (λ (n : ℕ). live_count problem value prefix n) e
    ∙ ap (λ (b : Bool). live_count problem value (prefix ++ true ∷ []) next + live_count problem value (prefix ++ false ∷ [])
    next + (if b then 1 else 0)) alive

-- the node reaches the value, and its two extensions are counted in either order
pub live_here : (problem : ProblemState) (prefix : List Bool) (first : Bool) (value least undecided_count next : ℕ) → value ≤ least
    → reaches (relaxed_welfare problem prefix) least ≡ true → undecided_count ≡ suc next
    → live_count problem value prefix undecided_count ≡ live_count problem value (prefix ++ first ∷ []) next + live_count problem value
    (prefix ++ not first ∷ []) next + 1
live_here problem prefix true value least undecided_count next h r e = accepted_first problem prefix value least undecided_count next h r e
live_here problem prefix false value least undecided_count next h r e = omega (arith, accepted_first problem prefix value least undecided_count next h r e)

-- the limit was met before the node
pub spends_none : {problem : ProblemState} {prefix : List Bool} {undecided_count greatest_read node_limit before : ℕ} → before ≡ node_limit
    → Spends problem prefix undecided_count greatest_read node_limit before before false
spends_none {problem} {prefix} {undecided_count} {greatest_read} {node_limit} {before} e =
    let some = two_or_more undecided_count in
    record {
      grows = omega arith;
      within = omega (arith, e);
      all = omega (arith, some);
      live = λ v h. omega arith;
      unfinished = λ f. e;
      over_all = λ f. omega (arith, e, some);
      over_live = λ f v h. omega (arith, e);
    }

-- no node was visited
pub spends_nothing : {problem : ProblemState} {prefix : List Bool} {undecided_count greatest_read node_limit before : ℕ} → before ≤ node_limit
    → Spends problem prefix undecided_count greatest_read node_limit before before true
spends_nothing {problem} {prefix} {undecided_count} {greatest_read} {node_limit} {before} h =
    let some = two_or_more undecided_count in
    record {
      grows = omega arith;
      within = h;
      all = omega (arith, some);
      live = λ v m. omega arith;
      unfinished = λ f. absurd (cc);
      over_all = λ f. absurd (cc);
      over_live = λ f v m. absurd (cc);
    }

-- the node alone was visited
pub spends_one : {problem : ProblemState} {prefix : List Bool} {undecided_count greatest_read node_limit before : ℕ} → before < node_limit
    → Spends problem prefix undecided_count greatest_read node_limit before (before + 1) true
spends_one {problem} {prefix} {undecided_count} {greatest_read} {node_limit} {before} h =
    let some = two_or_more undecided_count in
    record {
      grows = omega arith;
      within = omega (arith, h);
      all = omega (arith, some);
      live = λ v m. omega arith;
      unfinished = λ f. absurd (cc);
      over_all = λ f. absurd (cc);
      over_live = λ f v m. absurd (cc);
    }

-- nothing was read
pub reads_nothing : {undecided_count before after read greatest_read greatest_read_after : ℕ} → read ≤ greatest_read → greatest_read_after ≡ greatest_read → (after ≡ before) ⊎ (undecided_count ≡ 0)
    → ReadsIncumbent undecided_count before after read read greatest_read greatest_read_after
reads_nothing {undecided_count} {before} {after} {read} {greatest_read} {greatest_read_after} h e none = record {
  grows = omega arith;
  greatest_read = omega (arith, h, e);
  asked = λ more some. absurd (omega (arith, none, more, some));
  unvisited = λ f. refl;
  full = λ f. refl;
}

-- the incumbent was read
pub reads_asked : {undecided_count before after read_before read_after greatest_read_before greatest_read_after : ℕ} → 0 < undecided_count → before < after
    → read_before ≤ greatest_read_before → greatest_read_before ≤ read_after → greatest_read_after ≡ read_after
    → ReadsIncumbent undecided_count before after read_before read_after greatest_read_before greatest_read_after
reads_asked {undecided_count} {before} {after} {read_before} {read_after} {greatest_read_before} {greatest_read_after} some more h h' e = record {
  grows = omega (arith, h, h');
  greatest_read = omega (arith, h', e);
  asked = λ m n. omega (arith, e);
  unvisited = λ f. absurd (omega (arith, f, more));
  full = λ f. absurd (omega (arith, f, some));
}

-- one block less is undecided
one_less : (n : ℕ) (prefix : List Bool) (b : Bool) → length prefix < n → n - length prefix ≡ suc (n - length (prefix ++ b ∷ []))
one_less n prefix b h = omega (arith, length_more prefix b)

twice_over : (n : ℕ) (prefix : List Bool) (b : Bool) → length prefix < n
    → 2 ^ (n - length prefix + 1) ≡ 2 ^ (n - length (prefix ++ b ∷ []) + 1) + 2 ^ (n - length (prefix ++ b ∷ []) + 1)
twice_over n prefix b h = ap (λ (k : ℕ). 2 ^ (k + 1)) (one_less n prefix b h) ∙ ap (λ (k : ℕ). 2 ^ k) (more (n - length (prefix ++ b ∷ [])))
    ∙ doubled (n - length (prefix ++ b ∷ []) + 1)
  where
    more : (k : ℕ) → suc k + 1 ≡ (k + 1) + 1
    more k = omega arith

-- the node and the first of its extensions, at which the limit was met
pub spends_first : (first : Bool) {problem : ProblemState} {prefix : List Bool} {n greatest_read least node_limit before after : ℕ} → length prefix < n
    → greatest_read ≤ least → reaches (relaxed_welfare problem prefix) least ≡ true
    → Spends problem (prefix ++ first ∷ []) (n - length (prefix ++ first ∷ [])) least node_limit (before + 1) after false
    → Spends problem prefix (n - length prefix) greatest_read node_limit before after false
spends_first first {problem} {prefix} {n} {greatest_read} {least} {node_limit} {before} {after} few h r s =
    let next = n - length (prefix ++ first ∷ []) in
    let less = one_less n prefix first few in
    let twice = twice_over n prefix first few in
    let some = two_or_more next in
    let grows = s.grows in let all = s.all in let over = s.over_all refl in
    record {
      grows = omega (arith, grows);
      within = s.within;
      all = omega (arith, all, twice, some);
      live = λ v m. (let m' : v ≤ least = omega (arith, m, h) in let l = s.live v m' in let here = live_here problem prefix first v least
          (n - length prefix) next m' r less in omega (arith, l, here));
      unfinished = λ f. s.unfinished refl;
      over_all = λ f. omega (arith, over, twice, some);
      over_live = λ f v m. (let m' : v ≤ least = omega (arith, m, h) in let l = s.over_live refl v m' in
          let here = live_here problem prefix first v least (n - length prefix) next m' r less in omega (arith, l, here));
    }

-- the node and both of its extensions
pub spends_both : (first : Bool) {problem : ProblemState} {prefix : List Bool} {n greatest_read least later node_limit before middle after : ℕ}
    {done : Bool} → length prefix < n → greatest_read ≤ least → least ≤ later
    → reaches (relaxed_welfare problem prefix) least ≡ true
    → Spends problem (prefix ++ first ∷ []) (n - length (prefix ++ first ∷ [])) least node_limit (before + 1) middle true
    → Spends problem (prefix ++ not first ∷ []) (n - length (prefix ++ not first ∷ [])) later node_limit middle after done
    → Spends problem prefix (n - length prefix) greatest_read node_limit before after done
spends_both first {problem} {prefix} {n} {greatest_read} {least} {later} {node_limit} {before} {middle} {after} {done} few h h' r s t' =
    let next = n - length (prefix ++ first ∷ []) in
    let same : n - length (prefix ++ not first ∷ []) ≡ next = omega
    (arith, one_less n prefix first few, one_less n prefix (not first) few) in
    let t = subst (λ (k : ℕ). Spends problem (prefix ++ not first ∷ []) k later node_limit middle after done) same t' in
    let less = one_less n prefix first few in
    let twice = twice_over n prefix first few in
    let grows = s.grows in let grows' = t.grows in let all = s.all in let all' = t.all in
    record {
      grows = omega (arith, grows, grows');
      within = t.within;
      all = omega (arith, all, all', twice);
      live = λ v m. (let m' : v ≤ least = omega (arith, m, h) in let l' : v ≤ later = omega (arith, m', h') in
          let one = s.live v m' in let two = t.live v l' in
          let here = live_here problem prefix first v least (n - length prefix) next m' r less in omega (arith, one, two, here));
      unfinished = t.unfinished;
      over_all = λ f. (let over = t.over_all f in omega (arith, over, all, twice));
      over_live = λ f v m. (let m' : v ≤ least = omega (arith, m, h) in let l' : v ≤ later = omega (arith, m', h') in
          let one = s.live v m' in let two = t.over_live f v l' in
          let here = live_here problem prefix first v least (n - length prefix) next m' r less in omega (arith, one, two, here));
    }

-- ---- the nodes that a walk needs

pub needed_more : (problem : ProblemState) (prefix : List Bool) (undecided_count read later node_limit more : ℕ) → read ≤ later → node_limit ≤ more
    → HasNeeded problem prefix undecided_count read node_limit → HasNeeded problem prefix undecided_count later more
needed_more problem prefix undecided_count read later node_limit more h h' needed admissible admits value only le =
    let least = needed admissible admits value only (omega (arith, h, le)) in omega (arith, least, h')

-- a relaxed welfare that doesn't reach the value reaches no greater one
pub unreached : (welfare : Option ℤ) (value least : ℕ) → reaches welfare least ≡ false → least ≤ value → reaches welfare value ≡ false
unreached None value least e h = refl
unreached (Some (pos n)) value least e h = let less : n < least = grind (arith, nat_tests) in grind (arith, nat_tests)
unreached (Some (negsuc n)) value least e h = refl

-- and no welfare under it
pub less : (welfare bound : ℤ) (value : ℕ) → welfare ≤ℤ bound → reaches (Some bound) value ≡ false → welfare <ℤ pos value
less welfare (pos n) value h e = let under : n < value = grind (arith, nat_tests) in omega (arith, ints)
less welfare (negsuc n) value h e = omega (arith, ints)

-- the nodes that both extensions of a prefix need
abbrev further_nodes : ProblemState → (List Bool → Bool) → ℕ → List Bool → ℕ → ℕ
further_nodes problem admits value prefix undecided_count = needed_nodes problem admits value (prefix ++ false ∷ []) undecided_count
    + (if admits (padded (prefix ++ true ∷ [])) then needed_nodes problem admits value (prefix ++ true ∷ []) undecided_count else 0)

one_unless : (b : Bool) (n : ℕ) → b ≡ false → 1 + (if b then n else 0) ≤ 1
one_unless true n e = absurd (cc)
one_unless false n e = omega arith

one_and_more : (b : Bool) (n total : ℕ) → 1 + n ≤ total → 1 + (if b then n else 0) ≤ total
one_and_more true n total h = h
one_and_more false n total h = omega (arith, h)

-- a prefix needs its own node alone if it decides every block, or doesn't reach the value
one_needed : (problem : ProblemState) (admits : List Bool → Bool) (value undecided_count : ℕ) (prefix : List Bool)
    → (undecided_count ≡ 0) ⊎ (reaches (relaxed_welfare problem prefix) value ≡ false) → needed_nodes problem admits value prefix undecided_count ≤ 1
one_needed problem admits value zero prefix h = omega arith
one_needed problem admits value (suc undecided_count) prefix (inl e) = absurd (omega (arith, e))
one_needed problem admits value (suc undecided_count) prefix (inr e) =
    one_unless (reaches (relaxed_welfare problem prefix) value) (further_nodes problem admits value prefix undecided_count) e

if_admitted : (problem : ProblemState) (admits : List Bool → Bool) (selection : List Bool) (n most : ℕ) → AdmitsOnly problem admits
    → (IsAdmissible problem.blocks selection → n ≤ most) → (if admits selection then n else 0) ≤ most
if_admitted problem admits selection n most only h = elim (admits selection) as (λ (b : Bool). admits selection ≡ b → (if b then n else 0) ≤ most) [
  | true ↦ λ e. h (only selection e)
  | false ↦ λ e. omega arith
] refl

-- a prefix with one block more undecided, whose extensions have as many nodes as they need
both_needed : (problem : ProblemState) (prefix : List Bool) (first : Bool) (admits : List Bool → Bool) (value next x y total : ℕ)
    → 1 + (x + y) ≤ total → AdmitsOnly problem admits → IsAdmissible problem.blocks (padded (prefix ++ false ∷ []))
    → (IsAdmissible problem.blocks (padded (prefix ++ first ∷ [])) → needed_nodes problem admits value (prefix ++ first ∷ []) next ≤ x)
    → (IsAdmissible problem.blocks (padded (prefix ++ not first ∷ []))
    → needed_nodes problem admits value (prefix ++ not first ∷ []) next ≤ y)
    → needed_nodes problem admits value prefix (suc next) ≤ total
both_needed problem prefix true admits value next x y total h only rejected a b =
    let own = b rejected in
    let other = if_admitted problem admits (padded (prefix ++ true ∷ [])) (needed_nodes problem admits value (prefix ++ true ∷ []) next) x only a in
    one_and_more (reaches (relaxed_welfare problem prefix) value) (further_nodes problem admits value prefix next) total
    (omega (arith, h, own, other))
both_needed problem prefix false admits value next x y total h only rejected a b =
    let own = a rejected in
    let other = if_admitted problem admits (padded (prefix ++ true ∷ [])) (needed_nodes problem admits value (prefix ++ true ∷ []) next) y only b in
    one_and_more (reaches (relaxed_welfare problem prefix) value) (further_nodes problem admits value prefix next) total
    (omega (arith, h, own, other))

-- the node alone was visited: it decides every block, or its relaxed welfare is under the value
-- read
pub needed_one : (problem : ProblemState) (prefix : List Bool) (undecided_count read before after : ℕ) → after ≡ before + 1
    → (undecided_count ≡ 0) ⊎ ((value : ℕ) → read ≤ value → reaches (relaxed_welfare problem prefix) value ≡ false)
    → HasNeeded problem prefix undecided_count read (after - before)
needed_one problem prefix undecided_count read before after e (inl full) admissible admits value only le =
    let one = one_needed problem admits value undecided_count prefix (inl full) in omega (arith, e, one)
needed_one problem prefix undecided_count read before after e (inr under) admissible admits value only le =
    let one = one_needed problem admits value undecided_count prefix (inr (under value le)) in omega (arith, e, one)

-- the node and both of its extensions
pub needed_both : (problem : ProblemState) (prefix : List Bool) (first : Bool) (n read later before middle after : ℕ) → length prefix < n
    → length prefix < most_blocks → before + 1 ≤ middle → middle ≤ after → read ≤ later
    → HasNeeded problem (prefix ++ first ∷ []) (n - length (prefix ++ first ∷ [])) read (middle - (before + 1))
    → HasNeeded problem (prefix ++ not first ∷ []) (n - length (prefix ++ not first ∷ [])) later (after - middle)
    → HasNeeded problem prefix (n - length prefix) later (after - before)
needed_both problem prefix first n read later before middle after few fits more more' h one other admissible admits value only le =
    let next = n - length (prefix ++ first ∷ []) in
    let same : n - length (prefix ++ not first ∷ []) ≡ next = omega
    (arith, one_less n prefix first few, one_less n prefix (not first) few) in
    let two = subst (λ (k : ℕ). HasNeeded problem (prefix ++ not first ∷ []) k later (after - middle)) same other in
    subst (λ (k : ℕ). needed_nodes problem admits value prefix k ≤ after - before) (sym (one_less n prefix first few))
    (both_needed problem prefix first admits value next (middle - (before + 1)) (after - middle) (after - before)
    (omega (arith, more, more')) only (still_rejected problem.blocks prefix fits admissible)
    (λ fine. one fine admits value only (omega (arith, h, le))) (λ fine. two fine admits value only le))

-- no more than there are
twice_all : (undecided_count : ℕ) → 1 + ((2 ^ (undecided_count + 1) - 1) + (2 ^ (undecided_count + 1) - 1)) ≤ 2 ^ (suc undecided_count + 1) - 1
twice_all undecided_count = let e : suc undecided_count + 1 ≡ (undecided_count + 1) + 1 = omega arith in let same = ap (λ (k : ℕ). 2 ^ k) e in
    let twice = doubled (undecided_count + 1) in let some = two_or_more undecided_count in omega (arith, same, twice, some)

some_of : (reached admitted : Bool) (a b most total : ℕ) → a ≤ most → b ≤ most → 1 + (most + most) ≤ total
    → 1 + (if reached then a + (if admitted then b else 0) else 0) ≤ total
some_of true true a b most total h h' le = omega (arith, h, h', le)
some_of true false a b most total h h' le = omega (arith, h, h', le)
some_of false admitted a b most total h h' le = omega (arith, le)

pub needed_at_most : (problem : ProblemState) (admits : List Bool → Bool) (value : ℕ) (prefix : List Bool) (undecided_count : ℕ)
    → needed_nodes problem admits value prefix undecided_count ≤ node_count undecided_count
needed_at_most problem admits value prefix zero = omega arith
needed_at_most problem admits value prefix (suc undecided_count) =
    some_of (reaches (relaxed_welfare problem prefix) value) (admits (padded (prefix ++ true ∷ [])))
    (needed_nodes problem admits value (prefix ++ false ∷ []) undecided_count) (needed_nodes problem admits value (prefix ++ true ∷ []) undecided_count)
    (node_count undecided_count) (node_count (suc undecided_count)) (needed_at_most problem admits value (prefix ++ false ∷ []) undecided_count)
    (needed_at_most problem admits value (prefix ++ true ∷ []) undecided_count) (twice_all undecided_count)

-- a limit of as many nodes as there are
pub all_needed : (problem : ProblemState) (prefix : List Bool) (undecided_count read node_limit : ℕ) → node_count undecided_count ≤ node_limit → HasNeeded problem prefix undecided_count read node_limit
all_needed problem prefix undecided_count read node_limit h admissible admits value only le =
    let most = needed_at_most problem admits value prefix undecided_count in omega (arith, most, h)

-- a whole walk, before which nothing was visited
pub spent_from : (problem : ProblemState) (prefix : List Bool) (undecided_count greatest_read node_limit visited read : ℕ) (done : Bool)
    → Spends problem prefix undecided_count greatest_read node_limit 0 visited done → (done ≡ true → HasNeeded problem prefix undecided_count read (visited - 0))
    → IsSpent problem prefix undecided_count greatest_read node_limit visited read done
spent_from problem prefix undecided_count greatest_read node_limit visited read done s needed =
    let all = s.all in let some = two_or_more undecided_count in
    record {
      within = s.within;
      all = omega (arith, all, some);
      live = λ v h. (let l = s.live v h in omega (arith, l));
      unfinished = s.unfinished;
      done_by_all = λ h. true_unless done (λ f. (let over = s.over_all f in omega (arith, over, h, some)));
      done_by_live = λ v m h. true_unless done (λ f. (let over = s.over_live f v m in omega (arith, over, h)));
      needed = λ f. needed_more problem prefix undecided_count read read (visited - 0) visited (omega arith) (omega arith) (needed f);
    }
  where
    true_unless : (b : Bool) → (b ≡ false → 0 < 0) → b ≡ true
    true_unless true h = refl
    true_unless false h = absurd (let h' = h refl in omega (arith, h'))
