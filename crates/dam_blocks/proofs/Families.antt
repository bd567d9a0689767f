-- If every accepted block gains with its accepted descendants, all accepted blocks gain together: each stands in the
-- family of just one block without a parent.
use Rattle.dam_blocks.proofs.Common.{◌≡◌, ℕ, zero, suc, ◌+◌, ◌<◌, ◌≤◌, ◌==◌, ℤ, pos, ◌+ℤ◌, ◌≤ℤ◌, Bool, true, false, ◌&&◌, ◌||◌, Option, Some, None, List, []}
use Rattle.dam_blocks.proofs.Common.{◌∷◌, length, get_or, cond, nat_lt, ap, ap₂, ◌∙◌, sym, subst, refl, inl, inr, arith, ints, slice_get_within}
use Rattle.dam_blocks.proofs.Common.{get_or_from_slice_get, eq-eqb, eqb-true, cases_eq, false_from_ne_true, and_parts, BlockTerms, Block, accepts}
use Rattle.dam_blocks.proofs.Common.{over_accepted, names, parent_among, parent_place, leads_to, descends, accepted_where, accepted_descendants, surplus_of}
use Rattle.dam_blocks.proofs.Common.{surplus_at, HasNoLoss}
use Rattle.std.proofs.Common.{lt-ltb, le-ltb}
use Rattle.std.specs.List.{slice_get}
use Rattle.std.proofs.lemmas.List.Sums.{position_or_len_is}

-- ---- sums over the places below n
abbrev sum_below : ℕ → (ℕ → ℤ) → ℤ
sum_below zero g = pos 0
sum_below (suc n) g = sum_below n g +ℤ g n

sum_below-zero : (n : ℕ) → sum_below n (λ r. pos 0) ≡ pos 0
sum_below-zero zero = refl
sum_below-zero (suc n) = let rest = sum_below-zero n in omega (arith, ints, rest)

sum_below-plus : (n : ℕ) (g h : ℕ → ℤ) → sum_below n (λ r. g r +ℤ h r) ≡ sum_below n g +ℤ sum_below n h
sum_below-plus zero g h = refl
sum_below-plus (suc n) g h = let rest = sum_below-plus n g h in omega (arith, ints, rest)

sum_below-same : (n : ℕ) (g h : ℕ → ℤ) → ((r : ℕ) → g r ≡ h r) → sum_below n g ≡ sum_below n h
sum_below-same zero g h e = refl
sum_below-same (suc n) g h e = ap₂ (λ (x y : ℤ). x +ℤ y) (sum_below-same n g h e) (e n)

sum_below-at_least : (n : ℕ) (g : ℕ → ℤ) → ((r : ℕ) → pos 0 ≤ℤ g r) → pos 0 ≤ℤ sum_below n g
sum_below-at_least zero g h = omega (arith, ints)
sum_below-at_least (suc n) g h = let rest = sum_below-at_least n g h in let here = h n in omega (arith, ints, rest, here)

-- ---- a number at one place
abbrev pub where_true : Bool → ℤ → ℤ
where_true true x = x
where_true false x = pos 0

pub unequal : (m n : ℕ) → (m ≡ n → ⊥) → (m == n) ≡ false
unequal m n apart = false_from_ne_true (m == n) (λ e. apart (eqb-true m n e))

past_none : (n k : ℕ) (x : ℤ) → n ≤ k → sum_below n (λ r. where_true (k == r) x) ≡ pos 0
past_none zero k x l = refl
past_none (suc n) k x l =
    let rest = past_none n k x (omega (arith, l)) in
    let here = ap (λ (b : Bool). where_true b x) (unequal k n (λ e. (let wrong : 0 < 0 = omega (arith, l, e) in omega (arith, wrong)))) in
    omega (arith, ints, rest, here)

at_just_one : (n k : ℕ) (x : ℤ) → k < n → sum_below n (λ r. where_true (k == r) x) ≡ x
at_just_one zero k x l = absurd (omega (arith, l))
at_just_one (suc n) k x l =
    elim (cases_eq k n) [
      | inl same ↦
          (let rest = past_none n k x (omega (arith, same)) in
          let here = ap (λ (b : Bool). where_true b x) (eq-eqb k n same) in
          omega (arith, ints, rest, here))
      | inr apart ↦
          (let rest = at_just_one n k x (omega (arith, l, apart)) in
          let here = ap (λ (b : Bool). where_true b x) (unequal k n apart) in
          omega (arith, ints, rest, here))
    ]

-- ---- sums over the accepted places that pass a test
first_apart : (f : BlockTerms → ℤ) (b : Block) (bs : List Block) (c : Bool) (sel : List Bool)
    → over_accepted f (b ∷ bs) (c ∷ sel) ≡ where_true c (f b.order) +ℤ over_accepted f bs sel
first_apart f b bs true sel = refl
first_apart f b bs false sel = omega (arith, ints)

zero_first : (i : ℕ) → 0 + i ≡ i
zero_first i = omega arith

first_place : (t : ℕ) → t + 0 ≡ t
first_place t = omega arith

next_place : (t i : ℕ) → t + suc i ≡ suc t + i
next_place t i = omega arith

where_same : (p q : ℕ → Bool) (t : ℕ) (sel : List Bool) → ((i : ℕ) → accepts sel i ≡ true → p (t + i) ≡ q (t + i))
    → accepted_where p t sel ≡ accepted_where q t sel
where_same p q t [] h = refl
where_same p q t (true ∷ sel) h =
    ap₂ (λ (c : Bool) (cs : List Bool). c ∷ cs)
    (subst (λ (m : ℕ). p m ≡ q m) (first_place t) (h 0 refl))
    (where_same p q (suc t) sel (λ i e. subst (λ (m : ℕ). p m ≡ q m) (next_place t i) (h (suc i) e)))
where_same p q t (false ∷ sel) h =
    ap (λ (cs : List Bool). false ∷ cs)
    (where_same p q (suc t) sel (λ i e. subst (λ (m : ℕ). p m ≡ q m) (next_place t i) (h (suc i) e)))

where_accepted : (p : ℕ → Bool) (t : ℕ) (sel : List Bool) (i : ℕ) → accepts (accepted_where p t sel) i ≡ true
    → (accepts sel i ≡ true) × (p (t + i) ≡ true)
where_accepted p t [] i e = absurd (cc)
where_accepted p t (a ∷ sel) zero e =
    let parts = and_parts a (p t) e in (parts.0, ap p (first_place t) ∙ parts.1)
where_accepted p t (a ∷ sel) (suc i) e =
    let rest = where_accepted p (suc t) sel i e in (rest.0, ap p (next_place t i) ∙ rest.1)

-- a sum over accepted places that is known to be at least 0 if there is any
over_accepted-at_least_or : (f : BlockTerms → ℤ) (bs : List Block) (sel : List Bool)
    → ((i : ℕ) → accepts sel i ≡ true → pos 0 ≤ℤ over_accepted f bs sel) → pos 0 ≤ℤ over_accepted f bs sel
over_accepted-at_least_or f [] sel h = omega (arith, ints)
over_accepted-at_least_or f (b ∷ bs) [] h = omega (arith, ints)
over_accepted-at_least_or f (b ∷ bs) (true ∷ sel) h = h 0 refl
over_accepted-at_least_or f (b ∷ bs) (false ∷ sel) h = over_accepted-at_least_or f bs sel (λ i e. h (suc i) e)

-- a sum over the accepted places is the sum over all places of the numbers there
by_place : (f : BlockTerms → ℤ) (n : ℕ) (root : ℕ → ℕ) (bs : List Block) (t : ℕ) (sel : List Bool)
    → ((i : ℕ) → accepts sel i ≡ true → root (t + i) < n)
    → sum_below n (λ r. over_accepted f bs (accepted_where (λ j. root j == r) t sel)) ≡ over_accepted f bs sel
by_place f n root [] t sel h = sum_below-zero n
by_place f n root (b ∷ bs) t [] h = sum_below-zero n
by_place f n root (b ∷ bs) t (true ∷ sel) h =
    let family : ℕ → List Bool = λ r. accepted_where (λ j. root j == r) (suc t) sel in
    let apart = sum_below-same n
    (λ r. over_accepted f (b ∷ bs) ((root t == r) ∷ family r))
    (λ r. where_true (root t == r) (f b.order) +ℤ over_accepted f bs (family r))
    (λ r. first_apart f b bs (root t == r) (family r)) in
    let both = sum_below-plus n (λ r. where_true (root t == r) (f b.order))
    (λ r. over_accepted f bs (family r)) in
    let here = at_just_one n (root t) (f b.order) (subst (λ (m : ℕ). root m < n) (first_place t) (h 0 refl)) in
    let rest = by_place f n root bs (suc t) sel (λ i e. subst (λ (m : ℕ). root m < n) (next_place t i) (h (suc i) e)) in
    omega (arith, ints, apart, both, here, rest)
by_place f n root (b ∷ bs) t (false ∷ sel) h =
    by_place f n root bs (suc t) sel (λ i e. subst (λ (m : ℕ). root m < n) (next_place t i) (h (suc i) e))

-- one more place joins those that pass a test
one_more : (f : BlockTerms → ℤ) (d : ℕ → Bool) (bs : List Block) (t k : ℕ) (sel : List Bool) (b : Block)
    → d (t + k) ≡ false → accepts sel k ≡ true → slice_get bs k ≡ Some b
    → over_accepted f bs (accepted_where (λ j. (j == t + k) || d j) t sel) ≡ f b.order +ℤ over_accepted f bs (accepted_where d t sel)
one_more f d [] t k sel b apart acc at = absurd (cc)
one_more f d (c ∷ bs) t k [] b apart acc at = absurd (cc)
one_more f d (c ∷ bs) t zero (a ∷ sel) b apart acc at =
    let is : c ≡ b = cc in
    let yes_here : (a && ((t == t + 0) || d t)) ≡ true = (let taken : a ≡ true = acc in let eq = eq-eqb t (t + 0) (omega arith) in cc) in
    let no_here : (a && d t) ≡ false = (let taken : a ≡ true = acc in let off : d t ≡ false = sym (ap d (first_place t)) ∙ apart in cc) in
    let rest = where_same (λ j. (j == t + 0) || d j) d (suc t) sel
    (λ i e. ap (λ (x : Bool). x || d (suc t + i))
    (unequal (suc t + i) (t + 0) (λ w. (let wrong : 0 < 0 = omega (arith, w) in omega (arith, wrong))))) in
    let with_it = first_apart f c bs (a && ((t == t + 0) || d t)) (accepted_where (λ j. (j == t + 0) || d j) (suc t) sel) in
    let without = first_apart f c bs (a && d t) (accepted_where d (suc t) sel) in
    let one = ap (λ (x : Bool). where_true x (f c.order)) yes_here in
    let none = ap (λ (x : Bool). where_true x (f c.order)) no_here in
    let same_rest = ap (λ (m : List Bool). over_accepted f bs m) rest in
    let own = ap (λ (x : Block). f x.order) is in
    omega (arith, ints, with_it, without, one, none, same_rest, own)
one_more f d (c ∷ bs) t (suc k) (a ∷ sel) b apart acc at =
    let place : suc t + k ≡ t + suc k = omega arith in
    let deeper = one_more f d bs (suc t) k sel b (ap d place ∙ apart) acc at in
    let moved = subst (λ (m : ℕ). over_accepted f bs (accepted_where (λ j. (j == m) || d j) (suc t) sel) ≡ f b.order
    +ℤ over_accepted f bs (accepted_where d (suc t) sel)) place deeper in
    let here : (a && ((t == t + suc k) || d t)) ≡ (a && d t) =
    ap (λ (x : Bool). a && (x || d t)) (unequal t (t + suc k) (λ w. (let wrong : 0 < 0 = omega (arith, w) in omega (arith, wrong)))) in
    let with_it = first_apart f c bs (a && ((t == t + suc k) || d t)) (accepted_where (λ j. (j == t + suc k) || d j) (suc t) sel) in
    let without = first_apart f c bs (a && d t) (accepted_where d (suc t) sel) in
    let same = ap (λ (x : Bool). where_true x (f c.order)) here in
    omega (arith, ints, moved, with_it, without, same)

-- ---- the block without a parent that a chain ends at
abbrev pub root_from : ℕ → List Block → ℕ → Option ℕ → ℕ
root_from n blocks j None = j
root_from zero blocks j (Some p) = j
root_from (suc n) blocks j (Some p) = root_from n blocks p (parent_place blocks p)

abbrev pub root : List Block → ℕ → ℕ
root blocks j = root_from (length blocks) blocks j (parent_place blocks j)

-- parents stand before their children, and are accepted with them
pub record AreChains (blocks : List Block) (sel : List Bool) : Type 0 where
  pub before : (j p : ℕ) → parent_place blocks j ≡ Some p → p < j
  pub with_parent : (j p : ℕ) → accepts sel j ≡ true → parent_place blocks j ≡ Some p → accepts sel p ≡ true
  pub within : (j : ℕ) → accepts sel j ≡ true → (b : Block) × (slice_get blocks j ≡ Some b)

-- an accepted place with no parent
pub record IsTop (blocks : List Block) (sel : List Bool) (r : ℕ) : Type 0 where
  pub accepted : accepts sel r ≡ true
  pub top : parent_place blocks r ≡ None

pub root_is_top : (blocks : List Block) (sel : List Bool) (n j : ℕ) (o : Option ℕ) → AreChains blocks sel → parent_place blocks j ≡ o
    → accepts sel j ≡ true → ((p : ℕ) → o ≡ Some p → p < n) → IsTop blocks sel (root_from n blocks j o) × (root_from n blocks j o ≤ j)
root_is_top blocks sel n j None chains e acc l = (record { accepted = acc; top = e }, omega arith)
root_is_top blocks sel zero j (Some p) chains e acc l = absurd (let wrong = l p refl in omega (arith, wrong))
root_is_top blocks sel (suc n) j (Some p) chains e acc l =
    let near = l p refl in
    let below = chains.before j p e in
    let deeper = root_is_top blocks sel n p (parent_place blocks p) chains refl (chains.with_parent j p acc e)
    (λ q is. (let under = chains.before p q is in omega (arith, under, near))) in
    let least = deeper.1 in
    (deeper.0, omega (arith, least, below))

or_false : (x : Bool) → (x || false) ≡ x
or_false true = refl
or_false false = refl

not_the_top : (blocks : List Block) (r j p : ℕ) → parent_place blocks r ≡ None → parent_place blocks j ≡ Some p → (j == r) ≡ false
not_the_top blocks r j p top e = unequal j r (λ (same : j ≡ r). absurd (let there = ap (λ (m : ℕ). parent_place blocks m) same in cc))

one_link : (blocks : List Block) (r n p : ℕ) (o : Option ℕ) → parent_place blocks r ≡ None → parent_place blocks p ≡ o
    → ((q : ℕ) → o ≡ Some q → leads_to n blocks r (Some q) ≡ (root_from n blocks p (Some q) == r))
    → ((p == r) || leads_to n blocks r o) ≡ (root_from n blocks p o == r)
one_link blocks r n p None top e deeper = or_false (p == r)
one_link blocks r n p (Some q) top e deeper =
    ap (λ (x : Bool). x || leads_to n blocks r (Some q)) (not_the_top blocks r p q top e) ∙ deeper q refl

-- a chain leads to a block without a parent exactly if it ends there
leads_to_its_root : (blocks : List Block) (sel : List Bool) (r n j p : ℕ) → AreChains blocks sel → parent_place blocks r ≡ None → p < n
    → leads_to n blocks r (Some p) ≡ (root_from n blocks j (Some p) == r)
leads_to_its_root blocks sel r zero j p chains top l = absurd (omega (arith, l))
leads_to_its_root blocks sel r (suc n) j p chains top l =
    one_link blocks r n p (parent_place blocks p) top refl
    (λ q e. (let below = chains.before p q e in leads_to_its_root blocks sel r n p q chains top (omega (arith, l, below))))

-- the members of the family of a block without a parent
pub in_family : (blocks : List Block) (sel : List Bool) (r j : ℕ) (o : Option ℕ) → AreChains blocks sel → parent_place blocks r ≡ None
    → parent_place blocks j ≡ o → j < length blocks
    → (root_from (length blocks) blocks j o == r) ≡ ((j == r) || leads_to (length blocks) blocks r o)
in_family blocks sel r j None chains top e l = sym (or_false (j == r))
in_family blocks sel r j (Some p) chains top e l =
    let below = chains.before j p e in
    sym (ap (λ (x : Bool). x || leads_to (length blocks) blocks r (Some p)) (not_the_top blocks r j p top e)
    ∙ leads_to_its_root blocks sel r (length blocks) j p chains top (omega (arith, below, l)))

-- the gain of the accepted blocks whose chains end at a place
abbrev family_gain : List Block → List Bool → List ℤ → ℕ → ℤ
family_gain blocks sel prices r = over_accepted (surplus_of prices) blocks (accepted_where (λ j. root blocks j == r) 0 sel)

top_gains : (blocks : List Block) (sel : List Bool) (prices : List ℤ) (r : ℕ) → AreChains blocks sel → HasNoLoss blocks sel prices
    → IsTop blocks sel r → pos 0 ≤ℤ family_gain blocks sel prices r
top_gains blocks sel prices r chains no_loss is =
    let stands = chains.within r is.accepted in
    let family = where_same (λ j. root blocks j == r) (λ j. (j == 0 + r) || descends blocks r j) 0 sel
    (λ i acc. subst (λ (m : ℕ). (root blocks m == r) ≡ ((m == 0 + r) || descends blocks r m)) (sym (zero_first i))
    (let there = chains.within i acc in
    subst (λ (m : ℕ). (root blocks i == r) ≡ ((i == m) || descends blocks r i)) (sym (zero_first r))
    (in_family blocks sel r i (parent_place blocks i) chains is.top refl (slice_get_within blocks i there.0 there.1)))) in
    let itself : descends blocks r r ≡ false = ap (λ (o : Option ℕ). leads_to (length blocks) blocks r o) is.top in
    let more = one_more (surplus_of prices) (descends blocks r) blocks 0 r sel stands.0 (ap (λ (m : ℕ). descends blocks r m) (zero_first r)
    ∙ itself) is.accepted stands.1 in
    let same = ap (λ (m : List Bool). over_accepted (surplus_of prices) blocks m) family in
    let own : surplus_at blocks prices r ≡ surplus_of prices stands.0.order = rw stands.1 in
    let gain = no_loss.gains r is.accepted in
    omega (arith, ints, same, more, own, gain)

family_gains : (blocks : List Block) (sel : List Bool) (prices : List ℤ) (r : ℕ) → AreChains blocks sel → HasNoLoss blocks sel prices
    → pos 0 ≤ℤ family_gain blocks sel prices r
family_gains blocks sel prices r chains no_loss =
    over_accepted-at_least_or (surplus_of prices) blocks (accepted_where (λ j. root blocks j == r) 0 sel) (λ i passes.
    (let parts = where_accepted (λ j. root blocks j == r) 0 sel i passes in
    let there = chains.within i parts.0 in
    let ends = root_is_top blocks sel (length blocks) i (parent_place blocks i) chains refl parts.0
    (λ p is. (let below = chains.before i p is in let inside = slice_get_within blocks i there.0 there.1 in
    omega (arith, below, inside))) in
    let same = eqb-true (root blocks i) r (ap (λ (m : ℕ). root blocks m == r) (sym (zero_first i)) ∙ parts.1) in
    top_gains blocks sel prices r chains no_loss (subst (λ (m : ℕ). IsTop blocks sel m) same ends.0)))

pub no_loss_in_families : (blocks : List Block) (sel : List Bool) (prices : List ℤ) → AreChains blocks sel → HasNoLoss blocks sel prices
    → pos 0 ≤ℤ over_accepted (surplus_of prices) blocks sel
no_loss_in_families blocks sel prices chains no_loss =
    let all = by_place (surplus_of prices) (length blocks) (root blocks) blocks 0 sel
    (λ i acc. subst (λ (m : ℕ). root blocks m < length blocks) (sym (zero_first i)) (let there = chains.within i acc in
    let inside = slice_get_within blocks i there.0 there.1 in
    let ends = root_is_top blocks sel (length blocks) i (parent_place blocks i) chains refl acc
    (λ p is. (let below = chains.before i p is in omega (arith, below, inside))) in
    let least = ends.1 in omega (arith, least, inside))) in
    let each = sum_below-at_least (length blocks) (family_gain blocks sel prices) (λ r. family_gains blocks sel prices r chains no_loss) in
    omega (arith, ints, all, each)

-- ---- going through the blocks for a parent
pub first_parent : (blocks : List Block) (j i : ℕ) (child parent : Block) → slice_get blocks j ≡ Some child
    → slice_get blocks i ≡ Some parent
    → ((k : ℕ) → k < i → names (get_or blocks k child) child ≡ false) → names parent child ≡ true → parent_place blocks j ≡ Some i
first_parent blocks j i child parent at there before named =
    let inside = slice_get_within blocks i parent there in
    let is = get_or_from_slice_get blocks i parent child there in
    let first = position_or_len_is (λ q. names q child) blocks i child (omega (arith, inside)) before
    (λ l. ap (λ (q : Block). names q child) is ∙ named) in
    ap (λ (o : Option Block). parent_among blocks o) at
    ∙ ap (λ (n : ℕ). cond (nat_lt n (length blocks)) (Some n) None) first
    ∙ ap (λ (b : Bool). cond b (Some i) None) (lt-ltb i (length blocks) inside)

pub no_parent : (blocks : List Block) (j : ℕ) (child : Block) → slice_get blocks j ≡ Some child
    → ((k : ℕ) → k < length blocks → names (get_or blocks k child) child ≡ false) → parent_place blocks j ≡ None
no_parent blocks j child at none =
    let last = position_or_len_is (λ q. names q child) blocks (length blocks) child (omega arith) none (λ l. absurd (omega (arith, l))) in
    ap (λ (o : Option Block). parent_among blocks o) at
    ∙ ap (λ (n : ℕ). cond (nat_lt n (length blocks)) (Some n) None) last
    ∙ ap (λ (b : Bool). cond b (Some (length blocks)) None) (le-ltb (length blocks) (length blocks) (omega arith))

-- if a chain begins elsewhere, the rest of it leads to a place if all of it does
pub next_link : (blocks : List Block) (m n i p : ℕ) (o : Option ℕ) → n ≡ suc m → (p ≡ i → ⊥) → o ≡ Some p
    → leads_to m blocks i (parent_place blocks p) ≡ leads_to n blocks i o
next_link blocks m n i p o one apart is =
    sym (ap₂ (λ (k : ℕ) (q : Option ℕ). leads_to k blocks i q) one is
    ∙ ap (λ (x : Bool). x || leads_to m blocks i (parent_place blocks p)) (unequal p i apart))

-- which places of the selection pass the test
pub accepts_where : (p : ℕ → Bool) (t : ℕ) (sel : List Bool) (i : ℕ) → accepts (accepted_where p t sel) i ≡ (accepts sel i && p (t + i))
accepts_where p t [] i = refl
accepts_where p t (a ∷ sel) zero = ap (λ (m : ℕ). a && p m) (sym (first_place t))
accepts_where p t (a ∷ sel) (suc i) = accepts_where p (suc t) sel i ∙ ap (λ (m : ℕ). accepts sel i && p m) (sym (next_place t i))

pub accepts_descendant : (blocks : List Block) (sel : List Bool) (i j : ℕ)
    → accepts (accepted_descendants blocks sel i) j ≡ (accepts sel j && descends blocks i j)
accepts_descendant blocks sel i j =
    accepts_where (descends blocks i) 0 sel j ∙ ap (λ (m : ℕ). accepts sel j && descends blocks i m) (zero_first j)
