-- The nodes of a walk by prices, and walks over their open selections after one another.
use Rattle.dam_search.proofs.Common.{◌≡◌, ℕ, zero, suc, ◌<◌, ◌≤◌, max, ◌⊎◌, inl, inr, ℤ, pos, ◌+ℤ◌, ◌≤ℤ◌, ◌<ℤ◌, Bool, true, false, not, Option, Some, None}
use Rattle.dam_search.proofs.Common.{List, [], ◌∷◌, MatchBool, ◌↔◌, ◌==◌, ◌||◌, length, slice_set, slice_index_or, ◌∙◌, ap, sym, subst, refl, arith, ints}
use Rattle.dam_search.proofs.Common.{cases_eq, eqb-true, length-set, most_blocks, Solution, ProblemState, accepts, IsAdmissible, IsEligible, RanksAtOrBelow}
use Rattle.dam_search.proofs.Common.{is_among, IsOpen, AreFree, IsMatched, Rises, welfare_found, IsLong, AreDecisions, with_place_if, with_all}
use Rattle.std.proofs.lemmas.Int.{clamps}
use Rattle.dam_blocks.specs.Eligible.{ArePrices, HasNoLoss, selection_welfare}
use Rattle.dam_blocks.specs.Result.{accepts_first}
use Rattle.dam_bound.specs.declared.pricing.Pricing.{Pricing}
use Rattle.dam_bound.specs.Relaxed.{without_rows}
use Rattle.dam_bound.specs.Prices.{bound_of, over_gains, IsPricing}
use Rattle.dam_search.specs.declared.walk_state.WalkState.{WalkState}
use Rattle.dam_search.specs.inside.Conflicts.{AcceptsAll, AcceptsNone}
use Rattle.dam_search.specs.inside.PriceWalk.{IsBounded, bound_after, IsOpenFind, FindsOpen, CoversOpen, IsReady, IsWalkedOpen}
use Rattle.dam_search.proofs.Places.{among_rest, not_among, decided_here, decided_there, still_free}
use Rattle.dam_search.proofs.Ranks.{IsTransitive, stays, welfare_rises, ranks_with_itself, matched_rises, rises_twice}

-- ---- the places of a node

pub all_within : (accepted : List Bool) (undecided : List ℕ) → AreFree accepted undecided → (k d : ℕ) → k < length undecided
    → slice_index_or undecided k d < most_blocks
all_within accepted [] free k d l = absurd (omega (arith, l))
all_within accepted (place ∷ undecided) free zero d l = free.0
all_within accepted (place ∷ undecided) free (suc k) d l = all_within accepted undecided free.3 k d (omega (arith, l))

free_among : (accepted : List Bool) (undecided : List ℕ) (place : ℕ) → AreFree accepted undecided → is_among place undecided ≡ true → accepts accepted place ≡ false
free_among accepted [] place free e = absurd (cc)
free_among accepted (other ∷ undecided) place free e =
    elim (place == other) as (λ b. (place == other) ≡ b → accepts accepted place ≡ false) [
      | true ↦ λ same. subst (λ (k : ℕ). accepts accepted k ≡ false) (sym (eqb-true place other same)) free.1
      | false ↦ λ differ. free_among accepted undecided place free.3 (sym (ap (λ (b : Bool). b || is_among place undecided) differ) ∙ e)
    ] refl

-- an open selection accepts the node's accepted places, and none of the rejected ones
pub accepts_taken : (accepted : List Bool) (undecided : List ℕ) (selection : List Bool) → AreFree accepted undecided → IsOpen accepted undecided selection
    → AcceptsAll accepted selection
accepts_taken accepted undecided selection free is place e =
    elim (is_among place undecided) as (λ b. is_among place undecided ≡ b → accepts selection place ≡ true) [
      | true ↦ λ among. (let none : true ≡ false = sym e ∙ free_among accepted undecided place free among in absurd (cc))
      | false ↦ λ apart. is.agrees place apart ∙ e
    ] refl

pub accepts_none_rejected : (accepted rejected : List Bool) (undecided : List ℕ) (selection : List Bool) → AreDecisions accepted rejected undecided
    → IsOpen accepted undecided selection → AcceptsNone rejected selection
accepts_none_rejected accepted rejected undecided selection node is place e =
    let apart = node.apart place e in is.agrees place apart.1 ∙ apart.0

-- ---- a decision on the next place

pub node_after : (accept : Bool) (accepted rejected : List Bool) (place : ℕ) (undecided : List ℕ) → AreDecisions accepted rejected (place ∷ undecided)
    → AreDecisions (with_place_if accept accepted place) (with_place_if (not accept) rejected place) undecided
node_after true accepted rejected place undecided node = record {
  as_long = length-set accepted place true ∙ node.as_long;
  free = still_free true accepted place undecided node.free.2 node.free.3;
  few = (let few = node.few in omega (arith, few));
  apart = λ other e.
      (let was = node.apart other e in
      let rest = among_rest other place undecided was.1 in
      (decided_there true accepted place other rest.0 ∙ was.0, rest.1));
}
node_after false accepted rejected place undecided node = record {
  as_long = node.as_long;
  free = node.free.3;
  few = (let few = node.few in omega (arith, few));
  apart = λ other e. elim (cases_eq other place) [
    | inl same ↦ (
      subst (λ (k : ℕ). accepts accepted k ≡ false) (sym same) node.free.1,
      subst (λ (k : ℕ). is_among k undecided ≡ false) (sym same) node.free.2,
    )
    | inr ne ↦
        (let was = node.apart other (sym (decided_there true rejected place other ne) ∙ e) in
        (was.0, (among_rest other place undecided was.1).1))
  ];
}

-- the law of dam_bound on the gain of a place more
abbrev pub GainsAddUp : Type 0
GainsAddUp = (gains : List ℤ) (selection : List Bool) (place : ℕ) → place < length gains → place < length selection → accepts selection place ≡ false
    → over_gains gains (slice_set selection place true) ≡ over_gains gains selection +ℤ slice_index_or gains place (pos 0)

pub bounded_after : GainsAddUp → (accept : Bool) (problem : ProblemState) (prices : Pricing) (accepted rejected : List Bool) (place : ℕ) (undecided : List ℕ)
    (bound : ℤ) → AreDecisions accepted rejected (place ∷ undecided) → IsBounded problem prices accepted (place ∷ undecided) bound
    → IsBounded problem prices (with_place_if accept accepted place) undecided (bound_after accept bound (slice_index_or prices.gains place (pos 0)))
bounded_after law true problem prices accepted rejected place undecided bound node is = record {
  is_pricing = is.is_pricing;
  bound_reaches =
      let inside = subst (λ (n : ℕ). place < n) (sym is.is_pricing.many) node.free.0 in
      let more = law prices.gains accepted place inside (subst (λ (n : ℕ). place < n) (sym node.as_long) node.free.0) node.free.1 in
      let most = is.bound_reaches in
      omega (arith, ints, clamps, more, most);
}
bounded_after law false problem prices accepted rejected place undecided bound node is = record {
  is_pricing = is.is_pricing;
  bound_reaches = (let most = is.bound_reaches in omega (arith, ints, clamps, most));
}

-- an open selection stays open after its own decision on the next place
open_decided : (accept : Bool) (accepted rejected : List Bool) (place : ℕ) (undecided : List ℕ) (selection : List Bool)
    → AreDecisions accepted rejected (place ∷ undecided) → IsOpen accepted (place ∷ undecided) selection → accepts selection place ≡ accept
    → IsOpen (with_place_if accept accepted place) undecided selection
open_decided accept accepted rejected place undecided selection node is e = record {
  as_long = is.as_long;
  agrees = λ other apart. elim (cases_eq other place) [
    | inl same ↦ subst (λ (k : ℕ). accepts selection k ≡ accepts (with_place_if accept accepted place) k) (sym same)
        (e ∙ sym (decided_here accept accepted place (subst (λ (n : ℕ). place < n) (sym node.as_long) node.free.0) node.free.1))
    | inr ne ↦ is.agrees other (not_among other place undecided ne apart) ∙ sym (decided_there accept accepted place other ne)
  ];
}

-- so it is one of either decision
open_by : (first : Bool) (accepted rejected : List Bool) (place : ℕ) (undecided : List ℕ) (selection : List Bool)
    → AreDecisions accepted rejected (place ∷ undecided) → IsOpen accepted (place ∷ undecided) selection
    → IsOpen (with_place_if first accepted place) undecided selection ⊎ IsOpen (with_place_if (not first) accepted place) undecided selection
open_by first accepted rejected place undecided selection node is = either first (accepts selection place) refl
  where
    own : (accept : Bool) → accepts selection place ≡ accept → IsOpen (with_place_if accept accepted place) undecided selection
    own accept e = open_decided accept accepted rejected place undecided selection node is e

    either : (b c : Bool) → accepts selection place ≡ c
        → IsOpen (with_place_if b accepted place) undecided selection ⊎ IsOpen (with_place_if (not b) accepted place) undecided selection
    either true true e = inl (own true e)
    either true false e = inr (own false e)
    either false true e = inr (own true e)
    either false false e = inl (own false e)

-- a selection that is open after a decision was open before it
pub open_any : (accept : Bool) (accepted : List Bool) (place : ℕ) (undecided : List ℕ) (selection : List Bool)
    → IsOpen (with_place_if accept accepted place) undecided selection → IsOpen accepted (place ∷ undecided) selection
open_any accept accepted place undecided selection is = record {
  as_long = is.as_long;
  agrees = λ other apart. (let rest = among_rest other place undecided apart in is.agrees other rest.1 ∙ decided_there accept accepted place other rest.0);
}

-- it has the decision
pub open_here : (accept : Bool) (accepted rejected : List Bool) (place : ℕ) (undecided : List ℕ) (selection : List Bool)
    → AreDecisions accepted rejected (place ∷ undecided) → IsOpen (with_place_if accept accepted place) undecided selection → accepts selection place ≡ accept
open_here accept accepted rejected place undecided selection node is =
    is.agrees place node.free.2
    ∙ decided_here accept accepted place (subst (λ (n : ℕ). place < n) (sym node.as_long) node.free.0) node.free.1

pub not_both : (b c : Bool) → b ≡ c → b ≡ not c → ⊥
not_both true true e f = absurd (cc)
not_both true false e f = absurd (cc)
not_both false true e f = absurd (cc)
not_both false false e f = absurd (cc)

-- ---- every place that is left accepted

accepts_over : (undecided : List ℕ) (accepted selection : List Bool) → length accepted ≡ most_blocks → AreFree accepted undecided
    → ((place : ℕ) → is_among place undecided ≡ false → accepts selection place ≡ true → accepts accepted place ≡ true)
    → AcceptsAll selection (with_all accepted undecided)
accepts_over [] accepted selection long free h = λ place e. h place refl e
accepts_over (next ∷ undecided) accepted selection long free h =
    accepts_over undecided (slice_set accepted next true) selection (length-set accepted next true ∙ long)
    (still_free true accepted next undecided free.2 free.3)
    (λ place apart e. elim (cases_eq place next) [
      | inl same ↦ subst (λ (k : ℕ). accepts (slice_set accepted next true) k ≡ true) (sym same)
          (decided_here true accepted next (subst (λ (n : ℕ). next < n) (sym long) free.0) free.1)
      | inr ne ↦ decided_there true accepted next place ne ∙ h place (not_among place next undecided ne apart) e
    ])

pub length-with_all : (undecided : List ℕ) (accepted : List Bool) → length (with_all accepted undecided) ≡ length accepted
length-with_all [] accepted = refl
length-with_all (place ∷ undecided) accepted = length-with_all undecided (slice_set accepted place true) ∙ length-set accepted place true

pub highest_accepts_all : (accepted : List Bool) (undecided : List ℕ) (selection : List Bool) → length accepted ≡ most_blocks → AreFree accepted undecided
    → IsOpen accepted undecided selection → AcceptsAll selection (with_all accepted undecided)
highest_accepts_all accepted undecided selection long free is =
    accepts_over undecided accepted selection long free (λ place apart e. sym (is.agrees place apart) ∙ e)

-- what accepts first before another, so does what accepts more
first_more : (xs ts ys : List Bool) → length xs ≡ length ts → AcceptsAll xs ts → accepts_first xs ys ≡ true → accepts_first ts ys ≡ true
first_more [] ts ys long h e = absurd (cc)
first_more (x ∷ xs) [] ys long h e = absurd (omega (arith, long))
first_more (true ∷ xs) (t ∷ ts) [] long h e = absurd (cc)
first_more (false ∷ xs) (t ∷ ts) [] long h e = absurd (cc)
first_more (true ∷ xs) (true ∷ ts) (true ∷ ys) long h e = first_more xs ts ys (omega (arith, long)) (λ place. h (suc place)) e
first_more (true ∷ xs) (true ∷ ts) (false ∷ ys) long h e = refl
first_more (true ∷ xs) (false ∷ ts) (y ∷ ys) long h e = (let no : false ≡ true = h 0 refl in absurd (cc))
first_more (false ∷ xs) (t ∷ ts) (true ∷ ys) long h e = absurd (cc)
first_more (false ∷ xs) (true ∷ ts) (false ∷ ys) long h e = refl
first_more (false ∷ xs) (false ∷ ts) (false ∷ ys) long h e = first_more xs ts ys (omega (arith, long)) (λ place. h (suc place)) e

first_less : (xs ts ys : List Bool) → length xs ≡ length ts → AcceptsAll xs ts → accepts_first ts ys ≡ false → accepts_first xs ys ≡ false
first_less xs ts ys long h e = elim (accepts_first xs ys) as (λ b. accepts_first xs ys ≡ b → b ≡ false) [
  | true ↦ λ f. sym (first_more xs ts ys long h f) ∙ e
  | false ↦ λ f. refl
] refl

-- a selection with no more welfare that accepts no more ranks no higher
pub ranks_less : (welfare greater other : ℤ) (xs ts ys : List Bool) → length xs ≡ length ts → AcceptsAll xs ts → welfare ≤ℤ greater → RanksAtOrBelow greater ts other ys
    → RanksAtOrBelow welfare xs other ys
ranks_less welfare greater other xs ts ys long h le below =
    let by = below.by_welfare in
    record {
      by_welfare = omega (arith, ints, le, by);
      by_order = λ e. first_less xs ts ys long h (below.by_order (omega (arith, ints, e, le, by)));
    }

pub not_above : (r : Bool) (Above Below : Type 0) → not r ≡ true → MatchBool r Above Below → Below
not_above true Above Below e h = absurd (cc)
not_above false Above Below e h = h

-- ---- the finds

pub finds_none : (problem : ProblemState) (accepted : List Bool) (undecided : List ℕ) (best : Option Solution) → FindsOpen problem accepted undecided best best
finds_none problem accepted undecided best = record { found = inl refl; rises = stays best }

long_open : (problem : ProblemState) (accepted : List Bool) (undecided : List ℕ) (best : Option Solution) → IsOpenFind problem accepted undecided best → IsLong best
long_open problem accepted undecided None h = tt
long_open problem accepted undecided (Some b) h = h.0.as_long

pub long_after : (problem : ProblemState) (accepted : List Bool) (undecided : List ℕ) (a b : Option Solution) → IsLong a → FindsOpen problem accepted undecided a b
    → IsLong b
long_after problem accepted undecided a b long f = elim f.found [
  | inl e ↦ subst IsLong (sym e) long
  | inr g ↦ long_open problem accepted undecided b g
]

any_open_find : (accept : Bool) (problem : ProblemState) (accepted : List Bool) (place : ℕ) (undecided : List ℕ) (best : Option Solution)
    → IsOpenFind problem (with_place_if accept accepted place) undecided best → IsOpenFind problem accepted (place ∷ undecided) best
any_open_find accept problem accepted place undecided None h = tt
any_open_find accept problem accepted place undecided (Some b) h = (open_any accept accepted place undecided b.selection h.0, h.1)

finds_either : (one other : Bool) (problem : ProblemState) (accepted : List Bool) (place : ℕ) (undecided : List ℕ) (a b c : Option Solution) → IsTransitive
    → IsLong a → FindsOpen problem (with_place_if one accepted place) undecided a b → FindsOpen problem (with_place_if other accepted place) undecided b c
    → FindsOpen problem accepted (place ∷ undecided) a c
finds_either one other problem accepted place undecided a b c transitive long f g =
    let long_b = long_after problem (with_place_if one accepted place) undecided a b long f in
    let long_c = long_after problem (with_place_if other accepted place) undecided b c long_b g in
    record {
      found = elim g.found [
        | inl e ↦ elim f.found [
          | inl d ↦ inl (e ∙ d)
          | inr h ↦ inr (subst (λ (o : Option Solution). IsOpenFind problem accepted (place ∷ undecided) o) (sym e) (any_open_find one problem accepted place undecided b h))
        ]
        | inr h ↦ inr (any_open_find other problem accepted place undecided c h)
      ];
      rises = rises_twice a b c transitive long long_b long_c f.rises g.rises;
    }

covers_later : (problem : ProblemState) (accepted : List Bool) (undecided : List ℕ) (a b : Option Solution) (read next : ℕ) → IsTransitive → IsLong a → IsLong b
    → Rises a b → read ≤ next → CoversOpen problem accepted undecided a read → CoversOpen problem accepted undecided b next
covers_later problem accepted undecided a b read next transitive la lb h more covers selection welfare is e = elim (covers selection welfare is e) [
  | inl less ↦ inl (omega (arith, ints, less, more))
  | inr m ↦ inr (matched_rises welfare selection a b transitive e.as_long la lb m h)
]

covers_either : (first : Bool) (problem : ProblemState) (accepted rejected : List Bool) (place : ℕ) (undecided : List ℕ) (best : Option Solution) (read : ℕ)
    → AreDecisions accepted rejected (place ∷ undecided)
    → CoversOpen problem (with_place_if first accepted place) undecided best read → CoversOpen problem (with_place_if (not first) accepted place) undecided best read
    → CoversOpen problem accepted (place ∷ undecided) best read
covers_either first problem accepted rejected place undecided best read node one other selection welfare is e =
    elim (open_by first accepted rejected place undecided selection node is) [ inl a ↦ one selection welfare a e | inr b ↦ other selection welfare b e ]

-- ---- whole walks

-- nothing is state
pub walked_nothing : {problem : ProblemState} {accepted : List Bool} {undecided : List ℕ} {read offer : ℕ} {state : WalkState} → IsReady read offer state
    → CoversOpen problem accepted undecided state.best state.incumbent_read → IsWalkedOpen problem accepted undecided offer read offer state state
walked_nothing {problem} {accepted} {undecided} {read} {offer} {state} ready covers = record {
  finds = finds_none problem accepted undecided state.best;
  covers = covers;
  grows = omega arith;
  read = ready.read;
  offered = (let offered = ready.offered in omega (arith, offered));
}

-- the value was read again, and nothing is found
pub walked_over : {problem : ProblemState} {accepted : List Bool} {undecided : List ℕ} {read offer read' offer' : ℕ} {before now : WalkState}
    → IsReady read offer before → now.best ≡ before.best → before.incumbent_read ≤ now.incumbent_read → now.incumbent_read ≡ read' → offer' ≡ offer
    → CoversOpen problem accepted undecided now.best now.incumbent_read → IsWalkedOpen problem accepted undecided offer read' offer' before now
walked_over {problem} {accepted} {undecided} {read} {offer} {read'} {offer'} {before} {now} ready same more is_read kept covers = record {
  finds = subst (λ (o : Option Solution). FindsOpen problem accepted undecided before.best o) (sym same) (finds_none problem accepted undecided before.best);
  covers = covers;
  grows = more;
  read = is_read;
  offered =
      let offered = ready.offered in
      let found = ap welfare_found same in
      omega (arith, kept, offered, found);
}

-- both decisions
pub walked_both : (first : Bool) {problem : ProblemState} {accepted rejected : List Bool} {place : ℕ} {undecided : List ℕ}
    {read₀ offer₀ read₁ offer₁ read₂ offer₂ : ℕ} {a b c : WalkState} → IsTransitive → AreDecisions accepted rejected (place ∷ undecided) → IsReady read₀ offer₀ a
    → IsWalkedOpen problem (with_place_if first accepted place) undecided offer₀ read₁ offer₁ a b
    → IsWalkedOpen problem (with_place_if (not first) accepted place) undecided offer₁ read₂ offer₂ b c
    → IsWalkedOpen problem accepted (place ∷ undecided) offer₀ read₂ offer₂ a c
walked_both first {problem} {accepted} {rejected} {place} {undecided} {read₀} {offer₀} {read₁} {offer₁} {read₂} {offer₂} {a} {b} {c} transitive node ready one other =
    let long_b = long_after problem (with_place_if first accepted place) undecided a.best b.best ready.long one.finds in
    let long_c = long_after problem (with_place_if (not first) accepted place) undecided b.best c.best long_b other.finds in
    let rises = welfare_rises b.best c.best other.finds.rises in
    let grows = one.grows in let grows' = other.grows in let offered = one.offered in let offered' = other.offered in
    record {
      finds = finds_either first (not first) problem accepted place undecided a.best b.best c.best transitive ready.long one.finds other.finds;
      covers = covers_either first problem accepted rejected place undecided c.best c.incumbent_read node
          (covers_later problem (with_place_if first accepted place) undecided b.best c.best b.incumbent_read c.incumbent_read transitive long_b long_c other.finds.rises grows' one.covers)
          other.covers;
      grows = omega (arith, grows, grows');
      read = other.read;
      offered = omega (arith, rises, offered, offered');
    }

-- ---- a node that leaves no place

-- the one selection that is open
pub open_nothing : (accepted selection : List Bool) → length accepted ≡ most_blocks → IsOpen accepted [] selection → selection ≡ accepted
open_nothing accepted selection long is = same selection accepted (is.as_long ∙ sym long) (λ place. is.agrees place refl)
  where
    same : (xs ys : List Bool) → length xs ≡ length ys → ((place : ℕ) → accepts xs place ≡ accepts ys place) → xs ≡ ys
    same [] [] l h = refl
    same [] (y ∷ ys) l h = absurd (omega (arith, l))
    same (x ∷ xs) [] l h = absurd (omega (arith, l))
    same (x ∷ xs) (y ∷ ys) l h =
        ap (λ (b : Bool). b ∷ xs) (h 0) ∙ ap (λ (zs : List Bool). y ∷ zs) (same xs ys (omega (arith, l)) (λ place. h (suc place)))

pub is_open : (accepted : List Bool) → length accepted ≡ most_blocks → IsOpen accepted [] accepted
is_open accepted long = record { as_long = long; agrees = λ place e. refl }

-- what holds of the node's selection at its welfares holds of each open one
pub covers_leaf : {problem relaxed : ProblemState} {accepted : List Bool} (best : Option Solution) {read : ℕ} → length accepted ≡ most_blocks
    → relaxed ≡ without_rows problem
    → ((welfare : ℤ) → IsEligible problem accepted welfare → selection_welfare relaxed accepted ≡ Some welfare → (welfare <ℤ pos read) ⊎ IsMatched welfare accepted best)
    → CoversOpen problem accepted [] best read
covers_leaf {problem} {relaxed} {accepted} best {read} long same h selection welfare is e =
    let only = open_nothing accepted selection long is in
    let eligible = subst (λ (xs : List Bool). IsEligible problem xs welfare) only e in
    let has_welfare = subst (λ (p : ProblemState). selection_welfare p accepted ≡ Some welfare) (sym same) eligible.welfare_is in
    subst (λ (xs : List Bool). (welfare <ℤ pos read) ⊎ IsMatched welfare xs best) (sym only) (h welfare eligible has_welfare)

pub one_welfare : (x : Option ℤ) (other welfare : ℤ) → x ≡ Some other → x ≡ Some welfare → other ≡ welfare
one_welfare x other welfare e f = let both : Some other ≡ Some welfare = sym e ∙ f in cc

-- the Bool is true exactly if some accepted block loses
abbrev pub TellsLossOf : ProblemState → List Bool → Bool → Type 0
TellsLossOf problem accepted loss = (prices : List ℤ) → ArePrices problem.blocks accepted 1 problem.hours prices
    → (loss ≡ false) ↔ HasNoLoss problem.blocks accepted prices

pub no_eligible_loss : (problem relaxed : ProblemState) (accepted : List Bool) (loss : Bool) (welfare : ℤ) → relaxed ≡ without_rows problem → loss ≡ true
    → TellsLossOf relaxed accepted loss → IsEligible problem accepted welfare → ⊥
no_eligible_loss problem relaxed accepted loss welfare same e tells is =
    let tells' = subst (λ (p : ProblemState). TellsLossOf p accepted loss) same tells in
    let none : loss ≡ false = (tells' is.prices is.are_prices).1 is.no_loss in absurd (cc)

pub eligible_leaf : (problem relaxed : ProblemState) (accepted : List Bool) (loss : Bool) (welfare : ℤ) → relaxed ≡ without_rows problem
    → length accepted ≡ most_blocks → loss ≡ false → TellsLossOf relaxed accepted loss → IsAdmissible problem.blocks accepted
    → selection_welfare problem accepted ≡ Some welfare
    → (prices : List ℤ) × ArePrices problem.blocks accepted 1 problem.hours prices → IsEligible problem accepted welfare
eligible_leaf problem relaxed accepted loss welfare same long e tells admissible has_welfare prices = record {
  as_long = long;
  admissible = admissible;
  prices = prices.0;
  are_prices = prices.1;
  no_loss =
      let tells' = subst (λ (p : ProblemState). TellsLossOf p accepted loss) same tells in
      (tells' prices.0 prices.1).0 e;
  welfare_is = has_welfare;
}

pub with_rows : (problem relaxed : ProblemState) (accepted : List Bool) (welfare : ℤ) → relaxed ≡ without_rows problem
    → selection_welfare relaxed accepted ≡ Some welfare → selection_welfare problem accepted ≡ Some welfare
with_rows problem relaxed accepted welfare same e = subst (λ (p : ProblemState). selection_welfare p accepted ≡ Some welfare) same e

-- it is found
pub walked_leaf : {problem : ProblemState} {accepted : List Bool} {read offer read' offer' : ℕ} {before after : WalkState} {best : Solution}
    → length accepted ≡ most_blocks → IsReady read offer before → after.best ≡ Some best → after.incumbent_read ≡ before.incumbent_read → best.selection ≡ accepted
    → IsEligible problem accepted (pos best.welfare) → Rises before.best (Some best) → read' ≡ read → offer' ≡ max offer best.welfare
    → IsWalkedOpen problem accepted [] offer read' offer' before after
walked_leaf {problem} {accepted} {read} {offer} {read'} {offer'} {before} {after} {best} long ready found kept is eligible rises same_read offered = record {
  finds = record {
    found = inr (subst (λ (o : Option Solution). IsOpenFind problem accepted [] o) (sym found) (
      subst (λ (xs : List Bool). IsOpen accepted [] xs) (sym is) (is_open accepted long),
      subst (λ (xs : List Bool). IsEligible problem xs (pos best.welfare)) (sym is) eligible,
    ));
    rises = subst (λ (o : Option Solution). Rises before.best o) (sym found) rises;
  };
  covers = λ selection welfare opened e.
      (let only = open_nothing accepted selection long opened in
      let has_welfare = subst (λ (xs : List Bool). selection_welfare problem xs ≡ Some welfare) only e.welfare_is in
      let same = one_welfare (selection_welfare problem accepted) welfare (pos best.welfare) has_welfare eligible.welfare_is in
      inr (subst (λ (o : Option Solution). IsMatched welfare selection o) (sym found)
      (subst (λ (xs : List Bool). RanksAtOrBelow welfare xs (pos best.welfare) best.selection) (is ∙ sym only)
      (subst (λ (z : ℤ). RanksAtOrBelow z best.selection (pos best.welfare) best.selection) (sym same)
      (ranks_with_itself (pos best.welfare) best.selection)))));
  grows = omega (arith, kept);
  read = (let was = ready.read in omega (arith, kept, was, same_read));
  offered = offered ∙ ap (λ (o : Option Solution). max offer (welfare_found o)) (sym found);
}

-- ---- the parts of a node as they are passed on

pub node_is : {accepted rejected accepted' rejected' : List Bool} {undecided undecided' : List ℕ} → accepted' ≡ accepted → rejected' ≡ rejected → undecided' ≡ undecided
    → AreDecisions accepted rejected undecided → AreDecisions accepted' rejected' undecided'
node_is {accepted} {rejected} {accepted'} {rejected'} {undecided} {undecided'} e f g node =
    subst (λ (xs : List Bool). AreDecisions xs rejected' undecided') (sym e)
    (subst (λ (xs : List Bool). AreDecisions accepted xs undecided') (sym f) (subst (λ (xs : List ℕ). AreDecisions accepted rejected xs) (sym g) node))

pub bounded_is : {problem : ProblemState} {prices : Pricing} {accepted accepted' : List Bool} {undecided undecided' : List ℕ} {bound bound' : ℤ}
    → accepted' ≡ accepted → undecided' ≡ undecided → bound' ≡ bound → IsBounded problem prices accepted undecided bound → IsBounded problem prices accepted' undecided' bound'
bounded_is {problem} {prices} {accepted} {accepted'} {undecided} {undecided'} {bound} {bound'} e f g is =
    subst (λ (xs : List Bool). IsBounded problem prices xs undecided' bound') (sym e)
    (subst (λ (xs : List ℕ). IsBounded problem prices accepted xs bound') (sym f)
    (subst (λ (z : ℤ). IsBounded problem prices accepted undecided z) (sym g) is))

-- no open selection has more welfare than a node's bound
abbrev pub IsOpenBound : Type 0
IsOpenBound = (problem : ProblemState) (bound : Pricing) (accepted selection : List Bool) (undecided : List ℕ) (welfare : ℤ)
    → IsPricing problem bound → length accepted ≡ most_blocks → AreFree accepted undecided
    → IsOpen accepted undecided selection → selection_welfare problem selection ≡ Some welfare → welfare ≤ℤ bound_of bound accepted undecided

pub under_bound : {problem relaxed : ProblemState} {prices : Pricing} {accepted rejected selection : List Bool} {undecided : List ℕ} {bound welfare : ℤ}
    → IsOpenBound → relaxed ≡ without_rows problem → AreDecisions accepted rejected undecided → IsBounded relaxed prices accepted undecided bound
    → IsOpen accepted undecided selection → IsEligible problem selection welfare → welfare ≤ℤ bound
under_bound {problem} {relaxed} {prices} {accepted} {rejected} {selection} {undecided} {bound} {welfare} law same node is opened e =
    let has_welfare = subst (λ (p : ProblemState). selection_welfare p selection ≡ Some welfare) (sym same) e.welfare_is in
    let most = law relaxed prices accepted selection undecided welfare is.is_pricing node.as_long node.free opened has_welfare in
    let least = is.bound_reaches in
    omega (arith, ints, most, least)
