-- A block accepted in place of another with the same side and volumes: prices stay, and a better limit raises the welfare.
use Rattle.dam_blocks.proofs.Common.{◌≡◌, inl, inr, ℕ, zero, suc, ◌+◌, ◌<◌, ◌≤◌, ℤ, pos, negsuc, ◌+ℤ◌, ◌-ℤ◌, ◌*ℤ◌, ◌≤ℤ◌, Bool, true, false, ◌&&◌, ◌||◌, cond}
use Rattle.dam_blocks.proofs.Common.{nat_lt, Option, Some, None, List, [], ◌∷◌, length, ap, ap₂, ◌∙◌, sym, subst, refl, arith, option_map, unwrap_or, ints}
use Rattle.dam_blocks.proofs.Common.{cases_lt, cases_eq, eq-eqb, nat_tests, slice_get_within, BlockTerms, Side, Buy, Sell, Step, IsBetter, signed}
use Rattle.dam_blocks.proofs.Common.{greatest_welfare, Block, ProblemState, IsParent, AreBlocks, IsProblem, accepts, volume_in, over_accepted}
use Rattle.dam_blocks.proofs.Common.{net_volume_of_block, value_in, net_volume, accepted_value, IsAllowed, IsAdmissible, descends, accepted_descendants}
use Rattle.dam_blocks.proofs.Common.{IsChildAt, Descends, Child, OfChild, surplus_of, surplus_at, family_surplus, HasNoLoss, added, period_welfare}
use Rattle.dam_blocks.proofs.Common.{welfare_from, IsEligible, IsResult, with_limit}
use Rattle.std.proofs.Common.{◌<ℤ◌, set}
use Rattle.std.specs.List.{slice_get}
use Rattle.dam_book.specs.Volumes.{Pair, have_beyond, ArePairs}
use Rattle.dam_blocks.specs.Problem.{IsBlock}
use Rattle.dam_blocks.specs.Market.{StandsAlone}
use Rattle.dam_blocks.proofs.Families.{accepts_descendant}
use Rattle.dam_blocks.proofs.GroupCounts.{count_at_most, count_alone, other_has_group}
use Rattle.dam_blocks.proofs.Descending.{descends_is}
use Rattle.dam_blocks.proofs.WelfareAtLeastZero.{added_some, raised_some, same_block}
use Rattle.dam_blocks.proofs.Sums.{over_accepted-nil}
use Rattle.dam_blocks.proofs.Participants.{over_accepted-agree}
use Rattle.dam_blocks.proofs.Transfer.{prices_transfer}
use Rattle.dam_blocks.proofs.Repricing.{minus_times, value_raised, surplus_raised}

-- ---- one place decided otherwise
decided_there : (xs : List Bool) (i : ℕ) (d : Bool) → i < length xs → accepts (set xs i d) i ≡ d
decided_there [] i d l = absurd (omega (arith, l))
decided_there (x ∷ xs) zero d l = refl
decided_there (x ∷ xs) (suc i) d l = decided_there xs i d (omega (arith, l))

decided_elsewhere : (xs : List Bool) (i k : ℕ) (d : Bool) → (k ≡ i → ⊥) → accepts (set xs i d) k ≡ accepts xs k
decided_elsewhere [] i k d apart = refl
decided_elsewhere (x ∷ xs) zero zero d apart = absurd (apart refl)
decided_elsewhere (x ∷ xs) zero (suc k) d apart = refl
decided_elsewhere (x ∷ xs) (suc i) zero d apart = refl
decided_elsewhere (x ∷ xs) (suc i) (suc k) d apart = decided_elsewhere xs i k d (λ e. apart (ap suc e))

as_long : (xs : List Bool) (i : ℕ) (d : Bool) → length (set xs i d) ≡ length xs
as_long [] i d = refl
as_long (x ∷ xs) zero d = refl
as_long (x ∷ xs) (suc i) d = ap suc (as_long xs i d)

sum_with : (f : BlockTerms → ℤ) (bs : List Block) (xs : List Bool) (i : ℕ) (b : Block) → slice_get bs i ≡ Some b → i < length xs
    → accepts xs i ≡ false → over_accepted f bs (set xs i true) ≡ f b.order +ℤ over_accepted f bs xs
sum_with f [] xs i b at l off = absurd (cc)
sum_with f (c ∷ bs) [] i b at l off = absurd (omega (arith, l))
sum_with f (c ∷ bs) (true ∷ xs) zero b at l off = absurd (cc)
sum_with f (c ∷ bs) (false ∷ xs) zero b at l off = let same : c ≡ b = cc in ap (λ (d : Block). f d.order +ℤ over_accepted f bs xs) same
sum_with f (c ∷ bs) (true ∷ xs) (suc i) b at l off = let rest = sum_with f bs xs i b at (omega (arith, l)) off in omega (arith, ints, rest)
sum_with f (c ∷ bs) (false ∷ xs) (suc i) b at l off = sum_with f bs xs i b at (omega (arith, l)) off

sum_without : (f : BlockTerms → ℤ) (bs : List Block) (xs : List Bool) (i : ℕ) (b : Block) → slice_get bs i ≡ Some b
    → accepts xs i ≡ true → f b.order +ℤ over_accepted f bs (set xs i false) ≡ over_accepted f bs xs
sum_without f [] xs i b at on = absurd (cc)
sum_without f (c ∷ bs) [] i b at on = absurd (cc)
sum_without f (c ∷ bs) (false ∷ xs) zero b at on = absurd (cc)
sum_without f (c ∷ bs) (true ∷ xs) zero b at on = let same : b ≡ c = cc in ap (λ (d : Block). f d.order +ℤ over_accepted f bs xs) same
sum_without f (c ∷ bs) (true ∷ xs) (suc i) b at on = let rest = sum_without f bs xs i b at on in omega (arith, ints, rest)
sum_without f (c ∷ bs) (false ∷ xs) (suc i) b at on = sum_without f bs xs i b at on

accepted_within : (xs : List Bool) (j : ℕ) → accepts xs j ≡ true → j < length xs
accepted_within [] j on = absurd (cc)
accepted_within (x ∷ xs) zero on = omega arith
accepted_within (x ∷ xs) (suc j) on = let rest = accepted_within xs j on in omega (arith, rest)

-- ---- blocks that stand alone

childless : (bs : List Block) (i k : ℕ) (b : Block) → slice_get bs i ≡ Some b → StandsAlone bs b → Descends bs i k → ⊥
childless bs i _ b at alone (Child k is) =
    alone.no_child k is.child is.child_stands
    (subst (λ (p : Block). IsParent p is.child) (same_block is.parent b (sym is.parent_stands ∙ at)) is.is_parent)
childless bs i _ b at alone (OfChild m k further is) = childless bs i m b at alone further

parentless : (bs : List Block) (p i : ℕ) (b : Block) → slice_get bs i ≡ Some b → StandsAlone bs b → IsChildAt bs p i → ⊥
parentless bs p i b at alone is =
    let same = same_block is.child b (sym is.child_stands ∙ at) in
    let e : None ≡ Some is.parent.name = sym alone.no_parent ∙ ap (λ (d : Block). d.order.parent) (sym same) ∙ is.is_parent.name in
    absurd (cc)

no_descendant : (bs : List Block) (a i : ℕ) (b : Block) → slice_get bs i ≡ Some b → StandsAlone bs b → Descends bs a i → ⊥
no_descendant bs a _ b at alone (Child i is) = parentless bs a i b at alone is
no_descendant bs a _ b at alone (OfChild k i further is) = parentless bs k i b at alone is

not_true : (b : Bool) → (b ≡ true → ⊥) → b ≡ false
not_true true h = absurd (h refl)
not_true false h = refl

and_false : (x : Bool) → (x && false) ≡ false
and_false true = refl
and_false false = refl

gain_alone : (problem : ProblemState) (xs : List Bool) (prices : List ℤ) (i : ℕ) (b : Block) → IsProblem problem
    → slice_get problem.blocks i ≡ Some b → StandsAlone problem.blocks b → family_surplus problem.blocks xs prices i ≡ surplus_of prices b.order
gain_alone problem xs prices i b is at alone =
    let bs = problem.blocks in
    let own : surplus_at bs prices i ≡ surplus_of prices b.order =
    ap (λ (o : Option Block). unwrap_or (option_map (λ c. surplus_of prices c.order) o) (pos 0)) at in
    let none = over_accepted-agree (surplus_of prices) bs (accepted_descendants bs xs i) [] (λ m d there.
    accepts_descendant bs xs i m
    ∙ ap (λ (x : Bool). accepts xs m && x) (not_true (descends bs i m) (λ e. childless bs i m b at alone ((descends_is problem i m is).0 e)))
    ∙ and_false (accepts xs m)) in
    let nil = over_accepted-nil (surplus_of prices) bs in
    omega (arith, ints, own, none, nil)

-- ---- two such blocks
record AreTwo (problem : ProblemState) (i j : ℕ) (b c : Block) : Type 0 where
  is : IsProblem problem
  first : slice_get problem.blocks i ≡ Some b
  second : slice_get problem.blocks j ≡ Some c
  alone : StandsAlone problem.blocks b
  other : StandsAlone problem.blocks c
  alike : b.order ≡ (with_limit c b.order.price).order
  better : IsBetter c.order.side b.order.price c.order.price

abbrev exchanged : List Bool → ℕ → ℕ → List Bool
exchanged xs i j = set (set xs j false) i true

record AreDecided (xs : List Bool) (i j : ℕ) : Type 0 where
  off : accepts xs i ≡ false
  on : accepts xs j ≡ true
  within : i < length xs

apart_of : (xs : List Bool) (i j : ℕ) → AreDecided xs i j → i ≡ j → ⊥
apart_of xs i j d e = (let there = ap (λ (k : ℕ). accepts xs k) e in let off = d.off in let on = d.on in absurd (cc))

inside : (xs : List Bool) (i j : ℕ) → AreDecided xs i j → i < length (set xs j false)
inside xs i j d = let long = as_long xs j false in let l = d.within in omega (arith, long, l)

now_on : (xs : List Bool) (i j : ℕ) → AreDecided xs i j → accepts (exchanged xs i j) i ≡ true
now_on xs i j d = decided_there (set xs j false) i true (inside xs i j d)

now_off : (xs : List Bool) (i j : ℕ) → AreDecided xs i j → accepts (exchanged xs i j) j ≡ false
now_off xs i j d =
    decided_elsewhere (set xs j false) i j true (λ e. apart_of xs i j d (sym e))
    ∙ decided_there xs j false (accepted_within xs j d.on)

as_before : (xs : List Bool) (i j k : ℕ) → (k ≡ i → ⊥) → (k ≡ j → ⊥) → accepts (exchanged xs i j) k ≡ accepts xs k
as_before xs i j k a b = decided_elsewhere (set xs j false) i k true a ∙ decided_elsewhere xs j k false b

sum_exchanged : (problem : ProblemState) (i j : ℕ) (b c : Block) (xs : List Bool) (f : BlockTerms → ℤ) → AreTwo problem i j b c
    → AreDecided xs i j
    → over_accepted f problem.blocks (exchanged xs i j) +ℤ f c.order ≡ over_accepted f problem.blocks xs +ℤ f b.order
sum_exchanged problem i j b c xs f two d =
    let zs = set xs j false in
    let off = decided_elsewhere xs j i false (apart_of xs i j d) ∙ d.off in
    let more = sum_with f problem.blocks zs i b two.first (inside xs i j d) off in
    let less = sum_without f problem.blocks xs j c two.second d.on in
    omega (arith, ints, more, less)

same_net : (problem : ProblemState) (i j : ℕ) (b c : Block) (xs : List Bool) (t : ℕ) → AreTwo problem i j b c → AreDecided xs i j
    → net_volume problem.blocks xs t ≡ net_volume problem.blocks (exchanged xs i j) t
same_net problem i j b c xs t two d =
    let sum = sum_exchanged problem i j b c xs (net_volume_of_block t) two d in
    let own : net_volume_of_block t b.order ≡ net_volume_of_block t c.order = ap (λ (o : BlockTerms). net_volume_of_block t o) two.alike in
    omega (arith, ints, sum, own)

-- ---- the welfare
abbrev raise : (ℕ → ℤ) → ℕ → List (List Step) → ℤ
raise d t [] = pos 0
raise d t (ss ∷ hours) = d t +ℤ raise d (suc t) hours

welfare_raised : (bs : List Block) (xs ys : List Bool) (d : ℕ → ℤ) (t : ℕ) (hours : List (List Step)) (v : ℤ)
    → ((s : ℕ) → net_volume bs xs s ≡ net_volume bs ys s) → ((s : ℕ) → accepted_value bs ys s ≡ accepted_value bs xs s +ℤ d s)
    → welfare_from bs xs t hours ≡ Some v → welfare_from bs ys t hours ≡ Some (v +ℤ raise d t hours)
welfare_raised bs xs ys d t [] v net value e = e ∙ ap (λ (z : ℤ). Some z) (omega (arith, ints))
welfare_raised bs xs ys d t (ss ∷ hours) v net value e =
    let parts = added_some (period_welfare bs xs t ss) (welfare_from bs xs (suc t) hours) v e in
    let found = raised_some (greatest_welfare ss (net_volume bs xs t)) (accepted_value bs xs t) parts.0 parts.2 in
    let rest = welfare_raised bs xs ys d (suc t) hours parts.1 net value parts.3 in
    let own : period_welfare bs ys t ss ≡ Some (found.0 +ℤ accepted_value bs ys t) =
    ap (λ (n : ℤ). option_map (λ w. w +ℤ accepted_value bs ys t) (greatest_welfare ss n)) (sym (net t))
    ∙ ap (λ (o : Option ℤ). option_map (λ w. w +ℤ accepted_value bs ys t) o) found.1 in
    let here = value t in let first = found.2 in let sum = parts.4 in
    let whole : (found.0 +ℤ accepted_value bs ys t) +ℤ (parts.1 +ℤ raise d (suc t) hours) ≡ v +ℤ raise d t (ss ∷ hours) =
    omega (arith, ints, here, first, sum) in
    ap₂ (λ (x y : Option ℤ). added x y) own rest ∙ ap (λ (z : ℤ). Some z) whole

raise_at_least : (d : ℕ → ℤ) (t : ℕ) (hours : List (List Step)) → ((s : ℕ) → pos 0 ≤ℤ d s) → pos 0 ≤ℤ raise d t hours
raise_at_least d t [] h = omega (arith, ints)
raise_at_least d t (ss ∷ hours) h = let here = h t in let rest = raise_at_least d (suc t) hours h in omega (arith, ints, here, rest)

raise_above : (d : ℕ → ℤ) (t s : ℕ) (hours : List (List Step)) → ((r : ℕ) → pos 0 ≤ℤ d r) → t ≤ s → s < t + length hours → pos 0 <ℤ d s
    → pos 0 <ℤ raise d t hours
raise_above d t s [] h low high more = absurd (let wrong : 0 < 0 = omega (arith, low, high) in omega (arith, wrong))
raise_above d t s (ss ∷ hours) h low high more = elim (cases_lt t s) [
  | inl later ↦
      (let here = h t in let rest = raise_above d (suc t) s hours h (omega (arith, later)) (omega (arith, high)) more in
      omega (arith, ints, here, rest))
  | inr now ↦
      (let same : t ≡ s = omega (arith, low, now) in
      let here = subst (λ (r : ℕ). pos 0 <ℤ d r) (sym same) more in
      let rest = raise_at_least d (suc t) hours h in
      omega (arith, ints, here, rest))
]

-- a volume above 0 in a period of the day
some_volume : (n : ℕ) (ps : List Pair) → 0 < length ps → ArePairs ps → have_beyond n ps ≡ false
    → (s : ℕ) × (1 ≤ s) × (s ≤ n) × (1 ≤ volume_in ps s)
some_volume n [] l are e = absurd (omega (arith, l))
some_volume n (p ∷ ps) l are e =
    let own = ap (λ (x : Bool). cond x p.1 (volume_in ps p.0)) (eq-eqb p.0 p.0 refl) in
    let qty = are.1.at_least in
    (p.0, are.0.at_least, within (nat_lt n p.0) refl e, omega (arith, own, qty))
  where
    within : (x : Bool) → nat_lt n p.0 ≡ x → (x || have_beyond n ps) ≡ false → p.0 ≤ n
    within true t f = absurd (cc)
    within false t f = grind (arith, nat_tests, t)

block_there : (periods : ℕ) (bs : List Block) (i : ℕ) (b : Block) → AreBlocks periods bs → slice_get bs i ≡ Some b → IsBlock periods b
block_there periods [] i b are at = absurd (cc)
block_there periods (c ∷ bs) zero b are at = subst (λ (d : Block). IsBlock periods d) (same_block c b at) are.0
block_there periods (c ∷ bs) (suc i) b are at = block_there periods bs i b are.1 at

positive_times : (z : ℤ) (x : ℕ) → pos 0 <ℤ z → 1 ≤ x → pos 0 <ℤ (z *ℤ pos x)
positive_times (pos zero) x h l = absurd (let no : 0 < 0 = omega (arith, ints, h) in omega (arith, no))
positive_times (pos (suc n)) zero h l = absurd (omega (arith, l))
positive_times (pos (suc n)) (suc x) h l = omega (arith, ints)
positive_times (negsuc n) x h l = absurd (let no : 0 < 0 = omega (arith, ints, h) in omega (arith, no))

times_above : (a b : ℤ) (x : ℕ) → a <ℤ b → 1 ≤ x → (a *ℤ pos x) <ℤ (b *ℤ pos x)
times_above a b x h l =
    let parts = minus_times b a x in
    let more = positive_times (b -ℤ a) x (omega (arith, ints, h)) l in
    omega (arith, ints, parts, more)

value_above : (side : Side) (old new : ℤ) (x : ℕ) → IsBetter side new old → 1 ≤ x
    → signed side (old *ℤ pos x) <ℤ signed side (new *ℤ pos x)
value_above Buy old new x h l = times_above old new x h l
value_above Sell old new x h l = let m = times_above new old x h l in omega (arith, ints, m)

abbrev difference : Block → Block → ℕ → ℤ
difference b c t = value_in t b.order -ℤ value_in t c.order

value_alike : (b c : Block) (t : ℕ) → b.order ≡ (with_limit c b.order.price).order
    → value_in t b.order ≡ signed c.order.side (b.order.price *ℤ pos (volume_in c.order.volumes t))
value_alike b c t alike = ap (λ (o : BlockTerms). value_in t o) alike

more_welfare : (problem : ProblemState) (i j : ℕ) (b c : Block) (xs : List Bool) (v : ℤ) → AreTwo problem i j b c → AreDecided xs i j
    → welfare_from problem.blocks xs 1 problem.hours ≡ Some v
    → (w : ℤ) × (welfare_from problem.blocks (exchanged xs i j) 1 problem.hours ≡ Some w) × (v <ℤ w)
more_welfare problem i j b c xs v two d e =
    let each : (s : ℕ) → pos 0 ≤ℤ difference b c s = λ s.
    (let same = value_alike b c s two.alike in
    let more = value_raised c.order.side c.order.price b.order.price (volume_in c.order.volumes s) two.better in
    omega (arith, ints, same, more)) in
    let worse = block_there (length problem.hours) problem.blocks j c two.is.blocks two.second in
    let some = some_volume (length problem.hours) c.order.volumes worse.order.volumes.nonempty worse.order.volumes.ranges worse.in_day in
    let same = value_alike b c some.0 two.alike in
    let above = value_above c.order.side c.order.price b.order.price (volume_in c.order.volumes some.0) two.better some.3 in
    let least = some.1 in let most = some.2 in
    let raised = raise_above (difference b c) 1 some.0 problem.hours each least (omega (arith, most)) (omega (arith, ints, same, above)) in (
      v +ℤ raise (difference b c) 1 problem.hours,
      welfare_raised problem.blocks xs (exchanged xs i j) (difference b c) 1 problem.hours v (λ s. same_net problem i j b c xs s two d)
          (λ s. (let sum = sum_exchanged problem i j b c xs (value_in s) two d in omega (arith, ints, sum))) e,
      omega (arith, ints, raised),
    )

-- ---- eligible
-- an accepted block is the better block, or was accepted before
was_accepted : (xs : List Bool) (i j k : ℕ) → AreDecided xs i j → (k ≡ i → ⊥) → accepts (exchanged xs i j) k ≡ true → accepts xs k ≡ true
was_accepted xs i j k d from_i on =
    sym (as_before xs i j k from_i (λ e. (let off = ap (λ (n : ℕ). accepts (exchanged xs i j) n) e ∙ now_off xs i j d in absurd (cc)))) ∙ on

-- a block of a group is accepted only if it was before
was_on : (problem : ProblemState) (i j m : ℕ) (b c other : Block) (xs : List Bool) → AreTwo problem i j b c → AreDecided xs i j
    → slice_get problem.blocks m ≡ Some other → (other.order.group ≡ None → ⊥) → accepts (exchanged xs i j) m ≡ true → accepts xs m ≡ true
was_on problem i j m b c other xs two d at grouped on = elim (cases_eq m i) [
  | inl e ↦
      (let same = same_block other b (sym at ∙ ap (λ (n : ℕ). slice_get problem.blocks n) e ∙ two.first) in
      absurd (grouped (ap (λ (q : Block). q.order.group) same ∙ two.alone.no_group)))
  | inr from_i ↦ was_accepted xs i j m d from_i on
]

allowed_too : (problem : ProblemState) (i j k : ℕ) (b c : Block) (xs : List Bool) → AreTwo problem i j b c → AreDecided xs i j
    → IsAllowed problem.blocks xs k → IsAllowed problem.blocks (exchanged xs i j) k
allowed_too problem i j k b c xs two d allowed = record {
  block = allowed.block;
  stands = allowed.stands;
  parent = λ m other at is.
      elim (cases_eq m i) [
        | inl e ↦ ap (λ (n : ℕ). accepts (exchanged xs i j) n) e ∙ now_on xs i j d
        | inr from_i ↦ elim (cases_eq m j) [
          | inl e ↦
              (let same = same_block other c (sym at ∙ ap (λ (n : ℕ). slice_get problem.blocks n) e ∙ two.second) in
              absurd (two.other.no_child k allowed.block allowed.stands (subst (λ (q : Block). IsParent q allowed.block) same is)))
          | inr from_j ↦ as_before xs i j m from_i from_j ∙ allowed.parent m other at is
        ]
      ];
  group =
      (let fewer = count_at_most allowed.block problem.blocks (exchanged xs i j) xs (λ m other at one on.
      was_on problem i j m b c other xs two d at (λ none. other_has_group allowed.block other one none) on) in
      let most = allowed.group in
      omega (arith, fewer, most));
}

own_allowed : (problem : ProblemState) (i : ℕ) (b : Block) (ys : List Bool) → slice_get problem.blocks i ≡ Some b
    → StandsAlone problem.blocks b → IsAllowed problem.blocks ys i
own_allowed problem i b ys at alone = record {
  block = b;
  stands = at;
  parent = λ m other there is. (let no : None ≡ Some other.name = sym alone.no_parent ∙ is.name in absurd (cc));
  group = (let none = count_alone b problem.blocks ys alone.no_group in omega (arith, none));
}

admissible_too : (problem : ProblemState) (i j : ℕ) (b c : Block) (xs : List Bool) → AreTwo problem i j b c → AreDecided xs i j
    → IsAdmissible problem.blocks xs → IsAdmissible problem.blocks (exchanged xs i j)
admissible_too problem i j b c xs two d admissible = record {
  each = λ k on. elim (cases_eq k i) [
    | inl e ↦ subst (λ (n : ℕ). IsAllowed problem.blocks (exchanged xs i j) n) (sym e)
        (own_allowed problem i b (exchanged xs i j) two.first two.alone)
    | inr from_i ↦ allowed_too problem i j k b c xs two d (admissible.each k (was_accepted xs i j k d from_i on))
  ];
}

same_where : (x y d : Bool) → (d ≡ true → x ≡ y) → (x && d) ≡ (y && d)
same_where x y true h = ap (λ (z : Bool). z && true) (h refl)
same_where x y false h = and_false x ∙ sym (and_false y)

gain_before : (problem : ProblemState) (i j k : ℕ) (b c : Block) (xs : List Bool) (prices : List ℤ) → AreTwo problem i j b c
    → family_surplus problem.blocks (exchanged xs i j) prices k ≡ family_surplus problem.blocks xs prices k
gain_before problem i j k b c xs prices two =
    let bs = problem.blocks in
    let ys = exchanged xs i j in
    ap (λ (z : ℤ). surplus_at bs prices k +ℤ z)
    (over_accepted-agree (surplus_of prices) bs (accepted_descendants bs ys k) (accepted_descendants bs xs k) (λ m q at.
    accepts_descendant bs ys k m
    ∙ same_where (accepts ys m) (accepts xs m) (descends bs k m) (λ e.
    (let below = (descends_is problem k m two.is).0 e in
    as_before xs i j m
    (λ at_i. no_descendant bs k m b (ap (λ (n : ℕ). slice_get bs n) at_i ∙ two.first) two.alone below)
    (λ at_j. no_descendant bs k m c (ap (λ (n : ℕ). slice_get bs n) at_j ∙ two.second) two.other below)))
    ∙ sym (accepts_descendant bs xs k m)))

no_loss_too : (problem : ProblemState) (i j : ℕ) (b c : Block) (xs : List Bool) (prices : List ℤ) → AreTwo problem i j b c
    → AreDecided xs i j → HasNoLoss problem.blocks xs prices → HasNoLoss problem.blocks (exchanged xs i j) prices
no_loss_too problem i j b c xs prices two d none = record {
  gains = λ k on. elim (cases_eq k i) [
    | inl e ↦
        (let at = ap (λ (n : ℕ). slice_get problem.blocks n) e ∙ two.first in
        let own = gain_alone problem (exchanged xs i j) prices k b two.is at two.alone in
        let was = gain_alone problem xs prices j c two.is two.second two.other in
        let gain = none.gains j d.on in
        let alike : surplus_of prices b.order ≡ surplus_of prices (with_limit c b.order.price).order =
        ap (λ (o : BlockTerms). surplus_of prices o) two.alike in
        let more = surplus_raised 1 prices c b.order.price two.better in
        omega (arith, ints, own, was, gain, alike, more))
    | inr from_i ↦
        (let same = gain_before problem i j k b c xs prices two in
        let gain = none.gains k (was_accepted xs i j k d from_i on) in
        omega (arith, ints, same, gain))
  ];
}

less_than : (problem : ProblemState) (i j : ℕ) (b c : Block) (xs : List Bool) (v : ℤ) → AreTwo problem i j b c → AreDecided xs i j
    → IsResult problem xs v → ⊥
less_than problem i j b c xs v two d result =
    let e = result.eligible in
    let ys = exchanged xs i j in
    let more = more_welfare problem i j b c xs v two d e.welfare_is in
    let eligible : IsEligible problem ys more.0 = record {
      as_long = as_long (set xs j false) i true ∙ as_long xs j false ∙ e.as_long;
      admissible = admissible_too problem i j b c xs two d e.admissible;
      prices = e.prices;
      are_prices = prices_transfer problem.blocks problem.blocks xs ys 1 problem.hours e.prices
          (λ s. same_net problem i j b c xs s two d) e.are_prices;
      no_loss = no_loss_too problem i j b c xs e.prices two d e.no_loss;
      welfare_is = more.1;
    } in
    let most = (result.others ys more.0 eligible).by_welfare in
    let above = more.2 in
    let wrong : 0 < 0 = omega (arith, ints, most, above) in omega (arith, wrong)

true_unless : (x : Bool) → (x ≡ false → ⊥) → x ≡ true
true_unless true h = refl
true_unless false h = absurd (h refl)

pub better_too : (problem : ProblemState) (i j : ℕ) (b c : Block) (xs : List Bool) (v : ℤ) → IsProblem problem
    → slice_get problem.blocks i ≡ Some b → slice_get problem.blocks j ≡ Some c → StandsAlone problem.blocks b
    → StandsAlone problem.blocks c → b.order.side ≡ c.order.side → b.order.volumes ≡ c.order.volumes
    → IsBetter c.order.side b.order.price c.order.price → IsResult problem xs v → accepts xs j ≡ true → accepts xs i ≡ true
better_too problem i j b c xs v is first second alone other side volumes better result on =
    let alike : b.order ≡ (with_limit c b.order.price).order =
    ap₂ (λ (s : Side) (ps : List Pair). record b.order { side = s; volumes = ps }) side volumes
    ∙ ap₂ (λ (p g : Option (List ℕ)). record c.order { price = b.order.price; parent = p; group = g })
    (alone.no_parent ∙ sym other.no_parent) (alone.no_group ∙ sym other.no_group) in
    let two : AreTwo problem i j b c = record {
      is = is;
      first = first;
      second = second;
      alone = alone;
      other = other;
      alike = alike;
      better = better;
    } in
    let there = slice_get_within problem.blocks i b first in
    let few = is.few_blocks in
    let long = result.eligible.as_long in
    true_unless (accepts xs i) (λ off.
    less_than problem i j b c xs v two (record { off = off; on = on; within = omega (arith, there, few, long) }) result)
