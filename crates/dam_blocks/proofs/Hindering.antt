-- The blocks that may keep another from being accepted, found place by place, and their effect.
use Rattle.dam_blocks.proofs.Common.{◌≡◌, ◌⊎◌, ℕ, zero, suc, ◌+◌, ◌≤◌, Bool, true, false, cond, Some, inl, inr, List, [], ◌∷◌, ◌++◌, length, length-append}
use Rattle.dam_blocks.proofs.Common.{append_assoc, drop, ap, ap₂, ◌∙◌, sym, subst, refl, arith, append-nil, drop_all, most_of_group, Block, Hindrances}
use Rattle.dam_blocks.proofs.Common.{IsParent, names, accepts, are_of_one_group, accepted_of_group, IsAllowed, AreHindrances}
use Rattle.std.specs.List.{slice_get}
use Rattle.dam_blocks.specs.inside.Hindrances.{places_where, group_places, count_accepted}
use Rattle.dam_blocks.proofs.Descending.{named}
use Rattle.dam_blocks.proofs.GroupCounts.{count_none}
use Rattle.dam_blocks.proofs.RowByRow.{drop_at}

-- ---- places, found one by one
-- those found so far, and those of the blocks that are left
pub record AreFoundSoFar (test : Block → Bool) (blocks : List Block) (at : ℕ) (places : List ℕ) : Type 0 where
  pub few : length places ≤ at
  pub found : places ++ places_where test at (drop at blocks) ≡ places_where test 0 blocks

-- the rest, with the block at the place
left_over : (test : Block → Bool) (blocks : List Block) (at : ℕ) (b : Block) (x : Bool) → slice_get blocks at ≡ Some b → test b ≡ x
    → cond x (at ∷ places_where test (at + 1) (drop (at + 1) blocks)) (places_where test (at + 1) (drop (at + 1) blocks))
    ≡ places_where test at (drop at blocks)
left_over test blocks at b x stands is =
    ap (λ (y : Bool). cond y (at ∷ places_where test (at + 1) (drop (at + 1) blocks)) (places_where test (at + 1) (drop (at + 1) blocks)))
    (sym is)
    ∙ ap (λ (bs : List Block). places_where test at bs) (sym (drop_at blocks at b stands))

pub found_more : (test : Block → Bool) (blocks : List Block) (at : ℕ) (b : Block) (places after : List ℕ) → slice_get blocks at ≡ Some b
    → test b ≡ true → after ≡ places ++ at ∷ [] → AreFoundSoFar test blocks at places → AreFoundSoFar test blocks (at + 1) after
found_more test blocks at b places after stands is pushed s =
    let few = s.few in
    record {
      few = omega (arith, few, ap length pushed, length-append places (at ∷ []));
      found = ap (λ (xs : List ℕ). xs ++ places_where test (at + 1) (drop (at + 1) blocks)) pushed
          ∙ append_assoc places (at ∷ []) (places_where test (at + 1) (drop (at + 1) blocks))
          ∙ ap (λ (xs : List ℕ). places ++ xs) (left_over test blocks at b true stands is)
          ∙ s.found;
    }

pub found_same : (test : Block → Bool) (blocks : List Block) (at : ℕ) (b : Block) (places : List ℕ) → slice_get blocks at ≡ Some b
    → test b ≡ false → AreFoundSoFar test blocks at places → AreFoundSoFar test blocks (at + 1) places
found_same test blocks at b places stands is s =
    let few = s.few in
    record {
      few = omega (arith, few);
      found = ap (λ (xs : List ℕ). places ++ xs) (left_over test blocks at b false stands is) ∙ s.found;
    }

pub found_all : (test : Block → Bool) (blocks : List Block) (at : ℕ) (places : List ℕ) → length blocks ≤ at
    → AreFoundSoFar test blocks at places → places ≡ places_where test 0 blocks
found_all test blocks at places all s =
    sym (append-nil places)
    ∙ ap (λ (bs : List Block). places ++ places_where test at bs) (sym (drop_all at blocks all))
    ∙ s.found

-- ---- those of one block more
pushed_at : (xs : List Hindrances) (x : Hindrances) (i : ℕ) (own : Hindrances) → slice_get (xs ++ x ∷ []) i ≡ Some own
    → (slice_get xs i ≡ Some own) ⊎ ((i ≡ length xs) × (x ≡ own))
pushed_at [] x zero own e = inr (refl, cc)
pushed_at [] x (suc i) own e = absurd (cc)
pushed_at (y ∷ xs) x zero own e = inl e
pushed_at (y ∷ xs) x (suc i) own e =
    elim (pushed_at xs x i own e) [ inl before ↦ inl before | inr last ↦ inr (omega (arith, last.0), last.1) ]

pub all_more : (blocks : List Block) (xs : List Hindrances) (x : Hindrances) → AreHindrances blocks (length xs) x
    → ((i : ℕ) (own : Hindrances) → slice_get xs i ≡ Some own → AreHindrances blocks i own)
    → (i : ℕ) (own : Hindrances) → slice_get (xs ++ x ∷ []) i ≡ Some own → AreHindrances blocks i own
all_more blocks xs x last before i own e = elim (pushed_at xs x i own e) [
  | inl earlier ↦ before i own earlier
  | inr here ↦
      (let there = subst (λ (h : Hindrances). AreHindrances blocks (length xs) h) here.1 last in
      subst (λ (n : ℕ). AreHindrances blocks n own) (sym here.0) there)
]

-- ---- how many of them are accepted
among_at_most : (sel : List Bool) (places : List ℕ) → count_accepted sel places ≤ length places
among_at_most sel [] = omega arith
among_at_most sel (j ∷ places) = one_at_most (accepts sel j) (count_accepted sel places) (length places) (among_at_most sel places)
  where
    one_at_most : (x : Bool) (m n : ℕ) → m ≤ n → cond x 1 0 + m ≤ suc n
    one_at_most true m n l = omega (arith, l)
    one_at_most false m n l = omega (arith, l)

-- all of them are accepted: the first, and the others
first_too : (x : Bool) (m n : ℕ) → m ≤ n → cond x 1 0 + m ≡ suc n → (x ≡ true) × (m ≡ n)
first_too true m n l e = (refl, omega (arith, e))
first_too false m n l e = absurd (omega (arith, l, e))

rest_too : (test : Bool) (sel : List Bool) (at : ℕ) (rest : List ℕ)
    → count_accepted sel (cond test (at ∷ rest) rest) ≡ length (cond test (at ∷ rest) rest) → count_accepted sel rest ≡ length rest
rest_too true sel at rest e = (first_too (accepts sel at) (count_accepted sel rest) (length rest) (among_at_most sel rest) e).1
rest_too false sel at rest e = e

this_too : (test : Bool) (sel : List Bool) (at : ℕ) (rest : List ℕ) → test ≡ true
    → count_accepted sel (cond test (at ∷ rest) rest) ≡ length (cond test (at ∷ rest) rest) → accepts sel at ≡ true
this_too true sel at rest is e = (first_too (accepts sel at) (count_accepted sel rest) (length rest) (among_at_most sel rest) e).0
this_too false sel at rest is e = absurd (cc)

each_accepted : (test : Block → Bool) (bs : List Block) (at : ℕ) (sel : List Bool)
    → count_accepted sel (places_where test at bs) ≡ length (places_where test at bs)
    → (j : ℕ) (b : Block) → slice_get bs j ≡ Some b → test b ≡ true → accepts sel (at + j) ≡ true
each_accepted test [] at sel e j b stands is = absurd (cc)
each_accepted test (c ∷ bs) at sel e zero b stands is =
    let same : c ≡ b = cc in
    ap (λ (n : ℕ). accepts sel n) (let same_place : at + 0 ≡ at = omega arith in same_place)
    ∙ this_too (test c) sel at (places_where test (at + 1) bs) (ap test same ∙ is) e
each_accepted test (c ∷ bs) at sel e (suc j) b stands is =
    ap (λ (n : ℕ). accepts sel n) (let same_place : at + suc j ≡ (at + 1) + j = omega arith in same_place)
    ∙ each_accepted test bs (at + 1) sel (rest_too (test c) sel at (places_where test (at + 1) bs) e) j b stands is

one_counted : (test x : Bool) (sel : List Bool) (at : ℕ) (rest : List ℕ) (n : ℕ) → accepts sel at ≡ x → count_accepted sel rest ≡ n
    → count_accepted sel (cond test (at ∷ rest) rest) ≡ cond x (cond test 1 0) 0 + n
one_counted true true sel at rest n e r = ap₂ (λ (y : Bool) (m : ℕ). cond y 1 0 + m) e r
one_counted true false sel at rest n e r = ap₂ (λ (y : Bool) (m : ℕ). cond y 1 0 + m) e r
one_counted false true sel at rest n e r = omega (arith, r)
one_counted false false sel at rest n e r = omega (arith, r)

one_of_all : (test : Bool) (sel : List Bool) (at : ℕ) (rest : List ℕ) → (test ≡ true → accepts sel at ≡ true)
    → count_accepted sel rest ≡ length rest → count_accepted sel (cond test (at ∷ rest) rest) ≡ length (cond test (at ∷ rest) rest)
one_of_all true sel at rest e r =
    let one = ap₂ (λ (y : Bool) (m : ℕ). cond y 1 0 + m) (e refl) r in
    omega (arith, one)
one_of_all false sel at rest e r = r

all_accepted : (test : Block → Bool) (bs : List Block) (at : ℕ) (sel : List Bool)
    → ((j : ℕ) (b : Block) → slice_get bs j ≡ Some b → test b ≡ true → accepts sel (at + j) ≡ true)
    → count_accepted sel (places_where test at bs) ≡ length (places_where test at bs)
all_accepted test [] at sel h = refl
all_accepted test (c ∷ bs) at sel h =
    one_of_all (test c) sel at (places_where test (at + 1) bs)
    (λ is. ap (λ (n : ℕ). accepts sel n) (let same_place : at ≡ at + 0 = omega arith in same_place) ∙ h 0 c refl is)
    (all_accepted test bs (at + 1) sel (λ j b stands is.
    ap (λ (n : ℕ). accepts sel n) (let same_place : (at + 1) + j ≡ at + suc j = omega arith in same_place) ∙ h (suc j) b stands is))

-- the accepted blocks of a group, counted by their places
next_places : (at : ℕ) (sel xs : List Bool) → ((k : ℕ) → accepts sel (at + suc k) ≡ accepts xs k)
    → (k : ℕ) → accepts sel ((at + 1) + k) ≡ accepts xs k
next_places at sel xs h k =
    ap (λ (n : ℕ). accepts sel n) (let same_place : (at + 1) + k ≡ at + suc k = omega arith in same_place) ∙ h k

here : (at : ℕ) (sel : List Bool) (x : Bool) → accepts sel (at + 0) ≡ x → accepts sel at ≡ x
here at sel x e = ap (λ (n : ℕ). accepts sel n) (let same_place : at ≡ at + 0 = omega arith in same_place) ∙ e

counted : (g : Block) (bs : List Block) (at : ℕ) (sel xs : List Bool) → ((k : ℕ) → accepts sel (at + k) ≡ accepts xs k)
    → count_accepted sel (places_where (λ b. are_of_one_group g b) at bs) ≡ accepted_of_group g bs xs
counted g [] at sel xs h = refl
counted g (c ∷ bs) at sel [] h =
    one_counted (are_of_one_group g c) false sel at (places_where (λ b. are_of_one_group g b) (at + 1) bs) (accepted_of_group g bs [])
    (here at sel false (h 0)) (counted g bs (at + 1) sel [] (next_places at sel [] (λ k. h (suc k))))
    ∙ rest_none (accepted_of_group g bs []) (count_none g bs)
  where
    rest_none : (n : ℕ) → n ≡ 0 → 0 + n ≡ 0
    rest_none n e = omega (arith, e)
counted g (c ∷ bs) at sel (true ∷ xs) h =
    one_counted (are_of_one_group g c) true sel at (places_where (λ b. are_of_one_group g b) (at + 1) bs) (accepted_of_group g bs xs)
    (here at sel true (h 0)) (counted g bs (at + 1) sel xs (next_places at sel xs (λ k. h (suc k))))
counted g (c ∷ bs) at sel (false ∷ xs) h =
    one_counted (are_of_one_group g c) false sel at (places_where (λ b. are_of_one_group g b) (at + 1) bs) (accepted_of_group g bs xs)
    (here at sel false (h 0)) (counted g bs (at + 1) sel xs (next_places at sel xs (λ k. h (suc k))))
    ∙ none_here (accepted_of_group g bs xs)
  where
    none_here : (n : ℕ) → 0 + n ≡ n
    none_here n = omega arith

-- counted from the first place
from_first : (sel : List Bool) (k : ℕ) → accepts sel (0 + k) ≡ accepts sel k
from_first sel k = ap (λ (n : ℕ). accepts sel n) (let same_place : 0 + k ≡ k = omega arith in same_place)

counted_group : (g : Block) (bs : List Block) (sel : List Bool) → count_accepted sel (group_places g bs) ≡ accepted_of_group g bs sel
counted_group g bs sel = counted g bs 0 sel sel (from_first sel)

-- ---- their effect
pub allowed_by : (blocks : List Block) (sel : List Bool) (i : ℕ) (own : Hindrances) (parents group : List ℕ) → AreHindrances blocks i own
    → parents ≡ own.parent_places.items → group ≡ own.group_places.items → count_accepted sel parents ≡ length parents
    → count_accepted sel group ≤ most_of_group → IsAllowed blocks sel i
allowed_by blocks sel i own parents group is e f all few =
    let counts = counted_group is.block blocks sel in
    let place = ap (λ (xs : List ℕ). count_accepted sel xs) (f ∙ is.are.group) in
    record {
      block = is.block;
      stands = is.stands;
      parent = λ j other at p.
          sym (from_first sel j)
          ∙ each_accepted (λ b. names b is.block) blocks 0 sel
          (subst (λ (xs : List ℕ). count_accepted sel xs ≡ length xs) (e ∙ is.are.parents) all) j other at ((named other is.block).1 p);
      group = omega (arith, few, counts, place);
    }

pub parents_accepted : (blocks : List Block) (sel : List Bool) (i : ℕ) (own : Hindrances) (parents : List ℕ) → AreHindrances blocks i own
    → parents ≡ own.parent_places.items → IsAllowed blocks sel i → count_accepted sel parents ≡ length parents
parents_accepted blocks sel i own parents is e allowed =
    let stands = is.stands in let here = allowed.stands in
    let same : is.block ≡ allowed.block = cc in
    subst (λ (xs : List ℕ). count_accepted sel xs ≡ length xs) (sym (e ∙ is.are.parents))
    (all_accepted (λ b. names b is.block) blocks 0 sel (λ j other at n.
    from_first sel j
    ∙ allowed.parent j other at (subst (λ (b : Block). IsParent other b) same ((named other is.block).0 n))))

pub group_within : (blocks : List Block) (sel : List Bool) (i : ℕ) (own : Hindrances) (group : List ℕ) → AreHindrances blocks i own
    → group ≡ own.group_places.items → IsAllowed blocks sel i → count_accepted sel group ≤ most_of_group
group_within blocks sel i own group is f allowed =
    let stands = is.stands in let here = allowed.stands in
    let same : allowed.block ≡ is.block = cc in
    let most = allowed.group in
    let counts = counted_group is.block blocks sel in
    let place = ap (λ (xs : List ℕ). count_accepted sel xs) (f ∙ is.are.group) in
    let number = ap (λ (b : Block). accepted_of_group b blocks sel) same in
    omega (arith, most, counts, place, number)
