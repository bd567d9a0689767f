-- A problem without one of its blocks: its selections are those of the whole that reject the block.
use Rattle.dam_blocks.proofs.Common.{◌≡◌, ◌⊎◌, inl, inr, ℕ, zero, suc, ◌-◌, ◌<◌, ℤ, pos, ◌+ℤ◌, ◌≤ℤ◌, Bool, true, false, ◌&&◌, cond, Option, Some, ◌+◌, ◌≤◌}
use Rattle.dam_blocks.proofs.Common.{List, [], ◌∷◌, ◌++◌, length, length-append, ap, ap₂, ◌∙◌, sym, subst, refl, arith, option_map, unwrap_or, ints}
use Rattle.dam_blocks.proofs.Common.{false_from_ne_true, slice_get_within, BlockTerms, most_blocks, most_of_group, Step, Block, ProblemState, IsProblem}
use Rattle.dam_blocks.proofs.Common.{IsParent, accepts, over_accepted, net_volume_of_block, value_in, net_volume, are_of_one_group, accepted_of_group}
use Rattle.dam_blocks.proofs.Common.{IsAllowed, IsAdmissible, descends, accepted_descendants, IsChildAt, Descends, Child, OfChild, ArePrices, surplus_of}
use Rattle.dam_blocks.proofs.Common.{family_surplus, HasNoLoss, welfare_from, selection_welfare, IsEligible, accepts_first, RanksAtOrBelow, IsResult, IsOutcome}
use Rattle.dam_blocks.proofs.Common.{AreBestExecutions}
use Rattle.std.specs.List.{slice_get, insert, remove}
use Rattle.std.proofs.lemmas.List.Edits.{length-remove}
use Rattle.dam_blocks.specs.Changes.{without_place, IsWithoutBlock}
use Rattle.dam_blocks.proofs.Sums.{over_accepted-nil}
use Rattle.dam_blocks.proofs.Families.{accepts_descendant}
use Rattle.dam_blocks.proofs.GroupCounts.{count_none}
use Rattle.dam_blocks.proofs.Descending.{descends_is}
use Rattle.dam_blocks.proofs.Participants.{over_accepted-agree}
use Rattle.dam_blocks.proofs.Transfer.{prices_transfer, executions_transfer, welfare_transfer}
use Rattle.dam_blocks.proofs.WelfareAtLeastZero.{same_block}

-- ---- places
-- the place in the whole of the block at place j of the rest
abbrev up : ℕ → ℕ → ℕ
up zero j = suc j
up (suc i) zero = zero
up (suc i) (suc j) = suc (up i j)

up_apart : (i j : ℕ) → up i j ≡ i → ⊥
up_apart zero j e = absurd (omega (arith, e))
up_apart (suc i) zero e = absurd (omega (arith, e))
up_apart (suc i) (suc j) e = up_apart i j (omega (arith, e))

-- every other place is one of the rest
from_rest : (i j : ℕ) → (j ≡ i) ⊎ ((k : ℕ) × (up i k ≡ j))
from_rest zero zero = inl refl
from_rest zero (suc j) = inr (j, refl)
from_rest (suc i) zero = inr (zero, refl)
from_rest (suc i) (suc j) = elim (from_rest i j) [ inl e ↦ inl (ap suc e) | inr r ↦ inr (suc r.0, ap suc r.1) ]

get_rest : {X : Type 0} (xs : List X) (i j : ℕ) → slice_get (remove xs i) j ≡ slice_get xs (up i j)
get_rest [] zero j = refl
get_rest [] (suc i) j = refl
get_rest (x ∷ xs) zero j = refl
get_rest (x ∷ xs) (suc i) zero = refl
get_rest (x ∷ xs) (suc i) (suc j) = get_rest xs i j

-- ---- selections
accepts_rest : (zs : List Bool) (i j : ℕ) → accepts (insert zs i false) (up i j) ≡ accepts zs j
accepts_rest zs zero j = refl
accepts_rest [] (suc i) zero = refl
accepts_rest [] (suc i) (suc j) = refl
accepts_rest (z ∷ zs) (suc i) zero = refl
accepts_rest (z ∷ zs) (suc i) (suc j) = accepts_rest zs i j

accepts_gone : (zs : List Bool) (i : ℕ) → accepts (insert zs i false) i ≡ false
accepts_gone zs zero = refl
accepts_gone [] (suc i) = refl
accepts_gone (z ∷ zs) (suc i) = accepts_gone zs i

accepts_padded : (zs : List Bool) (j : ℕ) → accepts (zs ++ false ∷ []) j ≡ accepts zs j
accepts_padded [] zero = refl
accepts_padded [] (suc j) = refl
accepts_padded (z ∷ zs) zero = refl
accepts_padded (z ∷ zs) (suc j) = accepts_padded zs j

over_padded : (f : BlockTerms → ℤ) (bs : List Block) (zs : List Bool) → over_accepted f bs (zs ++ false ∷ []) ≡ over_accepted f bs zs
over_padded f bs zs =
    over_accepted-agree f bs (zs ++ false ∷ []) zs (λ i b at. accepts_padded zs i)

over_rest : (f : BlockTerms → ℤ) (bs : List Block) (zs : List Bool) (i : ℕ)
    → over_accepted f bs (insert zs i false) ≡ over_accepted f (remove bs i) zs
over_rest f [] zs zero = refl
over_rest f [] zs (suc i) = refl
over_rest f (b ∷ bs) zs zero = refl
over_rest f (b ∷ bs) [] (suc i) = over_accepted-nil f bs
over_rest f (b ∷ bs) (true ∷ zs) (suc i) = ap (λ (z : ℤ). f b.order +ℤ z) (over_rest f bs zs i)
over_rest f (b ∷ bs) (false ∷ zs) (suc i) = over_rest f bs zs i

over_both : (f : BlockTerms → ℤ) (bs : List Block) (zs : List Bool) (i : ℕ)
    → over_accepted f bs (insert zs i false) ≡ over_accepted f (remove bs i) (zs ++ false ∷ [])
over_both f bs zs i = over_rest f bs zs i ∙ sym (over_padded f (remove bs i) zs)

count_padded : (g : Block) (bs : List Block) (zs : List Bool) → accepted_of_group g bs (zs ++ false ∷ []) ≡ accepted_of_group g bs zs
count_padded g [] zs = refl
count_padded g (b ∷ bs) [] = count_none g bs
count_padded g (b ∷ bs) (true ∷ zs) = ap (λ (n : ℕ). cond (are_of_one_group g b) 1 0 + n) (count_padded g bs zs)
count_padded g (b ∷ bs) (false ∷ zs) = count_padded g bs zs

count_rest : (g : Block) (bs : List Block) (zs : List Bool) (i : ℕ)
    → accepted_of_group g bs (insert zs i false) ≡ accepted_of_group g (remove bs i) (zs ++ false ∷ [])
count_rest g [] zs zero = refl
count_rest g [] zs (suc i) = refl
count_rest g (b ∷ bs) zs zero = sym (count_padded g bs zs)
count_rest g (b ∷ bs) [] (suc i) = count_none g bs ∙ sym (count_none g (remove bs i))
count_rest g (b ∷ bs) (true ∷ zs) (suc i) = ap (λ (n : ℕ). cond (are_of_one_group g b) 1 0 + n) (count_rest g bs zs i)
count_rest g (b ∷ bs) (false ∷ zs) (suc i) = count_rest g bs zs i

length_whole : (zs : List Bool) (i : ℕ) → length (insert zs i false) ≡ suc (length zs)
length_whole zs zero = refl
length_whole [] (suc i) = refl
length_whole (z ∷ zs) (suc i) = ap suc (length_whole zs i)

-- a selection whose last place is rejected
last_rejected : (n : ℕ) (ys : List Bool) → length ys ≡ suc n → accepts ys n ≡ false → (zs : List Bool) × (ys ≡ zs ++ false ∷ [])
last_rejected n [] long e = absurd (omega (arith, long))
last_rejected zero (y ∷ []) long e = ([], let off : y ≡ false = e in ap (λ (x : Bool). x ∷ []) off)
last_rejected zero (y ∷ x ∷ ys) long e = absurd (omega (arith, long))
last_rejected (suc n) (y ∷ ys) long e =
    let rest = last_rejected n ys (omega (arith, long)) e in (y ∷ rest.0, ap (λ (xs : List Bool). y ∷ xs) rest.1)

-- a selection that rejects the place
whole_again : (xs : List Bool) (i : ℕ) → i < length xs → accepts xs i ≡ false → insert (remove xs i) i false ≡ xs
whole_again [] i l e = absurd (omega (arith, l))
whole_again (x ∷ xs) zero l e = let off : x ≡ false = e in ap (λ (y : Bool). y ∷ xs) (sym off)
whole_again (x ∷ xs) (suc i) l e = ap (λ (ys : List Bool). x ∷ ys) (whole_again xs i (omega (arith, l)) e)

first_of_whole : (xs ys : List Bool) (i : ℕ) → length xs ≡ length ys
    → accepts_first (insert xs i false) (insert ys i false) ≡ accepts_first (xs ++ false ∷ []) (ys ++ false ∷ [])
first_of_whole xs ys zero long = padded_first xs ys long
  where
    padded_first : (xs ys : List Bool) → length xs ≡ length ys → accepts_first xs ys ≡ accepts_first (xs ++ false ∷ []) (ys ++ false ∷ [])
    padded_first [] [] long = refl
    padded_first [] (y ∷ ys) long = absurd (omega (arith, long))
    padded_first (x ∷ xs) [] long = absurd (omega (arith, long))
    padded_first (true ∷ xs) (true ∷ ys) long = padded_first xs ys (omega (arith, long))
    padded_first (false ∷ xs) (false ∷ ys) long = padded_first xs ys (omega (arith, long))
    padded_first (true ∷ xs) (false ∷ ys) long = refl
    padded_first (false ∷ xs) (true ∷ ys) long = refl
first_of_whole [] [] (suc i) long = refl
first_of_whole [] (y ∷ ys) (suc i) long = absurd (omega (arith, long))
first_of_whole (x ∷ xs) [] (suc i) long = absurd (omega (arith, long))
first_of_whole (true ∷ xs) (true ∷ ys) (suc i) long = first_of_whole xs ys i (omega (arith, long))
first_of_whole (false ∷ xs) (false ∷ ys) (suc i) long = first_of_whole xs ys i (omega (arith, long))
first_of_whole (true ∷ xs) (false ∷ ys) (suc i) long = refl
first_of_whole (false ∷ xs) (true ∷ ys) (suc i) long = refl

-- ---- families
-- the whole problem, the rest and the block that is gone
record AreBoth (whole rest : ProblemState) (i : ℕ) (gone : Block) : Type 0 where
  is_whole : IsProblem whole
  is_rest : IsProblem rest
  without : IsWithoutBlock whole rest i gone

-- the blocks of the rest stand in the whole, and the other way round
stands_up : (whole rest : ProblemState) (i : ℕ) (gone : Block) (j : ℕ) (b : Block) → IsWithoutBlock whole rest i gone
    → slice_get rest.blocks j ≡ Some b → slice_get whole.blocks (up i j) ≡ Some b
stands_up whole rest i gone j b w at =
    sym (get_rest whole.blocks i j) ∙ ap (λ (bs : List Block). slice_get bs j) (sym w.blocks) ∙ at

stands_down : (whole rest : ProblemState) (i : ℕ) (gone : Block) (j : ℕ) (b : Block) → IsWithoutBlock whole rest i gone
    → slice_get whole.blocks (up i j) ≡ Some b → slice_get rest.blocks j ≡ Some b
stands_down whole rest i gone j b w at =
    ap (λ (bs : List Block). slice_get bs j) w.blocks ∙ get_rest whole.blocks i j ∙ at

-- no block of the rest is a child of the one that is gone
no_child : (whole rest : ProblemState) (i : ℕ) (gone : Block) (j : ℕ) (c : Block) → AreBoth whole rest i gone
    → slice_get rest.blocks j ≡ Some c → IsParent gone c → ⊥
no_child whole rest i gone j c both at p =
    let found = both.is_rest.parents j c gone.name at p.name in
    let who : found.parent.who ≡ gone.who = found.is_parent.who ∙ sym p.who in
    let name : found.parent.name ≡ gone.name = (let a = found.is_parent.name in let b = p.name in cc) in
    up_apart i found.place (both.is_whole.unique (up i found.place) i found.parent gone
    (stands_up whole rest i gone found.place found.parent both.without found.stands) both.without.stands who name)

child_up : (whole rest : ProblemState) (i : ℕ) (gone : Block) (a b : ℕ) → AreBoth whole rest i gone → IsChildAt rest.blocks a b
    → IsChildAt whole.blocks (up i a) (up i b)
child_up whole rest i gone a b both at = record {
  parent = at.parent;
  child = at.child;
  parent_stands = stands_up whole rest i gone a at.parent both.without at.parent_stands;
  child_stands = stands_up whole rest i gone b at.child both.without at.child_stands;
  is_parent = at.is_parent;
}

descends_up : (whole rest : ProblemState) (i : ℕ) (gone : Block) (a b : ℕ) → AreBoth whole rest i gone → Descends rest.blocks a b
    → Descends whole.blocks (up i a) (up i b)
descends_up whole rest i gone a _ both (Child b at) = Child (up i b) (child_up whole rest i gone a b both at)
descends_up whole rest i gone a _ both (OfChild k b further at) =
    OfChild (up i k) (up i b) (descends_up whole rest i gone a k both further) (child_up whole rest i gone k b both at)

child_down : (whole rest : ProblemState) (i : ℕ) (gone : Block) (a b : ℕ) → AreBoth whole rest i gone
    → IsChildAt whole.blocks (up i a) (up i b) → IsChildAt rest.blocks a b
child_down whole rest i gone a b both at = record {
  parent = at.parent;
  child = at.child;
  parent_stands = stands_down whole rest i gone a at.parent both.without at.parent_stands;
  child_stands = stands_down whole rest i gone b at.child both.without at.child_stands;
  is_parent = at.is_parent;
}

descends_down : (whole rest : ProblemState) (i : ℕ) (gone : Block) (a b j : ℕ) → AreBoth whole rest i gone → Descends whole.blocks (up i a) j
    → up i b ≡ j → Descends rest.blocks a b
descends_down whole rest i gone a b _ both (Child j at) e =
    Child b (child_down whole rest i gone a b both (subst (λ (m : ℕ). IsChildAt whole.blocks (up i a) m) (sym e) at))
descends_down whole rest i gone a b _ both (OfChild k j further at) e =
    let there = subst (λ (m : ℕ). IsChildAt whole.blocks k m) (sym e) at in
    elim (from_rest i k) as (λ _. Descends rest.blocks a b) [
      | inl same ↦
          (let child = stands_down whole rest i gone b there.child both.without there.child_stands in
          let is : there.parent ≡ gone = same_block there.parent gone
          (sym there.parent_stands ∙ ap (λ (m : ℕ). slice_get whole.blocks m) same ∙ both.without.stands) in
          absurd (no_child whole rest i gone b there.child both child (subst (λ (p : Block). IsParent p there.child) is there.is_parent)))
      | inr up_k ↦ OfChild up_k.0 b (descends_down whole rest i gone a up_k.0 k both further up_k.1)
          (child_down whole rest i gone up_k.0 b both (subst (λ (m : ℕ). IsChildAt whole.blocks m (up i b)) (sym up_k.1) there))
    ]

same_test : (x y : Bool) → (x ≡ true → y ≡ true) → (y ≡ true → x ≡ true) → x ≡ y
same_test true y h g = sym (h refl)
same_test false true h g = g refl
same_test false false h g = refl

same_families : (whole rest : ProblemState) (i : ℕ) (gone : Block) (a b : ℕ) → AreBoth whole rest i gone
    → descends whole.blocks (up i a) (up i b) ≡ descends rest.blocks a b
same_families whole rest i gone a b both =
    same_test (descends whole.blocks (up i a) (up i b)) (descends rest.blocks a b)
    (λ e. (descends_is rest a b both.is_rest).1
    (descends_down whole rest i gone a b (up i b) both ((descends_is whole (up i a) (up i b) both.is_whole).0 e) refl))
    (λ e. (descends_is whole (up i a) (up i b) both.is_whole).1 (descends_up whole rest i gone a b both ((descends_is rest a b both.is_rest).0 e)))

-- ---- admissible
count_both : (whole rest : ProblemState) (i : ℕ) (gone g : Block) (zs : List Bool) → IsWithoutBlock whole rest i gone
    → accepted_of_group g whole.blocks (insert zs i false) ≡ accepted_of_group g rest.blocks (zs ++ false ∷ [])
count_both whole rest i gone g zs w =
    count_rest g whole.blocks zs i ∙ ap (λ (bs : List Block). accepted_of_group g bs (zs ++ false ∷ [])) (sym w.blocks)

rest_allowed : (whole rest : ProblemState) (i : ℕ) (gone : Block) (zs : List Bool) (j : ℕ) → AreBoth whole rest i gone
    → IsAllowed whole.blocks (insert zs i false) (up i j) → IsAllowed rest.blocks (zs ++ false ∷ []) j
rest_allowed whole rest i gone zs j both allowed = record {
  block = allowed.block;
  stands = stands_down whole rest i gone j allowed.block both.without allowed.stands;
  parent = λ k other at is.
      accepts_padded zs k ∙ sym (accepts_rest zs i k)
      ∙ allowed.parent (up i k) other (stands_up whole rest i gone k other both.without at) is;
  group = subst (λ (n : ℕ). n ≤ most_of_group) (count_both whole rest i gone allowed.block zs both.without) allowed.group;
}

rest_admissible : (whole rest : ProblemState) (i : ℕ) (gone : Block) (zs : List Bool) → AreBoth whole rest i gone
    → IsAdmissible whole.blocks (insert zs i false) → IsAdmissible rest.blocks (zs ++ false ∷ [])
rest_admissible whole rest i gone zs both is = record {
  each = λ j acc. rest_allowed whole rest i gone zs j both (is.each (up i j) (accepts_rest zs i j ∙ sym (accepts_padded zs j) ∙ acc));
}

whole_allowed : (whole rest : ProblemState) (i : ℕ) (gone : Block) (zs : List Bool) (j : ℕ) → AreBoth whole rest i gone
    → IsAllowed rest.blocks (zs ++ false ∷ []) j → IsAllowed whole.blocks (insert zs i false) (up i j)
whole_allowed whole rest i gone zs j both allowed = record {
  block = allowed.block;
  stands = stands_up whole rest i gone j allowed.block both.without allowed.stands;
  parent = λ k other at p.
      elim (from_rest i k) as (λ _. accepts (insert zs i false) k ≡ true) [
        | inl same ↦
            (let is : other ≡ gone = same_block other gone
            (sym at ∙ ap (λ (m : ℕ). slice_get whole.blocks m) same ∙ both.without.stands) in
            absurd (no_child whole rest i gone j allowed.block both allowed.stands (subst (λ (c : Block). IsParent c allowed.block) is p)))
        | inr up_k ↦
            ap (λ (m : ℕ). accepts (insert zs i false) m) (sym up_k.1) ∙ accepts_rest zs i up_k.0 ∙ sym (accepts_padded zs up_k.0)
            ∙ allowed.parent up_k.0 other
            (stands_down whole rest i gone up_k.0 other both.without (ap (λ (m : ℕ). slice_get whole.blocks m) up_k.1 ∙ at)) p
      ];
  group = subst (λ (n : ℕ). n ≤ most_of_group) (sym (count_both whole rest i gone allowed.block zs both.without)) allowed.group;
}

-- a block that the whole accepts is of the rest
accepted_of_rest : (zs : List Bool) (i j : ℕ) → accepts (insert zs i false) j ≡ true → (k : ℕ) × (up i k ≡ j)
accepted_of_rest zs i j acc = elim (from_rest i j) as (λ _. (k : ℕ) × (up i k ≡ j)) [
  | inl same ↦ absurd (let off = ap (λ (m : ℕ). accepts (insert zs i false) m) same ∙ accepts_gone zs i in cc)
  | inr found ↦ found
]

accepts_of_rest : (zs : List Bool) (i j k : ℕ) → up i k ≡ j → accepts (insert zs i false) j ≡ true → accepts (zs ++ false ∷ []) k ≡ true
accepts_of_rest zs i j k e acc =
    accepts_padded zs k ∙ sym (accepts_rest zs i k) ∙ ap (λ (m : ℕ). accepts (insert zs i false) m) e ∙ acc

whole_admissible : (whole rest : ProblemState) (i : ℕ) (gone : Block) (zs : List Bool) → AreBoth whole rest i gone
    → IsAdmissible rest.blocks (zs ++ false ∷ []) → IsAdmissible whole.blocks (insert zs i false)
whole_admissible whole rest i gone zs both is = record {
  each = λ j acc.
      (let found = accepted_of_rest zs i j acc in
      subst (λ (m : ℕ). IsAllowed whole.blocks (insert zs i false) m) found.1
      (whole_allowed whole rest i gone zs found.0 both (is.each found.0 (accepts_of_rest zs i j found.0 found.1 acc))));
}

-- ---- no loss
over_rest_of : (whole rest : ProblemState) (i : ℕ) (gone : Block) (f : BlockTerms → ℤ) (zs : List Bool) → IsWithoutBlock whole rest i gone
    → over_accepted f whole.blocks (insert zs i false) ≡ over_accepted f rest.blocks (zs ++ false ∷ [])
over_rest_of whole rest i gone f zs w =
    over_both f whole.blocks zs i ∙ ap (λ (bs : List Block). over_accepted f bs (zs ++ false ∷ [])) (sym w.blocks)

same_descendants : (whole rest : ProblemState) (i : ℕ) (gone : Block) (zs : List Bool) (a m : ℕ) → AreBoth whole rest i gone
    → accepts (accepted_descendants whole.blocks (insert zs i false) (up i a)) m
    ≡ accepts (insert (accepted_descendants rest.blocks (zs ++ false ∷ []) a) i false) m
same_descendants whole rest i gone zs a m both =
    let all = accepted_descendants rest.blocks (zs ++ false ∷ []) a in
    accepts_descendant whole.blocks (insert zs i false) (up i a) m
    ∙ elim (from_rest i m) as (λ _. (accepts (insert zs i false) m && descends whole.blocks (up i a) m) ≡ accepts (insert all i false) m) [
      | inl same ↦
          (let off : accepts (insert zs i false) m ≡ false =
          ap (λ (n : ℕ). accepts (insert zs i false) n) same ∙ accepts_gone zs i in
          let none : accepts (insert all i false) m ≡ false =
          ap (λ (n : ℕ). accepts (insert all i false) n) same ∙ accepts_gone all i in
          ap (λ (x : Bool). x && descends whole.blocks (up i a) m) off ∙ sym none)
      | inr found ↦
          (let k = found.0 in
          let at_k = ap₂ (λ (x y : Bool). x && y) (accepts_rest zs i k ∙ sym (accepts_padded zs k))
          (same_families whole rest i gone a k both) ∙ sym (accepts_descendant rest.blocks (zs ++ false ∷ []) a k)
          ∙ sym (accepts_rest all i k) in
          subst (λ (n : ℕ). (accepts (insert zs i false) n && descends whole.blocks (up i a) n) ≡ accepts (insert all i false) n) found.1 at_k)
    ]

same_gain : (whole rest : ProblemState) (i : ℕ) (gone : Block) (zs : List Bool) (prices : List ℤ) (a : ℕ) → AreBoth whole rest i gone
    → family_surplus whole.blocks (insert zs i false) prices (up i a) ≡ family_surplus rest.blocks (zs ++ false ∷ []) prices a
same_gain whole rest i gone zs prices a both =
    let all = accepted_descendants rest.blocks (zs ++ false ∷ []) a in
    let f = surplus_of prices in
    let own : slice_get whole.blocks (up i a) ≡ slice_get rest.blocks a =
    sym (get_rest whole.blocks i a) ∙ ap (λ (bs : List Block). slice_get bs a) (sym both.without.blocks) in
    ap₂ (λ (x y : ℤ). x +ℤ y)
    (ap (λ (o : Option Block). unwrap_or (option_map (λ b. surplus_of prices b.order) o) (pos 0)) own)
    (over_accepted-agree f whole.blocks (accepted_descendants whole.blocks (insert zs i false) (up i a)) (insert all i false)
    (λ m b at. same_descendants whole rest i gone zs a m both)
    ∙ over_rest f whole.blocks all i
    ∙ ap (λ (bs : List Block). over_accepted f bs all) (sym both.without.blocks))

rest_no_loss : (whole rest : ProblemState) (i : ℕ) (gone : Block) (zs : List Bool) (prices : List ℤ) → AreBoth whole rest i gone
    → HasNoLoss whole.blocks (insert zs i false) prices → HasNoLoss rest.blocks (zs ++ false ∷ []) prices
rest_no_loss whole rest i gone zs prices both none = record {
  gains = λ a acc.
      (let same = same_gain whole rest i gone zs prices a both in
      let gain = none.gains (up i a) (accepts_rest zs i a ∙ sym (accepts_padded zs a) ∙ acc) in
      omega (arith, ints, same, gain));
}

whole_no_loss : (whole rest : ProblemState) (i : ℕ) (gone : Block) (zs : List Bool) (prices : List ℤ) → AreBoth whole rest i gone
    → HasNoLoss rest.blocks (zs ++ false ∷ []) prices → HasNoLoss whole.blocks (insert zs i false) prices
whole_no_loss whole rest i gone zs prices both none = record {
  gains = λ j acc.
      (let found = accepted_of_rest zs i j acc in
      let same = same_gain whole rest i gone zs prices found.0 both in
      let gain = none.gains found.0 (accepts_of_rest zs i j found.0 found.1 acc) in
      let there = ap (λ (m : ℕ). family_surplus whole.blocks (insert zs i false) prices m) found.1 in
      omega (arith, ints, same, gain, there));
}

-- ---- eligible
same_net : (whole rest : ProblemState) (i : ℕ) (gone : Block) (zs : List Bool) (t : ℕ) → IsWithoutBlock whole rest i gone
    → net_volume whole.blocks (insert zs i false) t ≡ net_volume rest.blocks (zs ++ false ∷ []) t
same_net whole rest i gone zs t w = over_rest_of whole rest i gone (net_volume_of_block t) zs w

same_welfare : (whole rest : ProblemState) (i : ℕ) (gone : Block) (zs : List Bool) → IsWithoutBlock whole rest i gone
    → selection_welfare whole (insert zs i false) ≡ selection_welfare rest (zs ++ false ∷ [])
same_welfare whole rest i gone zs w =
    welfare_transfer whole.blocks rest.blocks (insert zs i false) (zs ++ false ∷ []) 1 whole.hours
    (λ t. same_net whole rest i gone zs t w) (λ t. over_rest_of whole rest i gone (value_in t) zs w)
    ∙ ap (λ (hours : List (List Step)). welfare_from rest.blocks (zs ++ false ∷ []) 1 hours) (sym w.hours)

padded_length : (zs : List Bool) (i : ℕ) → length (insert zs i false) ≡ length (zs ++ false ∷ [])
padded_length zs i =
    let a = length_whole zs i in let b = length-append zs (false ∷ []) in omega (arith, a, b)

rest_eligible : (whole rest : ProblemState) (i : ℕ) (gone : Block) (zs : List Bool) (v : ℤ) → AreBoth whole rest i gone
    → IsEligible whole (insert zs i false) v → IsEligible rest (zs ++ false ∷ []) v
rest_eligible whole rest i gone zs v both is =
    let w = both.without in
    record {
      as_long = sym (padded_length zs i) ∙ is.as_long;
      admissible = rest_admissible whole rest i gone zs both is.admissible;
      prices = is.prices;
      are_prices = subst (λ (hours : List (List Step)). ArePrices rest.blocks (zs ++ false ∷ []) 1 hours is.prices) (sym w.hours)
          (prices_transfer whole.blocks rest.blocks (insert zs i false) (zs ++ false ∷ []) 1 whole.hours is.prices
          (λ t. same_net whole rest i gone zs t w) is.are_prices);
      no_loss = rest_no_loss whole rest i gone zs is.prices both is.no_loss;
      welfare_is = sym (same_welfare whole rest i gone zs w) ∙ is.welfare_is;
    }

whole_eligible : (whole rest : ProblemState) (i : ℕ) (gone : Block) (zs : List Bool) (v : ℤ) → AreBoth whole rest i gone
    → IsEligible rest (zs ++ false ∷ []) v → IsEligible whole (insert zs i false) v
whole_eligible whole rest i gone zs v both is =
    let w = both.without in
    record {
      as_long = padded_length zs i ∙ is.as_long;
      admissible = whole_admissible whole rest i gone zs both is.admissible;
      prices = is.prices;
      are_prices = prices_transfer rest.blocks whole.blocks (zs ++ false ∷ []) (insert zs i false) 1 whole.hours is.prices
          (λ t. sym (same_net whole rest i gone zs t w))
          (subst (λ (hours : List (List Step)). ArePrices rest.blocks (zs ++ false ∷ []) 1 hours is.prices) w.hours is.are_prices);
      no_loss = whole_no_loss whole rest i gone zs is.prices both is.no_loss;
      welfare_is = same_welfare whole rest i gone zs w ∙ is.welfare_is;
    }

-- an eligible selection of the rest rejects the last place, since one block fewer than the limit stands in the rest
rest_selection : (whole rest : ProblemState) (i : ℕ) (gone : Block) (ys : List Bool) (v : ℤ) → AreBoth whole rest i gone
    → IsEligible rest ys v → (zs : List Bool) × (ys ≡ zs ++ false ∷ [])
rest_selection whole rest i gone ys v both is =
    last_rejected (most_blocks - 1) ys (is.as_long) (false_from_ne_true (accepts ys (most_blocks - 1)) (λ acc.
    (let allowed = is.admissible.each (most_blocks - 1) acc in
    let inside = slice_get_within rest.blocks (most_blocks - 1) allowed.block allowed.stands in
    let few = both.is_whole.few_blocks in
    let shorter = length-remove whole.blocks i (slice_get_within whole.blocks i gone both.without.stands) in
    let same = ap length both.without.blocks in
    let wrong : 0 < 0 = omega (arith, inside, few, shorter, same) in
    absurd (omega (arith, wrong)))))

-- ---- results
pub more_welfare : (whole rest : ProblemState) (i : ℕ) (gone : Block) (xs ys : List Bool) (v w : ℤ) → IsProblem whole → IsProblem rest
    → IsWithoutBlock whole rest i gone → IsResult rest ys v → IsResult whole xs w → v ≤ℤ w
more_welfare whole rest i gone xs ys v w is_whole is_rest without fewer all =
    let both : AreBoth whole rest i gone = record { is_whole = is_whole; is_rest = is_rest; without = without } in
    let zs = rest_selection whole rest i gone ys v both fewer.eligible in
    let eligible = subst (λ (us : List Bool). IsEligible rest us v) zs.1 fewer.eligible in
    (all.others (insert zs.0 i false) v (whole_eligible whole rest i gone zs.0 v both eligible)).by_welfare

rest_result : (whole rest : ProblemState) (i : ℕ) (gone : Block) (zs : List Bool) (w : ℤ) → AreBoth whole rest i gone
    → IsResult whole (insert zs i false) w → IsResult rest (zs ++ false ∷ []) w
rest_result whole rest i gone zs w both is = record {
  eligible = rest_eligible whole rest i gone zs w both is.eligible;
  others = λ ys v other.
      (let us = rest_selection whole rest i gone ys v both other in
      let there = subst (λ (xs : List Bool). IsEligible rest xs v) us.1 other in
      let ranks = is.others (insert us.0 i false) v (whole_eligible whole rest i gone us.0 v both there) in
      let long_us = padded_length us.0 i in let long_zs = padded_length zs i in
      let a = there.as_long in let b = is.eligible.as_long in
      let one = length-append us.0 (false ∷ []) in let two = length-append zs (false ∷ []) in
      subst (λ (xs : List Bool). RanksAtOrBelow v xs w (zs ++ false ∷ [])) (sym us.1)
      (record {
        by_welfare = ranks.by_welfare;
        by_order = λ e. sym (first_of_whole us.0 zs i (omega (arith, long_us, long_zs, a, b, one, two))) ∙ ranks.by_order e;
      }));
}

whole_is : (whole : ProblemState) (i : ℕ) (gone : Block) (xs : List Bool) → IsProblem whole → slice_get whole.blocks i ≡ Some gone
    → length xs ≡ most_blocks → accepts xs i ≡ false → insert (remove xs i) i false ≡ xs
whole_is whole i gone xs is at long off =
    let inside = slice_get_within whole.blocks i gone at in
    let few = is.few_blocks in
    whole_again xs i (omega (arith, inside, few, long)) off

pub result_without : (whole rest : ProblemState) (i : ℕ) (gone : Block) (xs : List Bool) (w : ℤ) → IsProblem whole → IsProblem rest
    → IsWithoutBlock whole rest i gone → IsResult whole xs w → accepts xs i ≡ false → IsResult rest (without_place xs i) w
result_without whole rest i gone xs w is_whole is_rest without is off =
    rest_result whole rest i gone (remove xs i) w (record { is_whole = is_whole; is_rest = is_rest; without = without })
    (subst (λ (us : List Bool). IsResult whole us w) (sym (whole_is whole i gone xs is_whole without.stands is.eligible.as_long off)) is)

pub outcome_without : (whole rest : ProblemState) (i : ℕ) (gone : Block) (xs : List Bool) (prices : List ℤ) (executions : List (List ℕ))
    → IsProblem whole → IsWithoutBlock whole rest i gone → length xs ≡ most_blocks → IsOutcome whole xs prices executions
    → accepts xs i ≡ false → IsOutcome rest (without_place xs i) prices executions
outcome_without whole rest i gone xs prices executions is_whole without long is off =
    let same = whole_is whole i gone xs is_whole without.stands long off in
    let zs = remove xs i in
    let net = λ (t : ℕ). ap (λ (us : List Bool). net_volume whole.blocks us t) (sym same) ∙ same_net whole rest i gone zs t without in
    record {
      prices_are = subst (λ (hours : List (List Step)). ArePrices rest.blocks (zs ++ false ∷ []) 1 hours prices) (sym without.hours)
          (prices_transfer whole.blocks rest.blocks xs (zs ++ false ∷ []) 1 whole.hours prices net is.prices_are);
      executions_are =
          subst (λ (hours : List (List Step)). AreBestExecutions rest.blocks (zs ++ false ∷ []) 1 hours executions) (sym without.hours)
          (executions_transfer whole.blocks rest.blocks xs (zs ++ false ∷ []) 1 whole.hours executions net is.executions_are);
    }

pub sums_without : (whole rest : ProblemState) (i : ℕ) (gone : Block) (xs : List Bool) (f : BlockTerms → ℤ) → IsProblem whole
    → IsWithoutBlock whole rest i gone → length xs ≡ most_blocks → accepts xs i ≡ false
    → over_accepted f rest.blocks (without_place xs i) ≡ over_accepted f whole.blocks xs
sums_without whole rest i gone xs f is_whole without long off =
    sym (over_rest_of whole rest i gone f (remove xs i) without)
    ∙ ap (λ (us : List Bool). over_accepted f whole.blocks us) (whole_is whole i gone xs is_whole without.stands long off)
