-- In another order of the blocks, each eligible selection has its counterpart, which accepts the same blocks.
use Rattle.dam_blocks.proofs.Common.{◌≡◌, inl, inr, ℕ, zero, suc, ◌+◌, ◌<◌, ◌≤◌, ℤ, pos, ◌+ℤ◌, ◌≤ℤ◌, Bool, true, false, ◌&&◌, cond, Option, Some, List, [], ◌∷◌}
use Rattle.dam_blocks.proofs.Common.{length, ap, ap₂, ◌∙◌, sym, subst, refl, arith, option_map, unwrap_or, ints, cases_lt, slice_get_within, most_of_group}
use Rattle.dam_blocks.proofs.Common.{BlockTerms, Step, Block, ProblemState, IsProblem, IsParent, accepts, over_accepted, net_volume_of_block, value_in}
use Rattle.dam_blocks.proofs.Common.{are_of_one_group, accepted_of_group, IsAllowed, IsAdmissible, descends, accepted_where, accepted_descendants, IsChildAt}
use Rattle.dam_blocks.proofs.Common.{Descends, Child, OfChild, ArePrices, surplus_of, surplus_at, HasNoLoss, welfare_from, IsEligible, IsResult}
use Rattle.std.specs.List.{slice_get}
use Rattle.std.proofs.lemmas.List.Sorted.{IsPermutation-sym}
use Rattle.dam_blocks.specs.Changes.{AcceptTheSame, HasBlocksReordered}
use Rattle.dam_blocks.proofs.Families.{accepts_descendant}
use Rattle.dam_blocks.proofs.Descending.{descends_is}
use Rattle.dam_blocks.proofs.Participants.{over_accepted-agree}
use Rattle.dam_blocks.proofs.Transfer.{prices_transfer, welfare_transfer}
use Rattle.dam_blocks.proofs.Exchanges.{Reordered, Same, Kept, Exchanged, Then, reordered}

-- ---- lists of acceptances
-- the block stands in the other list too, where it is decided as here
abbrev StandsToo : List Block → List Bool → Bool → Block → Type 0
StandsToo cs ys decided b = (j : ℕ) × (slice_get cs j ≡ Some b) × (decided ≡ accepts ys j)

-- the same blocks are accepted, and past the blocks nothing changes
record Matches (bs cs : List Block) (xs ys : List Bool) : Type 0 where
  as_many : length cs ≡ length bs
  as_long : length ys ≡ length xs
  sum : (f : BlockTerms → ℤ) → over_accepted f bs xs ≡ over_accepted f cs ys
  count : (g : Block) → accepted_of_group g bs xs ≡ accepted_of_group g cs ys
  forth : (i : ℕ) (b : Block) → slice_get bs i ≡ Some b → StandsToo cs ys (accepts xs i) b
  back : (j : ℕ) (b : Block) → slice_get cs j ≡ Some b → StandsToo bs xs (accepts ys j) b
  beyond : (j : ℕ) → length bs ≤ j → accepts ys j ≡ accepts xs j

one_stands : (d : Bool) (b c : Block) (bs : List Block) (xs : List Bool) → Some b ≡ Some c → StandsToo (b ∷ bs) (d ∷ xs) d c
one_stands d b c bs xs e = (0, e, refl)

later_stands : (d e : Bool) (b c : Block) (bs : List Block) (xs : List Bool) → StandsToo bs xs d c → StandsToo (b ∷ bs) (e ∷ xs) d c
later_stands d e b c bs xs s = (suc s.0, s.1, s.2)

add_here : (f : BlockTerms → ℤ) (d : Bool) (b : Block) (bs cs : List Block) (xs ys : List Bool) → over_accepted f bs xs ≡ over_accepted f cs ys
    → over_accepted f (b ∷ bs) (d ∷ xs) ≡ over_accepted f (b ∷ cs) (d ∷ ys)
add_here f true b bs cs xs ys e = ap (λ (z : ℤ). f b.order +ℤ z) e
add_here f false b bs cs xs ys e = e

swap_here : (f : BlockTerms → ℤ) (d e : Bool) (b c : Block) (bs : List Block) (xs : List Bool)
    → over_accepted f (b ∷ c ∷ bs) (d ∷ e ∷ xs) ≡ over_accepted f (c ∷ b ∷ bs) (e ∷ d ∷ xs)
swap_here f true true b c bs xs = omega (arith, ints)
swap_here f true false b c bs xs = refl
swap_here f false true b c bs xs = refl
swap_here f false false b c bs xs = refl

count_here : (g : Block) (d : Bool) (b : Block) (bs cs : List Block) (xs ys : List Bool) → accepted_of_group g bs xs ≡ accepted_of_group g cs ys
    → accepted_of_group g (b ∷ bs) (d ∷ xs) ≡ accepted_of_group g (b ∷ cs) (d ∷ ys)
count_here g true b bs cs xs ys e = ap (λ (n : ℕ). cond (are_of_one_group g b) 1 0 + n) e
count_here g false b bs cs xs ys e = e

count_swapped : (g : Block) (d e : Bool) (b c : Block) (bs : List Block) (xs : List Bool)
    → accepted_of_group g (b ∷ c ∷ bs) (d ∷ e ∷ xs) ≡ accepted_of_group g (c ∷ b ∷ bs) (e ∷ d ∷ xs)
count_swapped g true true b c bs xs = omega arith
count_swapped g true false b c bs xs = refl
count_swapped g false true b c bs xs = refl
count_swapped g false false b c bs xs = refl

matched : (bs cs : List Block) → Reordered bs cs → (xs : List Bool) → length bs ≤ length xs → (ys : List Bool) × Matches bs cs xs ys
matched _ _ (Same bs) xs l = (
  xs,
  record {
    as_many = refl;
    as_long = refl;
    sum = λ f. refl;
    count = λ g. refl;
    forth = λ i b at. (i, at, refl);
    back = λ i b at. (i, at, refl);
    beyond = λ j past. refl;
  },
)
matched _ _ (Kept b bs cs rest) [] l = absurd (omega (arith, l))
matched _ _ (Kept b bs cs rest) (d ∷ xs) l =
    let found = matched bs cs rest xs (omega (arith, l)) in
    let m = found.1 in
    let many = m.as_many in let long = m.as_long in (
      d ∷ found.0,
      record {
        as_many = omega (arith, many);
        as_long = omega (arith, long);
        sum = λ f. add_here f d b bs cs xs found.0 (m.sum f);
        count = λ g. count_here g d b bs cs xs found.0 (m.count g);
        forth = kept_stands bs cs xs found.0 b d m.forth;
        back = kept_stands cs bs found.0 xs b d m.back;
        beyond = past_first bs xs found.0 d m.beyond;
      },
    )
  where
    kept_stands : (bs cs : List Block) (xs ys : List Bool) (b : Block) (d : Bool)
        → ((i : ℕ) (c : Block) → slice_get bs i ≡ Some c → StandsToo cs ys (accepts xs i) c) → (i : ℕ) (c : Block)
        → slice_get (b ∷ bs) i ≡ Some c → StandsToo (b ∷ cs) (d ∷ ys) (accepts (d ∷ xs) i) c
    kept_stands bs cs xs ys b d forth zero c at = one_stands d b c cs ys at
    kept_stands bs cs xs ys b d forth (suc i) c at = later_stands (accepts xs i) d b c cs ys (forth i c at)

    past_first : (bs : List Block) (xs ys : List Bool) (d : Bool) → ((j : ℕ) → length bs ≤ j → accepts ys j ≡ accepts xs j) → (j : ℕ)
        → suc (length bs) ≤ j → accepts (d ∷ ys) j ≡ accepts (d ∷ xs) j
    past_first bs xs ys d beyond zero past = refl
    past_first bs xs ys d beyond (suc j) past = beyond j (omega (arith, past))
matched _ _ (Exchanged b c bs) [] l = absurd (omega (arith, l))
matched _ _ (Exchanged b c bs) (d ∷ []) l = absurd (omega (arith, l))
matched _ _ (Exchanged b c bs) (d ∷ e ∷ xs) l = (
  e ∷ d ∷ xs,
  record {
    as_many = refl;
    as_long = refl;
    sum = λ f. swap_here f d e b c bs xs;
    count = λ g. count_swapped g d e b c bs xs;
    forth = swapped_stands b c d e bs xs;
    back = swapped_stands c b e d bs xs;
    beyond = past_two d e (length bs) xs;
  },
)
  where
    swapped_stands : (b c : Block) (d e : Bool) (bs : List Block) (xs : List Bool) (i : ℕ) (a : Block) → slice_get (b ∷ c ∷ bs) i ≡ Some a
        → StandsToo (c ∷ b ∷ bs) (e ∷ d ∷ xs) (accepts (d ∷ e ∷ xs) i) a
    swapped_stands b c d e bs xs zero a at = (1, at, refl)
    swapped_stands b c d e bs xs (suc zero) a at = (0, at, refl)
    swapped_stands b c d e bs xs (suc (suc i)) a at = (suc (suc i), at, refl)

    past_two : (d e : Bool) (n : ℕ) (xs : List Bool) (j : ℕ) → suc (suc n) ≤ j → accepts (e ∷ d ∷ xs) j ≡ accepts (d ∷ e ∷ xs) j
    past_two d e n xs zero past = absurd (omega (arith, past))
    past_two d e n xs (suc zero) past = absurd (omega (arith, past))
    past_two d e n xs (suc (suc j)) past = refl
matched _ _ (Then bs cs ds first second) xs l =
    let one = matched bs cs first xs l in
    let a = one.1 in
    let many = a.as_many in let long = a.as_long in
    let two = matched cs ds second one.0 (omega (arith, l, many, long)) in
    let b = two.1 in (
      two.0,
      record {
        as_many = b.as_many ∙ many;
        as_long = b.as_long ∙ long;
        sum = λ f. a.sum f ∙ b.sum f;
        count = λ g. a.count g ∙ b.count g;
        forth = λ i c at. (let s = a.forth i c at in let t = b.forth s.0 c s.1 in (t.0, t.1, s.2 ∙ t.2));
        back = λ i c at. (let s = b.back i c at in let t = a.back s.0 c s.1 in (t.0, t.1, s.2 ∙ t.2));
        beyond = λ j past. b.beyond j (omega (arith, many, past)) ∙ a.beyond j past;
      },
    )

-- ---- families
descends_there : (bs cs : List Block) (i j a b : ℕ) (p c : Block)
    → ((k : ℕ) (q : Block) → slice_get bs k ≡ Some q → (m : ℕ) × (slice_get cs m ≡ Some q)) → Descends bs i j
    → slice_get bs i ≡ Some p → slice_get cs a ≡ Some p → slice_get bs j ≡ Some c → slice_get cs b ≡ Some c → Descends cs a b
descends_there bs cs i _ a b p c forth (Child j at) first there last here =
    Child b (child_there cs a b at.parent at.child p c at.is_parent (same_block at.parent p (sym at.parent_stands ∙ first))
    (same_block at.child c (sym at.child_stands ∙ last)) there here)
  where
    same_block : (x y : Block) → Some x ≡ Some y → x ≡ y
    same_block x y e = cc

    child_there : (cs : List Block) (a b : ℕ) (x y p c : Block) → IsParent x y → x ≡ p → y ≡ c → slice_get cs a ≡ Some p
        → slice_get cs b ≡ Some c → IsChildAt cs a b
    child_there cs a b x y p c is e f at_a at_b = record {
      parent = x;
      child = y;
      parent_stands = at_a ∙ ap (λ (z : Block). Some z) (sym e);
      child_stands = at_b ∙ ap (λ (z : Block). Some z) (sym f);
      is_parent = is;
    }
descends_there bs cs i _ a b p c forth (OfChild k j further at) first there last here =
    let parent = forth k at.parent at.parent_stands in
    let same : at.child ≡ c = same_block at.child c (sym at.child_stands ∙ last) in
    OfChild parent.0 b (descends_there bs cs i k a parent.0 p at.parent forth further first there at.parent_stands parent.1)
    (record {
      parent = at.parent;
      child = at.child;
      parent_stands = parent.1;
      child_stands = here ∙ ap (λ (z : Block). Some z) (sym same);
      is_parent = at.is_parent;
    })
  where
    same_block : (x y : Block) → Some x ≡ Some y → x ≡ y
    same_block x y e = cc

-- two problems with the same blocks
record AreTwo (problem other : ProblemState) : Type 0 where
  is_one : IsProblem problem
  is_other : IsProblem other
  reordered : HasBlocksReordered problem other

same_test : (x y : Bool) → (x ≡ true → y ≡ true) → (y ≡ true → x ≡ true) → x ≡ y
same_test true y h g = sym (h refl)
same_test false true h g = g refl
same_test false false h g = refl

same_families : (problem other : ProblemState) (xs ys : List Bool) (i j a b : ℕ) (p c : Block) → AreTwo problem other
    → Matches problem.blocks other.blocks xs ys
    → slice_get problem.blocks i ≡ Some p → slice_get other.blocks a ≡ Some p → slice_get problem.blocks j ≡ Some c
    → slice_get other.blocks b ≡ Some c → descends problem.blocks i j ≡ descends other.blocks a b
same_families problem other xs ys i j a b p c two m first there last here =
    same_test (descends problem.blocks i j) (descends other.blocks a b)
    (λ e. (descends_is other a b two.is_other).1
    (descends_there problem.blocks other.blocks i j a b p c (λ k q at. (let s = m.forth k q at in (s.0, s.1)))
    ((descends_is problem i j two.is_one).0 e) first there last here))
    (λ e. (descends_is problem i j two.is_one).1
    (descends_there other.blocks problem.blocks a b i j p c (λ k q at. (let s = m.back k q at in (s.0, s.1)))
    ((descends_is other a b two.is_other).0 e) there first here last))

-- ---- admissible
stands_at : (bs : List Block) (j : ℕ) → j < length bs → (b : Block) × (slice_get bs j ≡ Some b)
stands_at [] j l = absurd (omega (arith, l))
stands_at (b ∷ bs) zero l = (b, refl)
stands_at (b ∷ bs) (suc j) l = stands_at bs j (omega (arith, l))

-- the blocks that the counterpart accepts stand among the blocks
accepted_stands : (bs cs : List Block) (xs ys : List Bool) (j : ℕ) → Matches bs cs xs ys → IsAdmissible bs xs → accepts ys j ≡ true
    → (b : Block) × (slice_get cs j ≡ Some b)
accepted_stands bs cs xs ys j m is acc = elim (cases_lt j (length cs)) [
  | inl less ↦ stands_at cs j less
  | inr more ↦
      (let many = m.as_many in
      let was = sym (m.beyond j (omega (arith, many, more))) ∙ acc in
      let allowed = is.each j was in
      let inside = slice_get_within bs j allowed.block allowed.stands in
      absurd (let wrong : 0 < 0 = omega (arith, many, more, inside) in omega (arith, wrong)))
]

same_block : (x y : Block) → Some x ≡ Some y → x ≡ y
same_block x y e = cc

one_place : (problem : ProblemState) (i j : ℕ) (b : Block) → IsProblem problem → slice_get problem.blocks i ≡ Some b
    → slice_get problem.blocks j ≡ Some b → i ≡ j
one_place problem i j b is first second = is.unique i j b b first second refl refl

counterpart_allowed : (problem other : ProblemState) (xs ys : List Bool) (j : ℕ) (b : Block) → AreTwo problem other
    → Matches problem.blocks other.blocks xs ys → IsAdmissible problem.blocks xs → slice_get other.blocks j ≡ Some b → accepts ys j ≡ true
    → IsAllowed other.blocks ys j
counterpart_allowed problem other xs ys j b two m is at acc =
    let own = m.back j b at in
    let allowed = is.each own.0 (sym own.2 ∙ acc) in
    let same : allowed.block ≡ b = same_block allowed.block b (sym allowed.stands ∙ own.1) in
    record {
      block = b;
      stands = at;
      parent = λ k fellow at_k is_parent.
          (let there = m.back k fellow at_k in
          there.2 ∙ allowed.parent there.0 fellow there.1 (subst (λ (z : Block). IsParent fellow z) (sym same) is_parent));
      group = subst (λ (z : Block). accepted_of_group z other.blocks ys ≤ most_of_group) same
          (subst (λ (n : ℕ). n ≤ most_of_group) (m.count allowed.block) allowed.group);
    }

counterpart_admissible : (problem other : ProblemState) (xs ys : List Bool) → AreTwo problem other
    → Matches problem.blocks other.blocks xs ys → IsAdmissible problem.blocks xs → IsAdmissible other.blocks ys
counterpart_admissible problem other xs ys two m is = record {
  each = λ j acc.
      (let stands = accepted_stands problem.blocks other.blocks xs ys j m is acc in
      counterpart_allowed problem other xs ys j stands.0 two m is stands.1 acc);
}

-- ---- no loss
length-where : (test : ℕ → Bool) (t : ℕ) (xs : List Bool) → length (accepted_where test t xs) ≡ length xs
length-where test t [] = refl
length-where test t (x ∷ xs) = ap suc (length-where test (suc t) xs)

-- the accepted descendants are the same blocks
same_descendants : (problem other : ProblemState) (xs ys : List Bool) (i j : ℕ) (p : Block) → AreTwo problem other
    → Reordered problem.blocks other.blocks → length problem.blocks ≤ length xs → Matches problem.blocks other.blocks xs ys
    → slice_get problem.blocks i ≡ Some p → slice_get other.blocks j ≡ Some p → (f : BlockTerms → ℤ)
    → over_accepted f problem.blocks (accepted_descendants problem.blocks xs i)
    ≡ over_accepted f other.blocks (accepted_descendants other.blocks ys j)
same_descendants problem other xs ys i j p two again room m first there f =
    let bs = problem.blocks in let cs = other.blocks in
    let all = accepted_descendants bs xs i in
    let long = length-where (descends bs i) 0 xs in
    let found = matched bs cs again all (omega (arith, room, long)) in
    found.1.sum f
    ∙ over_accepted-agree f cs found.0 (accepted_descendants cs ys j) (λ k c at.
    (let own = found.1.back k c at in
    let was = m.back k c at in
    let same = one_place problem was.0 own.0 c two.is_one was.1 own.1 in
    own.2 ∙ accepts_descendant bs xs i own.0
    ∙ ap₂ (λ (x y : Bool). x && y)
    (ap (λ (n : ℕ). accepts xs n) (sym same) ∙ sym was.2)
    (same_families problem other xs ys i own.0 j k p c two m first there own.1 at)
    ∙ sym (accepts_descendant cs ys j k)))

counterpart_no_loss : (problem other : ProblemState) (xs ys : List Bool) (prices : List ℤ) → AreTwo problem other
    → Reordered problem.blocks other.blocks → length problem.blocks ≤ length xs → Matches problem.blocks other.blocks xs ys
    → IsAdmissible problem.blocks xs → HasNoLoss problem.blocks xs prices → HasNoLoss other.blocks ys prices
counterpart_no_loss problem other xs ys prices two again room m is none = record {
  gains = λ j acc.
      (let stands = accepted_stands problem.blocks other.blocks xs ys j m is acc in
      let b = stands.0 in
      let own = m.back j b stands.1 in
      let gain = none.gains own.0 (sym own.2 ∙ acc) in
      let old : surplus_at problem.blocks prices own.0 ≡ surplus_of prices b.order =
      ap (λ (o : Option Block). unwrap_or (option_map (λ c. surplus_of prices c.order) o) (pos 0)) own.1 in
      let new : surplus_at other.blocks prices j ≡ surplus_of prices b.order =
      ap (λ (o : Option Block). unwrap_or (option_map (λ c. surplus_of prices c.order) o) (pos 0)) stands.1 in
      let same = same_descendants problem other xs ys own.0 j b two again room m own.1 stands.1 (surplus_of prices) in
      omega (arith, ints, gain, old, new, same));
}

-- ---- eligible
unique_acceptances : (problem other : ProblemState) (xs ys : List Bool) → AreTwo problem other → Matches problem.blocks other.blocks xs ys
    → AcceptTheSame problem.blocks other.blocks xs ys
unique_acceptances problem other xs ys two m i j b at there =
    let own = m.forth i b at in
    own.2 ∙ ap (λ (n : ℕ). accepts ys n) (one_place other own.0 j b two.is_other own.1 there)

-- the other problem's selection of the same blocks: it has the same prices, and is eligible with this welfare
pub record IsCounterpart (problem other : ProblemState) (xs ys : List Bool) (w : ℤ) : Type 0 where
  pub same : AcceptTheSame problem.blocks other.blocks xs ys
  pub prices : (prices : List ℤ) → ArePrices problem.blocks xs 1 problem.hours prices
      → ArePrices other.blocks ys 1 other.hours prices
  pub eligible : IsEligible other ys w

pub counterpart : (problem other : ProblemState) (xs : List Bool) (w : ℤ) → IsProblem problem → IsProblem other
    → HasBlocksReordered problem other → IsEligible problem xs w → (ys : List Bool) × IsCounterpart problem other xs ys w
counterpart problem other xs w is_one is_other change e =
    let two : AreTwo problem other = record { is_one = is_one; is_other = is_other; reordered = change } in
    let again = reordered problem.blocks other.blocks change.blocks in
    let few = is_one.few_blocks in let long = e.as_long in
    let room : length problem.blocks ≤ length xs = omega (arith, few, long) in
    let found = matched problem.blocks other.blocks again xs room in
    let ys = found.0 in let m = found.1 in
    let prices_are : (prices : List ℤ) → ArePrices problem.blocks xs 1 problem.hours prices → ArePrices other.blocks ys 1 other.hours prices =
    λ prices are. subst (λ (hours : List (List Step)). ArePrices other.blocks ys 1 hours prices) (sym change.hours)
    (prices_transfer problem.blocks other.blocks xs ys 1 problem.hours prices (λ t. m.sum (net_volume_of_block t)) are) in (
      ys,
      record {
        same = unique_acceptances problem other xs ys two m;
        prices = prices_are;
        eligible = record {
          as_long = m.as_long ∙ long;
          admissible = counterpart_admissible problem other xs ys two m e.admissible;
          prices = e.prices;
          are_prices = prices_are e.prices e.are_prices;
          no_loss = counterpart_no_loss problem other xs ys e.prices two again room m e.admissible e.no_loss;
          welfare_is = ap (λ (hours : List (List Step)). welfare_from other.blocks ys 1 hours) change.hours
              ∙ sym (welfare_transfer problem.blocks other.blocks xs ys 1 problem.hours (λ t. m.sum (net_volume_of_block t))
              (λ t. m.sum (value_in t)))
              ∙ e.welfare_is;
        };
      },
    )

at_most : (problem other : ProblemState) (xs ys : List Bool) (v w : ℤ) → IsProblem problem → IsProblem other
    → HasBlocksReordered problem other → IsResult problem xs v → IsResult other ys w → v ≤ℤ w
at_most problem other xs ys v w is_one is_other change first second =
    let found = counterpart problem other xs v is_one is_other change first.eligible in
    (second.others found.0 v found.1.eligible).by_welfare

pub same_welfare : (problem other : ProblemState) (xs ys : List Bool) (v w : ℤ) → IsProblem problem → IsProblem other
    → HasBlocksReordered problem other → IsResult problem xs v → IsResult other ys w → v ≡ w
same_welfare problem other xs ys v w is_one is_other change first second =
    let turned : HasBlocksReordered other problem =
    record { hours = sym change.hours; blocks = IsPermutation-sym problem.blocks other.blocks change.blocks } in
    let less = at_most problem other xs ys v w is_one is_other change first second in
    let more = at_most other problem ys xs w v is_other is_one turned second first in
    omega (arith, ints, less, more)
