-- Acceptances that an accepted block rules out.
use Rattle.dam_blocks.proofs.Common.{◌≡◌, ◌≢◌, ℕ, zero, suc, ◌+◌, ◌<◌, ◌≤◌, Bool, true, false, ◌&&◌, cond, Option, Some, List, [], ◌∷◌, ap, ap₂, ◌∙◌, subst}
use Rattle.dam_blocks.proofs.Common.{refl, arith, same_text, Block, ProblemState, IsProblem, IsParent, descends, IsChildAt, Descends, Child, OfChild, accepts}
use Rattle.dam_blocks.proofs.Common.{are_of_one_group, accepted_of_group, IsAdmissible}
use Rattle.std.specs.List.{slice_get}
use Rattle.dam_blocks.specs.Selection.{same_group}
use Rattle.dam_blocks.proofs.GroupCounts.{same_participant, group_is}
use Rattle.dam_blocks.proofs.Descending.{descends_is}

-- ---- the blocks that an accepted one descends from
parent_accepted : (blocks : List Block) (sel : List Bool) (i j : ℕ) → IsAdmissible blocks sel → IsChildAt blocks i j
    → accepts sel j ≡ true → accepts sel i ≡ true
parent_accepted blocks sel i j is at on =
    let allowed = is.each j on in
    let same : at.child ≡ allowed.block = (let a = at.child_stands in let b = allowed.stands in cc) in
    allowed.parent i at.parent at.parent_stands (subst (λ (b : Block). IsParent at.parent b) same at.is_parent)

chain_accepted : (blocks : List Block) (sel : List Bool) (i j : ℕ) → IsAdmissible blocks sel → Descends blocks i j
    → accepts sel j ≡ true → accepts sel i ≡ true
chain_accepted blocks sel i _ is (Child j at) on = parent_accepted blocks sel i j is at on
chain_accepted blocks sel i _ is (OfChild k j further at) on = chain_accepted blocks sel i k is further (parent_accepted blocks sel k j is at on)

pub ancestors_accepted : (problem : ProblemState) (sel : List Bool) (i j : ℕ) → IsProblem problem → IsAdmissible problem.blocks sel
    → descends problem.blocks i j ≡ true → accepts sel j ≡ true → accepts sel i ≡ true
ancestors_accepted problem sel i j problem_is is below on =
    chain_accepted problem.blocks sel i j is ((descends_is problem i j problem_is).0 below) on

-- ---- the others of its group
with_first : (x : Bool) (m n : ℕ) → m ≤ n → m ≤ cond x 1 0 + n
with_first x m n l = omega (arith, l)

one_and : (x : Bool) (n : ℕ) → x ≡ true → 1 ≤ cond x 1 0 + n
one_and true n e = omega arith
one_and false n e = cc

one_more : (x : Bool) (n : ℕ) → x ≡ true → 1 ≤ n → 2 ≤ cond x 1 0 + n
one_more true n e l = omega (arith, l)
one_more false n e l = cc

one_counted : (g : Block) (bs : List Block) (sel : List Bool) (i : ℕ) (a : Block) → slice_get bs i ≡ Some a
    → are_of_one_group g a ≡ true → accepts sel i ≡ true → 1 ≤ accepted_of_group g bs sel
one_counted g [] sel i a at same on = cc
one_counted g (b ∷ bs) [] i a at same on = cc
one_counted g (b ∷ bs) (true ∷ sel) zero a at same on =
    let is : b ≡ a = cc in one_and (are_of_one_group g b) (accepted_of_group g bs sel) (ap (are_of_one_group g) is ∙ same)
one_counted g (b ∷ bs) (false ∷ sel) zero a at same on = cc
one_counted g (b ∷ bs) (true ∷ sel) (suc i) a at same on =
    with_first (are_of_one_group g b) 1 (accepted_of_group g bs sel) (one_counted g bs sel i a at same on)
one_counted g (b ∷ bs) (false ∷ sel) (suc i) a at same on = one_counted g bs sel i a at same on

-- two accepted places of one group are counted twice
record AreBoth (g : Block) (bs : List Block) (sel : List Bool) (i j : ℕ) : Type 0 where
  first : Block
  second : Block
  first_stands : slice_get bs i ≡ Some first
  second_stands : slice_get bs j ≡ Some second
  first_same : are_of_one_group g first ≡ true
  second_same : are_of_one_group g second ≡ true
  first_on : accepts sel i ≡ true
  second_on : accepts sel j ≡ true

among_the_rest : (g b : Block) (bs : List Block) (x : Bool) (sel : List Bool) (i j : ℕ) → AreBoth g (b ∷ bs) (x ∷ sel) (suc i) (suc j)
    → AreBoth g bs sel i j
among_the_rest g b bs x sel i j are = record {
  first = are.first;
  second = are.second;
  first_stands = are.first_stands;
  second_stands = are.second_stands;
  first_same = are.first_same;
  second_same = are.second_same;
  first_on = are.first_on;
  second_on = are.second_on;
}

two_counted : (g : Block) (bs : List Block) (sel : List Bool) (i j : ℕ) → i ≢ j → AreBoth g bs sel i j → 2 ≤ accepted_of_group g bs sel
two_counted g [] sel i j apart are = let at = are.first_stands in cc
two_counted g (b ∷ bs) [] i j apart are = let on = are.first_on in cc
two_counted g (b ∷ bs) (x ∷ sel) zero zero apart are = absurd (apart refl)
two_counted g (b ∷ bs) (true ∷ sel) zero (suc j) apart are =
    let is : b ≡ are.first = (let at = are.first_stands in cc) in
    one_more (are_of_one_group g b) (accepted_of_group g bs sel) (ap (are_of_one_group g) is ∙ are.first_same)
    (one_counted g bs sel j are.second are.second_stands are.second_same are.second_on)
two_counted g (b ∷ bs) (false ∷ sel) zero (suc j) apart are = let on = are.first_on in cc
two_counted g (b ∷ bs) (true ∷ sel) (suc i) zero apart are =
    let is : b ≡ are.second = (let at = are.second_stands in cc) in
    one_more (are_of_one_group g b) (accepted_of_group g bs sel) (ap (are_of_one_group g) is ∙ are.second_same)
    (one_counted g bs sel i are.first are.first_stands are.first_same are.first_on)
two_counted g (b ∷ bs) (false ∷ sel) (suc i) zero apart are = let on = are.second_on in cc
two_counted g (b ∷ bs) (true ∷ sel) (suc i) (suc j) apart are =
    with_first (are_of_one_group g b) 2 (accepted_of_group g bs sel)
    (two_counted g bs sel i j (λ e. apart (ap suc e)) (among_the_rest g b bs true sel i j are))
two_counted g (b ∷ bs) (false ∷ sel) (suc i) (suc j) apart are =
    two_counted g bs sel i j (λ e. apart (ap suc e)) (among_the_rest g b bs false sel i j are)

-- a block that is of one group with another is of one group with itself
with_itself : (a b : Block) → are_of_one_group a b ≡ true → are_of_one_group a a ≡ true
with_itself a b same =
    ap₂ (λ (w : List ℕ) (o : Option (List ℕ)). same_text a.who w && same_group a.order.group o) (same_participant a b same) (group_is a b same)
    ∙ same

not_true : (x : Bool) → (x ≡ true → ⊥) → x ≡ false
not_true true never = absurd (never refl)
not_true false never = refl

pub others_rejected : (blocks : List Block) (sel : List Bool) (i j : ℕ) (a b : Block) → IsAdmissible blocks sel
    → slice_get blocks i ≡ Some a → slice_get blocks j ≡ Some b → i ≢ j → are_of_one_group a b ≡ true → accepts sel i ≡ true
    → accepts sel j ≡ false
others_rejected blocks sel i j a b is at there apart same on = not_true (accepts sel j) (λ on_too.
    (let allowed = is.each i on in
    let own : allowed.block ≡ a = (let stands = allowed.stands in cc) in
    let most = allowed.group in
    let count = ap (λ (g : Block). accepted_of_group g blocks sel) own in
    let two = two_counted a blocks sel i j apart record {
      first = a;
      second = b;
      first_stands = at;
      second_stands = there;
      first_same = with_itself a b same;
      second_same = same;
      first_on = on;
      second_on = on_too;
    } in
    let wrong : 0 < 0 = omega (arith, most, count, two) in omega (arith, wrong)))
