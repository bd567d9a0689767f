-- The number of accepted blocks of a group, and the facts on which it depends.
use Rattle.dam_blocks.proofs.Common.{◌≡◌, ℕ, suc, ◌+◌, ◌≤◌, Bool, true, false, ◌&&◌, cond, Option, Some, None, List, [], ◌∷◌, ap, ap₂, ◌∙◌, subst, refl, arith}
use Rattle.dam_blocks.proofs.Common.{bytes_decides, and_parts, same_text, Block, accepts, are_of_one_group, accepted_of_group}
use Rattle.std.specs.List.{slice_get}
use Rattle.dam_blocks.specs.Selection.{same_group}

-- ---- two blocks of one group
named_same : (o p : Option (List ℕ)) → same_group o p ≡ true → o ≡ p
named_same None None e = refl
named_same None (Some h) e = absurd (cc)
named_same (Some g) None e = absurd (cc)
named_same (Some g) (Some h) e = ap (λ (n : List ℕ). Some n) ((bytes_decides g h).0 e)

named_some : (o p : Option (List ℕ)) → same_group o p ≡ true → o ≡ None → ⊥
named_some None None e none = absurd (cc)
named_some None (Some h) e none = absurd (cc)
named_some (Some g) p e none = absurd (cc)

pub same_participant : (a b : Block) → are_of_one_group a b ≡ true → a.who ≡ b.who
same_participant a b e =
    (bytes_decides a.who b.who).0 (and_parts (same_text a.who b.who) (same_group a.order.group b.order.group) e).0

pub group_is : (a b : Block) → are_of_one_group a b ≡ true → a.order.group ≡ b.order.group
group_is a b e =
    named_same a.order.group b.order.group (and_parts (same_text a.who b.who) (same_group a.order.group b.order.group) e).1

-- neither is a block without a group
pub has_group : (a b : Block) → are_of_one_group a b ≡ true → a.order.group ≡ None → ⊥
has_group a b e =
    named_some a.order.group b.order.group (and_parts (same_text a.who b.who) (same_group a.order.group b.order.group) e).1

pub other_has_group : (a b : Block) → are_of_one_group a b ≡ true → b.order.group ≡ None → ⊥
other_has_group a b e none = has_group a b e (group_is a b e ∙ none)

-- ---- their number
pub count_none : (g : Block) (bs : List Block) → accepted_of_group g bs [] ≡ 0
count_none g [] = refl
count_none g (b ∷ bs) = refl

-- it is the same for each block of the group
pub same_count : (g h : Block) → g.who ≡ h.who → g.order.group ≡ h.order.group → (bs : List Block) (sel : List Bool)
    → accepted_of_group g bs sel ≡ accepted_of_group h bs sel
same_count g h who group [] sel = refl
same_count g h who group (b ∷ bs) [] = refl
same_count g h who group (b ∷ bs) (true ∷ sel) =
    ap₂ (λ (x : Bool) (n : ℕ). cond x 1 0 + n)
    (ap₂ (λ (w : List ℕ) (o : Option (List ℕ)). same_text w b.who && same_group o b.order.group) who group)
    (same_count g h who group bs sel)
same_count g h who group (b ∷ bs) (false ∷ sel) = same_count g h who group bs sel

counted_both : (k m n : ℕ) → m ≤ n → k + m ≤ k + n
counted_both k m n l = omega (arith, l)

counted_second : (k m n : ℕ) → m ≤ n → m ≤ k + n
counted_second k m n l = omega (arith, l)

not_counted : (x : Bool) (m n : ℕ) → (x ≡ true → ⊥) → m ≤ n → cond x 1 0 + m ≤ n
not_counted true m n never l = absurd (never refl)
not_counted false m n never l = omega (arith, l)

-- a selection that accepts only blocks of the group that another accepts has no more of them
pub count_at_most : (g : Block) (bs : List Block) (xs ys : List Bool)
    → ((j : ℕ) (b : Block) → slice_get bs j ≡ Some b → are_of_one_group g b ≡ true → accepts xs j ≡ true → accepts ys j ≡ true)
    → accepted_of_group g bs xs ≤ accepted_of_group g bs ys
count_at_most g [] xs ys h = omega arith
count_at_most g (b ∷ bs) [] ys h = omega arith
count_at_most g (b ∷ bs) (true ∷ xs) (true ∷ ys) h =
    counted_both (cond (are_of_one_group g b) 1 0) (accepted_of_group g bs xs) (accepted_of_group g bs ys)
    (count_at_most g bs xs ys (λ j. h (suc j)))
count_at_most g (b ∷ bs) (true ∷ xs) (false ∷ ys) h =
    not_counted (are_of_one_group g b) (accepted_of_group g bs xs) (accepted_of_group g bs ys)
    (λ e. (let wrong : false ≡ true = h 0 b refl e refl in absurd (cc)))
    (count_at_most g bs xs ys (λ j. h (suc j)))
count_at_most g (b ∷ bs) (false ∷ xs) (true ∷ ys) h =
    counted_second (cond (are_of_one_group g b) 1 0) (accepted_of_group g bs xs) (accepted_of_group g bs ys)
    (count_at_most g bs xs ys (λ j. h (suc j)))
count_at_most g (b ∷ bs) (false ∷ xs) (false ∷ ys) h = count_at_most g bs xs ys (λ j. h (suc j))
count_at_most g (b ∷ bs) (true ∷ xs) [] h =
    not_counted (are_of_one_group g b) (accepted_of_group g bs xs) 0
    (λ e. (let wrong : false ≡ true = h 0 b refl e refl in absurd (cc)))
    (subst (λ (n : ℕ). accepted_of_group g bs xs ≤ n) (count_none g bs) (count_at_most g bs xs [] (λ j. h (suc j))))
count_at_most g (b ∷ bs) (false ∷ xs) [] h =
    subst (λ (n : ℕ). accepted_of_group g bs xs ≤ n) (count_none g bs) (count_at_most g bs xs [] (λ j. h (suc j)))

-- of no group, none
pub count_alone : (g : Block) (bs : List Block) (sel : List Bool) → g.order.group ≡ None → accepted_of_group g bs sel ≡ 0
count_alone g bs sel none =
    let most = count_at_most g bs sel [] (λ j b at one on. absurd (has_group g b one none)) in
    let is = count_none g bs in
    omega (arith, most, is)
