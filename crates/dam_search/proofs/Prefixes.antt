-- A prefix of decisions, and the selection that accepts no other block.
use Rattle.dam_search.proofs.Common.{◌≡◌, ℕ, zero, suc, ◌+◌, ◌-◌, ◌^◌, ◌<◌, ◌≤◌, Bool, true, false, cond, nat_lt, List, [], ◌∷◌, ◌++◌, length, replicate}
use Rattle.dam_search.proofs.Common.{take, length-append, ap, ◌∙◌, sym, subst, refl, arith, set, length-replicate, most_blocks, Block, padded, choice}
use Rattle.dam_search.proofs.Common.{IsAdmissible}
use Rattle.std.proofs.lemmas.List.{length-take-le}
use Rattle.std.proofs.Math.Seq.{take-append_seam}

pub length-choice : (n k : ℕ) → length (choice n k) ≡ n
length-choice zero k = refl
length-choice (suc n) k =
    elim (nat_lt k (2 ^ n)) as (λ b. length (cond b (true ∷ choice n k) (false ∷ choice n (k - 2 ^ n))) ≡ suc n) [
      | true ↦ ap suc (length-choice n k)
      | false ↦ ap suc (length-choice n (k - 2 ^ n))
    ]

-- the first places of a padded list are the list, and pad it again
pub prefix_is : (prefix accepted : List Bool) (n : ℕ) → accepted ≡ padded prefix → length prefix ≡ n → take n accepted ≡ prefix
prefix_is prefix accepted n is long =
    ap (λ (xs : List Bool). take n xs) is ∙ ap (λ (m : ℕ). take m (padded prefix)) (sym long)
    ∙ take-append_seam prefix (replicate (most_blocks - length prefix) false)

pub prefix_kept : (prefix accepted : List Bool) (n : ℕ) → accepted ≡ padded prefix → length prefix ≡ n → accepted ≡ padded (take n accepted)
prefix_kept prefix accepted n is long = is ∙ ap padded (sym (prefix_is prefix accepted n is long))

pub length_more : (prefix : List Bool) (b : Bool) → length (prefix ++ b ∷ []) ≡ suc (length prefix)
length_more prefix b = omega (arith, length-append prefix (b ∷ []))

-- one decision more
accept_next : (prefix : List Bool) (n : ℕ) → set (prefix ++ replicate (suc n) false) (length prefix)
    true ≡ (prefix ++ true ∷ []) ++ replicate n false
accept_next [] n = refl
accept_next (x ∷ prefix) n = ap (λ (xs : List Bool). x ∷ xs) (accept_next prefix n)

reject_next : (prefix : List Bool) (n : ℕ) → prefix ++ replicate (suc n) false ≡ (prefix ++ false ∷ []) ++ replicate n false
reject_next [] n = refl
reject_next (x ∷ prefix) n = ap (λ (xs : List Bool). x ∷ xs) (reject_next prefix n)

undecided : (prefix : List Bool) (b : Bool) → length prefix < most_blocks
    → most_blocks - length prefix ≡ suc (most_blocks - length (prefix ++ b ∷ []))
undecided prefix b h = omega (arith, length_more prefix b)

pub padded-accepted : (prefix accepted : List Bool) → accepted ≡ padded prefix → length prefix < most_blocks
    → set accepted (length prefix) true ≡ padded (prefix ++ true ∷ [])
padded-accepted prefix accepted is h =
    ap (λ (xs : List Bool). set xs (length prefix) true) is
    ∙ ap (λ (n : ℕ). set (prefix ++ replicate n false) (length prefix) true) (undecided prefix true h)
    ∙ accept_next prefix (most_blocks - length (prefix ++ true ∷ []))

pub padded-rejected : (prefix accepted : List Bool) → accepted ≡ padded prefix → length prefix < most_blocks
    → accepted ≡ padded (prefix ++ false ∷ [])
padded-rejected prefix accepted is h =
    is ∙ ap (λ (n : ℕ). prefix ++ replicate n false) (undecided prefix false h)
    ∙ reject_next prefix (most_blocks - length (prefix ++ false ∷ []))

-- the prefix is as long as it is deep
pub length-prefix : (accepted : List Bool) (n : ℕ) → accepted ≡ padded (take n accepted) → n ≤ most_blocks → length (take n accepted) ≡ n
length-prefix accepted n is few =
    let long = ap (λ (xs : List Bool). length xs) is in
    let parts = length-append (take n accepted) (replicate (most_blocks - length (take n accepted)) false) in
    let rest = length-replicate (most_blocks - length (take n accepted)) false in
    length-take-le n accepted (omega (arith, long, parts, rest))

-- the length of a prefix, and its decisions padded with rejections
pub prefix_of : (accepted prefix : List Bool) (n : ℕ) → take n accepted ≡ prefix → accepted ≡ padded (take n accepted) → n ≤ most_blocks
    → (length prefix ≡ n) × (accepted ≡ padded prefix)
prefix_of accepted prefix n view is few = (ap (λ (xs : List Bool). length xs) (sym view) ∙ length-prefix accepted n is few, is ∙ ap padded view)

-- the selection of the prefix with the next decision
pub taken_next : (prefix accepted next : List Bool) (n : ℕ) (accept : Bool) → take n accepted ≡ prefix → accepted ≡ padded (take n accepted)
    → n ≤ most_blocks → length prefix < most_blocks
    → (accept ≡ true → next ≡ set accepted n true) → (accept ≡ false → next ≡ accepted) → next ≡ padded (prefix ++ accept ∷ [])
taken_next prefix accepted next n true view is few h if_accepted if_rejected =
    let own = prefix_of accepted prefix n view is few in
    if_accepted refl ∙ ap (λ (m : ℕ). set accepted m true) (sym own.0) ∙ padded-accepted prefix accepted own.1 h
taken_next prefix accepted next n false view is few h if_accepted if_rejected = if_rejected refl ∙ padded-rejected prefix accepted (is ∙ ap padded view) h

pub length_next : (prefix accepted : List Bool) (n : ℕ) (accept : Bool) → take n accepted ≡ prefix → accepted ≡ padded (take n accepted)
    → n ≤ most_blocks → length (prefix ++ accept ∷ []) ≡ n + 1
length_next prefix accepted n accept view is few =
    let long = (prefix_of accepted prefix n view is few).0 in omega (arith, length_more prefix accept, long)

-- one block more that is rejected keeps a selection admissible
pub still_rejected : (blocks : List Block) (front : List Bool) → length front < most_blocks → IsAdmissible blocks (padded front)
    → IsAdmissible blocks (padded (front ++ false ∷ []))
still_rejected blocks front few admissible =
    subst (λ (xs : List Bool). IsAdmissible blocks xs) (padded-rejected front (padded front) refl few) admissible
