-- The order of selections is total, and the result is the only one.
use Rattle.dam_blocks.proofs.Common.{◌≡◌, ◌<◌, ◌⊎◌, inl, inr, ℤ, ◌≤ℤ◌, Bool, true, false, List, [], ◌∷◌, length, ap, ◌∙◌, sym, refl, arith, ints, by_lt_z}
use Rattle.dam_blocks.proofs.Common.{ProblemState, accepts_first, RanksAtOrBelow, IsResult}
use Rattle.dam_blocks.specs.Result.{RanksAbove}

pub accepts_first-self : (xs : List Bool) → accepts_first xs xs ≡ false
accepts_first-self [] = refl
accepts_first-self (true ∷ xs) = accepts_first-self xs
accepts_first-self (false ∷ xs) = accepts_first-self xs

pub accepts_first-flipped : (xs ys : List Bool) → accepts_first xs ys ≡ true → accepts_first ys xs ≡ false
accepts_first-flipped [] ys e = absurd (cc)
accepts_first-flipped (true ∷ xs) [] e = absurd (cc)
accepts_first-flipped (false ∷ xs) [] e = absurd (cc)
accepts_first-flipped (true ∷ xs) (true ∷ ys) e = accepts_first-flipped xs ys e
accepts_first-flipped (false ∷ xs) (false ∷ ys) e = accepts_first-flipped xs ys e
accepts_first-flipped (true ∷ xs) (false ∷ ys) e = refl
accepts_first-flipped (false ∷ xs) (true ∷ ys) e = absurd (cc)

pub accepts_first-same : (xs ys : List Bool) → length xs ≡ length ys → accepts_first xs ys ≡ false → accepts_first ys xs ≡ false → xs ≡ ys
accepts_first-same [] [] l e f = refl
accepts_first-same [] (y ∷ ys) l e f = absurd (omega arith)
accepts_first-same (x ∷ xs) [] l e f = absurd (omega arith)
accepts_first-same (true ∷ xs) (true ∷ ys) l e f = ap (λ (zs : List Bool). true ∷ zs) (accepts_first-same xs ys (omega arith) e f)
accepts_first-same (false ∷ xs) (false ∷ ys) l e f = ap (λ (zs : List Bool). false ∷ zs) (accepts_first-same xs ys (omega arith) e f)
accepts_first-same (true ∷ xs) (false ∷ ys) l e f = absurd (cc)
accepts_first-same (false ∷ xs) (true ∷ ys) l e f = absurd (cc)

pub accepts_first-trans : (xs ys zs : List Bool) → length xs ≡ length ys → length ys ≡ length zs
    → accepts_first xs ys ≡ false → accepts_first ys zs ≡ false → accepts_first xs zs ≡ false
accepts_first-trans [] ys zs l m e f = refl
accepts_first-trans (x ∷ xs) [] zs l m e f = absurd (omega arith)
accepts_first-trans (x ∷ xs) (y ∷ ys) [] l m e f = absurd (omega arith)
accepts_first-trans (true ∷ xs) (true ∷ ys) (true ∷ zs) l m e f = accepts_first-trans xs ys zs (omega arith) (omega arith) e f
accepts_first-trans (false ∷ xs) (false ∷ ys) (false ∷ zs) l m e f = accepts_first-trans xs ys zs (omega arith) (omega arith) e f
accepts_first-trans (true ∷ xs) (true ∷ ys) (false ∷ zs) l m e f = absurd (cc)
accepts_first-trans (true ∷ xs) (false ∷ ys) zs l m e f = absurd (cc)
accepts_first-trans (false ∷ xs) (ys) (true ∷ zs) l m e f = refl
accepts_first-trans (false ∷ xs) (true ∷ ys) (false ∷ zs) l m e f = absurd (cc)

pub ranks_self : (v : ℤ) (xs : List Bool) → RanksAtOrBelow v xs v xs
ranks_self v xs = record { by_welfare = omega (arith, ints); by_order = λ e. accepts_first-self xs }

-- with one welfare the lists decide
by_list : (v w : ℤ) (xs ys : List Bool) (b : Bool) → accepts_first xs ys ≡ b → w ≤ℤ v → v ≤ℤ w
    → RanksAbove v xs w ys ⊎ RanksAtOrBelow v xs w ys
by_list v w xs ys true e more less = inl (record { by_welfare = more; by_order = λ same. e })
by_list v w xs ys false e more less = inr (record { by_welfare = less; by_order = λ same. e })

-- of two, the first ranks above the second, or at or below it, and not both
pub ranks_either : (v w : ℤ) (xs ys : List Bool) → RanksAbove v xs w ys ⊎ RanksAtOrBelow v xs w ys
ranks_either v w xs ys = by_lt_z v w
    (λ less. inr (record {
      by_welfare = omega (arith, ints, less);
      by_order =
          λ e. absurd (let no : 0 < 0 = omega (arith, ints, less, e) in omega (arith, no));
    }))
    (λ not_less. by_lt_z w v
    (λ more. inl (record {
      by_welfare = omega (arith, ints, more);
      by_order =
          λ e. absurd (let no : 0 < 0 = omega (arith, ints, more, e) in omega (arith, no));
    }))
    (λ not_more. by_list v w xs ys (accepts_first xs ys) refl not_less not_more))

pub ranks_apart : (v w : ℤ) (xs ys : List Bool) → RanksAbove v xs w ys → RanksAtOrBelow v xs w ys → ⊥
ranks_apart v w xs ys above below =
    let a = above.by_welfare in let b = below.by_welfare in
    let same : v ≡ w = omega (arith, ints, a, b) in
    true_or_false (accepts_first xs ys) (above.by_order same) (below.by_order same)
  where
    true_or_false : (b : Bool) → b ≡ true → b ≡ false → ⊥
    true_or_false b e f = absurd (cc)

pub above_below : (v : ℤ) (xs : List Bool) (w : ℤ) (ys : List Bool) → RanksAbove v xs w ys → RanksAtOrBelow w ys v xs
above_below v xs w ys h = record { by_welfare = h.by_welfare; by_order = λ e. accepts_first-flipped xs ys (h.by_order (sym e)) }

pub ranks_trans : (v : ℤ) (xs : List Bool) (w : ℤ) (ys : List Bool) (u : ℤ) (zs : List Bool) → length xs ≡ length ys → length ys ≡ length zs
    → RanksAtOrBelow v xs w ys → RanksAtOrBelow w ys u zs → RanksAtOrBelow v xs u zs
ranks_trans v xs w ys u zs l m h g =
    let a = h.by_welfare in let b = g.by_welfare in
    record {
      by_welfare = omega (arith, ints, a, b);
      by_order = λ e.
          (let first : v ≡ w = omega (arith, ints, a, b, e) in
          let second : w ≡ u = omega (arith, ints, a, b, e) in
          accepts_first-trans xs ys zs l m (h.by_order first) (g.by_order second));
    }

pub same_rank : (v : ℤ) (xs : List Bool) (w : ℤ) (ys : List Bool) → length xs ≡ length ys → RanksAtOrBelow v xs w ys
    → RanksAtOrBelow w ys v xs → (xs ≡ ys) × (v ≡ w)
same_rank v xs w ys l h g =
    let a = h.by_welfare in let b = g.by_welfare in
    let same : v ≡ w = omega (arith, ints, a, b) in
    (accepts_first-same xs ys l (h.by_order same) (g.by_order (sym same)), same)

pub result_unique : (problem : ProblemState) (xs ys : List Bool) (v w : ℤ) → IsResult problem xs v → IsResult problem ys w
    → (xs ≡ ys) × (v ≡ w)
result_unique problem xs ys v w x y =
    same_rank v xs w ys (x.eligible.as_long ∙ sym y.eligible.as_long) (y.others xs v x.eligible) (x.others ys w y.eligible)
