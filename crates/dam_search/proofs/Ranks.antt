-- The order of selections, and the selection found so far, which rises.
use Rattle.dam_search.proofs.Common.{◌≡◌, ℕ, ◌≤◌, ◌<◌, ◌⊎◌, inl, inr, ℤ, pos, Bool, true, false, not, Option, Some, None, List, [], ◌∷◌, ◌++◌, length}
use Rattle.dam_search.proofs.Common.{append_assoc, ◌∙◌, sym, subst, refl, arith, ints, most_blocks, Solution, ProblemState, RanksAtOrBelow, IsCompletion}
use Rattle.dam_search.proofs.Common.{IsFind, IsMatched, Rises, welfare_found, IsLong}
use Rattle.dam_blocks.specs.Result.{accepts_first, RanksAbove}
use Rattle.dam_search.specs.inside.PrefixWalk.{Finds, Covers}

turned : (xs ys : List Bool) → accepts_first xs ys ≡ true → accepts_first ys xs ≡ false
turned [] ys e = absurd (cc)
turned (true ∷ xs) [] e = absurd (cc)
turned (false ∷ xs) [] e = absurd (cc)
turned (true ∷ xs) (true ∷ ys) e = turned xs ys e
turned (false ∷ xs) (false ∷ ys) e = turned xs ys e
turned (true ∷ xs) (false ∷ ys) e = refl
turned (false ∷ xs) (true ∷ ys) e = absurd (cc)

-- a selection that another ranks above ranks below it
pub above_below : (v : ℤ) (xs : List Bool) (w : ℤ) (ys : List Bool) → RanksAbove v xs w ys → RanksAtOrBelow w ys v xs
above_below v xs w ys h = record { by_welfare = h.by_welfare; by_order = λ e. turned xs ys (h.by_order (sym e)) }

accepts_first-self : (xs : List Bool) → accepts_first xs xs ≡ false
accepts_first-self [] = refl
accepts_first-self (true ∷ xs) = accepts_first-self xs
accepts_first-self (false ∷ xs) = accepts_first-self xs

pub ranks_with_itself : (v : ℤ) (xs : List Bool) → RanksAtOrBelow v xs v xs
ranks_with_itself v xs = record { by_welfare = omega (arith, ints); by_order = λ e. accepts_first-self xs }

-- the law of dam_blocks on three selections
abbrev pub IsTransitive : Type 0
IsTransitive = (u v w : ℤ) (xs ys zs : List Bool) → length xs ≡ most_blocks → length ys ≡ most_blocks → length zs ≡ most_blocks
    → RanksAtOrBelow u xs v ys → RanksAtOrBelow v ys w zs → RanksAtOrBelow u xs w zs

-- ---- the selection that is found

pub stays : (best : Option Solution) → Rises best best
stays None = tt
stays (Some b) = ranks_with_itself (pos b.welfare) b.selection

pub welfare_rises : (a b : Option Solution) → Rises a b → welfare_found a ≤ welfare_found b
welfare_rises None b h = omega arith
welfare_rises (Some a) None h = absurd h
welfare_rises (Some a) (Some b) h = let by = h.by_welfare in omega (arith, ints, by)

pub long_find : (problem : ProblemState) (prefix : List Bool) (best : Option Solution) → IsFind problem prefix best → IsLong best
long_find problem prefix None h = tt
long_find problem prefix (Some b) h = h.0.as_long

pub matched_rises : (welfare : ℤ) (selection : List Bool) (a b : Option Solution) → IsTransitive → length selection ≡ most_blocks → IsLong a → IsLong b
    → IsMatched welfare selection a → Rises a b → IsMatched welfare selection b
matched_rises welfare selection None b transitive long la lb m h = absurd m
matched_rises welfare selection (Some a) None transitive long la lb m h = absurd h
matched_rises welfare selection (Some a) (Some b) transitive long la lb m h =
    transitive welfare (pos a.welfare) (pos b.welfare) selection a.selection b.selection long la lb m h

pub rises_twice : (a b c : Option Solution) → IsTransitive → IsLong a → IsLong b → IsLong c → Rises a b → Rises b c → Rises a c
rises_twice None b c transitive la lb lc h g = tt
rises_twice (Some a) b c transitive la lb lc h g = matched_rises (pos a.welfare) a.selection b c transitive la lb lc h g

-- the selection that is matched, with its welfare
pub matched_as : (welfare other : ℤ) (selection found : List Bool) (best : Option Solution) → selection ≡ found → welfare ≡ other → IsMatched other found best → IsMatched welfare selection best
matched_as welfare other selection found best e f m =
    subst (λ (xs : List Bool). IsMatched welfare xs best) (sym e) (subst (λ (z : ℤ). IsMatched z found best) (sym f) m)

-- ---- the selection found among fewer completions

pub shorter : (prefix extra selection : List Bool) → IsCompletion (prefix ++ extra) selection → IsCompletion prefix selection
shorter prefix extra selection h = record { as_long = h.as_long; rest = extra ++ h.rest; agrees = h.agrees ∙ append_assoc prefix extra h.rest }

pub any_find : (problem : ProblemState) (prefix : List Bool) (best : Option Solution) → IsFind problem prefix best → IsFind problem [] best
any_find problem prefix None h = tt
any_find problem prefix (Some b) h = (record { as_long = h.0.as_long; rest = b.selection; agrees = refl }, h.1)

shorter_find : (problem : ProblemState) (prefix extra : List Bool) (best : Option Solution) → IsFind problem (prefix ++ extra) best
    → IsFind problem prefix best
shorter_find problem prefix extra None h = tt
shorter_find problem prefix extra (Some b) h = (shorter prefix extra b.selection h.0, h.1)

pub found_after : (problem : ProblemState) (prefix : List Bool) (a b : Option Solution) → IsFind problem [] a → Finds problem prefix a b
    → IsFind problem [] b
found_after problem prefix a b find f =
    elim f.found [
      | inl e ↦ subst (λ (o : Option Solution). IsFind problem [] o) (sym e) find
      | inr g ↦ any_find problem prefix b g
    ]

pub finds_nothing : (problem : ProblemState) (prefix : List Bool) (best : Option Solution) → Finds problem prefix best best
finds_nothing problem prefix best = record { found = inl refl; rises = stays best }

pub finds_shorter : (problem : ProblemState) (prefix extra : List Bool) (a b : Option Solution) → Finds problem (prefix ++ extra) a b
    → Finds problem prefix a b
finds_shorter problem prefix extra a b f =
    record { found = elim f.found [ inl e ↦ inl e | inr g ↦ inr (shorter_find problem prefix extra b g) ]; rises = f.rises }

pub finds_twice : (problem : ProblemState) (prefix : List Bool) (a b c : Option Solution) → IsTransitive → IsFind problem [] a
    → Finds problem prefix a b → Finds problem prefix b c → Finds problem prefix a c
finds_twice problem prefix a b c transitive find f g =
    let find_b = found_after problem prefix a b find f in
    let find_c = found_after problem prefix b c find_b g in
    record {
      found = elim g.found [
        | inl e ↦ elim f.found [ inl d ↦ inl (e ∙ d) | inr h ↦ inr (subst (λ (o : Option Solution). IsFind problem prefix o) (sym e) h) ]
        | inr h ↦ inr h
      ];
      rises = rises_twice a b c transitive (long_find problem [] a find) (long_find problem [] b find_b)
          (long_find problem [] c find_c) f.rises g.rises;
    }

-- the law of dam_bound on the completions of a prefix
abbrev pub AreExtended : Type 0
AreExtended = (prefix selection : List Bool) → length prefix < most_blocks → IsCompletion prefix selection
    → IsCompletion (prefix ++ true ∷ []) selection ⊎ IsCompletion (prefix ++ false ∷ []) selection

-- covered selections stay so as the value read and the selection found rise
covers_rises : (problem : ProblemState) (prefix : List Bool) (a b : Option Solution) (read next : ℕ) → IsTransitive → IsFind problem [] a
    → IsFind problem [] b
    → Covers problem prefix a read → Rises a b → read ≤ next → Covers problem prefix b next
covers_rises problem prefix a b read next transitive find find' covers h more selection welfare whole e =
    elim (covers selection welfare whole e) [
      | inl less ↦ inl (omega (arith, ints, less, more))
      | inr m ↦ inr (matched_rises welfare selection a b transitive e.as_long (long_find problem [] a find) (long_find problem [] b find') m h)
    ]

-- of the two extensions, in either order
extended_by : (first : Bool) (prefix selection : List Bool) → AreExtended → length prefix < most_blocks → IsCompletion prefix selection
    → IsCompletion (prefix ++ first ∷ []) selection ⊎ IsCompletion (prefix ++ not first ∷ []) selection
extended_by true prefix selection extended few whole = extended prefix selection few whole
extended_by false prefix selection extended few whole =
    elim (extended prefix selection few whole) [ inl accepted ↦ inr accepted | inr rejected ↦ inl rejected ]

pub covers_both : (problem : ProblemState) (prefix : List Bool) (first : Bool) (a b c : Option Solution) (read next : ℕ) → IsTransitive
    → AreExtended → length prefix < most_blocks → IsFind problem [] a
    → Finds problem (prefix ++ first ∷ []) a b → Covers problem (prefix ++ first ∷ []) b read
    → Finds problem (prefix ++ not first ∷ []) b c → Covers problem (prefix ++ not first ∷ []) c next → read ≤ next
    → Covers problem prefix c next
covers_both problem prefix first a b c read next transitive extended few find f covers g covers' more selection welfare whole e =
    let find_b = found_after problem (prefix ++ first ∷ []) a b find f in
    let find_c = found_after problem (prefix ++ not first ∷ []) b c find_b g in
    elim (extended_by first prefix selection extended few whole) [
      | inl one ↦ covers_rises problem (prefix ++ first ∷ []) b c read next transitive find_b find_c covers g.rises more selection welfare one e
      | inr other ↦ covers' selection welfare other e
    ]
