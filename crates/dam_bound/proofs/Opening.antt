-- The selections that are open, by a decision on one place more.
use Rattle.dam_bound.proofs.Common.{◌≡◌, ◌≢◌, ℕ, zero, suc, ◌<◌, inl, inr, ℤ, ◌+ℤ◌, ◌≤ℤ◌, Bool, true, false, ◌==◌, List, [], ◌∷◌, length, slice_set}
use Rattle.dam_bound.proofs.Common.{slice_index_or, ◌∙◌, ap, sym, subst, refl, arith, ints, cases_eq, length-set, get_or-set_same, get_or-set_other}
use Rattle.dam_bound.proofs.Common.{most_blocks, accepts, over_gains, over_open}
use Rattle.std.proofs.Common.{pos}
use Rattle.std.proofs.lemmas.Int.{clamps}
use Rattle.std.proofs.lemmas.Bool.{eqb-false, ne_eqb, or_from, or_parts}
use Rattle.dam_bound.specs.Open.{is_among, IsOpen, AreFree}

-- a place apart from the first one is not among the places
not_among : (place other : ℕ) (left : List ℕ) → place ≢ other → is_among place left ≡ false → is_among place (other ∷ left) ≡ false
not_among place other left ne e = or_from (place == other) (is_among place left) (ne_eqb place other ne) e

among_rest : (place other : ℕ) (left : List ℕ) → is_among place (other ∷ left) ≡ false → (place ≢ other) × (is_among place left ≡ false)
among_rest place other left e =
    let both = or_parts (place == other) (is_among place left) e in
    (eqb-false place other both.0, both.1)

-- ---- what a selection accepts with one place more

accepts_here : (accepted : List Bool) (place : ℕ) → place < length accepted → accepts (slice_set accepted place true) place ≡ true
accepts_here accepted place inside = get_or-set_same accepted place true false inside

accepts_there : (accepted : List Bool) (place other : ℕ) → other ≢ place → accepts (slice_set accepted place true) other ≡ accepts accepted other
accepts_there accepted place other ne = get_or-set_other accepted place other true false ne

-- the places that are left are free after a decision on another
still_free : (accepted : List Bool) (place : ℕ) (left : List ℕ) → is_among place left ≡ false → AreFree accepted left
    → AreFree (slice_set accepted place true) left
still_free accepted place [] e free = tt
still_free accepted place (other ∷ left) e free =
    let apart = among_rest place other left e in
    (free.0, accepts_there accepted place other (λ f. apart.0 (sym f)) ∙ free.1, free.2, still_free accepted place left apart.1 free.3)

-- ---- an open selection that accepts the first place, and one that rejects it

open_accepted : (accepted : List Bool) (place : ℕ) (left : List ℕ) (selection : List Bool) → length accepted ≡ most_blocks → place < most_blocks
    → IsOpen accepted (place ∷ left) selection → accepts selection place ≡ true → IsOpen (slice_set accepted place true) left selection
open_accepted accepted place left selection long few is e = record {
  as_long = is.as_long;
  agrees = λ other apart. elim (cases_eq other place) [
    | inl same ↦ subst (λ (k : ℕ). accepts selection k ≡ accepts (slice_set accepted place true) k) (sym same)
        (e ∙ sym (accepts_here accepted place (subst (λ (n : ℕ). place < n) (sym long) few)))
    | inr ne ↦ is.agrees other (not_among other place left ne apart) ∙ sym (accepts_there accepted place other ne)
  ];
}

open_rejected : (accepted : List Bool) (place : ℕ) (left : List ℕ) (selection : List Bool) → accepts accepted place ≡ false
    → IsOpen accepted (place ∷ left) selection → accepts selection place ≡ false → IsOpen accepted left selection
open_rejected accepted place left selection free is e = record {
  as_long = is.as_long;
  agrees = λ other apart. elim (cases_eq other place) [
    | inl same ↦ subst (λ (k : ℕ). accepts selection k ≡ accepts accepted k) (sym same) (e ∙ sym free)
    | inr ne ↦ is.agrees other (not_among other place left ne apart)
  ];
}

-- ---- the gains that a selection adds up

-- of selections that accept the same
same_gains : (gains : List ℤ) (xs ys : List Bool) → length xs ≡ length ys → ((place : ℕ) → accepts xs place ≡ accepts ys place)
    → over_gains gains xs ≡ over_gains gains ys
same_gains [] xs ys long same = refl
same_gains (g ∷ gains) [] [] long same = refl
same_gains (g ∷ gains) [] (y ∷ ys) long same = absurd (omega (arith, long))
same_gains (g ∷ gains) (x ∷ xs) [] long same = absurd (omega (arith, long))
same_gains (g ∷ gains) (true ∷ xs) (true ∷ ys) long same =
    ap (λ (z : ℤ). g +ℤ z) (same_gains gains xs ys (omega (arith, long)) (λ place. same (suc place)))
same_gains (g ∷ gains) (false ∷ xs) (false ∷ ys) long same = same_gains gains xs ys (omega (arith, long)) (λ place. same (suc place))
same_gains (g ∷ gains) (true ∷ xs) (false ∷ ys) long same = (let e : true ≡ false = same 0 in absurd (cc))
same_gains (g ∷ gains) (false ∷ xs) (true ∷ ys) long same = (let e : false ≡ true = same 0 in absurd (cc))

-- with one place more
pub more_gains : (gains : List ℤ) (accepted : List Bool) (place : ℕ) → place < length gains → place < length accepted
    → accepts accepted place ≡ false
    → over_gains gains (slice_set accepted place true) ≡ over_gains gains accepted +ℤ slice_index_or gains place (pos 0)
more_gains [] accepted place inside inside' free = absurd (omega (arith, inside))
more_gains (g ∷ gains) [] place inside inside' free = absurd (omega (arith, inside'))
more_gains (g ∷ gains) (true ∷ accepted) zero inside inside' free = absurd (cc)
more_gains (g ∷ gains) (false ∷ accepted) zero inside inside' free = omega (arith, ints)
more_gains (g ∷ gains) (true ∷ accepted) (suc place) inside inside' free =
    let rest = more_gains gains accepted place (omega (arith, inside)) (omega (arith, inside')) free in omega (arith, ints, rest)
more_gains (g ∷ gains) (false ∷ accepted) (suc place) inside inside' free =
    more_gains gains accepted place (omega (arith, inside)) (omega (arith, inside')) free

-- an open selection adds up no more than the accepted places, and the gains above 0 of the places that are left
pub open_gains : (gains : List ℤ) (left : List ℕ) (accepted selection : List Bool) → length gains ≡ most_blocks → length accepted ≡ most_blocks
    → AreFree accepted left → IsOpen accepted left selection
    → over_gains gains selection ≤ℤ (over_gains gains accepted +ℤ over_open gains left)
open_gains gains [] accepted selection many long free is =
    let same = same_gains gains selection accepted (is.as_long ∙ sym long) (λ place. is.agrees place refl) in
    omega (arith, ints, same)
open_gains gains (place ∷ left) accepted selection many long free is =
    elim (accepts selection place) as (λ b. accepts selection place ≡ b → over_gains gains selection ≤ℤ (over_gains gains accepted +ℤ over_open gains (place ∷ left))) [
      | true ↦ λ e.
          (let rest = open_gains gains left (slice_set accepted place true) selection many (length-set accepted place true ∙ long)
          (still_free accepted place left free.2 free.3) (open_accepted accepted place left selection long free.0 is e) in
          let more = more_gains gains accepted place (subst (λ (n : ℕ). place < n) (sym many) free.0) (subst (λ (n : ℕ). place < n) (sym long) free.0) free.1 in
          omega (arith, ints, clamps, rest, more))
      | false ↦ λ e.
          (let rest = open_gains gains left accepted selection many long free.3 (open_rejected accepted place left selection free.1 is e) in
          omega (arith, ints, clamps, rest))
    ] refl
