-- The places at which classes begin, and sums over them.
use Rattle.dam_bound.proofs.Common.{◌≡◌, ◌≢◌, ℕ, zero, suc, ◌+◌, ◌*◌, ◌<◌, ◌≤◌, ◌==◌, cond, Bool, true, false, ℤ, ◌+ℤ◌, ◌*ℤ◌, ◌≤ℤ◌, Some, List, [], ◌∷◌, ◌++◌}
use Rattle.dam_bound.proofs.Common.{length, drop, take, ap, ap₂, ◌∙◌, sym, subst, refl, inl, inr, arith, slice_get, ints, cases_eq, nat_tests, up, down, Block}
use Rattle.dam_bound.proofs.Common.{IsWithin, over_periods, over_places}
use Rattle.std.proofs.Common.{pos}
use Rattle.dam_bound.specs.Classes.{first_of_class}
use Rattle.dam_bound.specs.Sums.{firsts_from}
use Rattle.dam_bound.proofs.Classing.{over_class, first_first, class_elsewhere, over_classes}
use Rattle.dam_bound.proofs.Levelling.{drop_at}
use Rattle.dam_bound.proofs.Worth.{sum_from}

-- ---- products
pub times_plus : (p a b : ℤ) → p *ℤ (a +ℤ b) ≡ p *ℤ a +ℤ p *ℤ b
times_plus p a b =
    let k : up a + up b + down (a +ℤ b) ≡ down a + down b + up (a +ℤ b) = omega (arith, ints) in
    let m = ap (λ (n : ℕ). up p * n) k in
    let n = ap (λ (n : ℕ). down p * n) k in
    omega (arith, ints, m, n)

pub turned : (p a : ℤ) → p *ℤ a ≡ a *ℤ p
turned p a = omega (arith, ints)

-- ---- sums over places
pub over_same : (f g : ℕ → ℤ) (places : List ℕ) → ((j c : ℕ) → slice_get places j ≡ Some c → f c ≡ g c)
    → over_places f places ≡ over_places g places
over_same f g [] each = refl
over_same f g (c ∷ places) each =
    ap₂ (λ (a b : ℤ). a +ℤ b) (each 0 c refl) (over_same f g places (λ j d at. each (suc j) d at))

pub over_most : (f g : ℕ → ℤ) (places : List ℕ) → ((j c : ℕ) → slice_get places j ≡ Some c → f c ≤ℤ g c)
    → over_places f places ≤ℤ over_places g places
over_most f g [] each = omega (arith, ints)
over_most f g (c ∷ places) each =
    let here = each 0 c refl in let rest = over_most f g places (λ j d at. each (suc j) d at) in omega (arith, ints, here, rest)

pub over_plus : (f g : ℕ → ℤ) (places : List ℕ) → over_places (λ c. f c +ℤ g c) places ≡ over_places f places +ℤ over_places g places
over_plus f g [] = refl
over_plus f g (c ∷ places) = let rest = over_plus f g places in omega (arith, ints, rest)

pub over_times : (f : ℕ → ℤ) (z : ℤ) (places : List ℕ) → over_places (λ c. z *ℤ f c) places ≡ z *ℤ over_places f places
over_times f z [] = omega (arith, ints)
over_times f z (c ∷ places) = ap (λ (x : ℤ). z *ℤ f c +ℤ x) (over_times f z places) ∙ sym (times_plus z (f c) (over_places f places))

pub over_within : (f : ℕ → ℤ) (places : List ℕ) (most : ℕ) → ((j c : ℕ) → slice_get places j ≡ Some c → IsWithin most (f c))
    → IsWithin (length places * most) (over_places f places)
over_within f [] most each = record { at_least = omega (arith, ints); at_most = omega (arith, ints) }
over_within f (c ∷ places) most each =
    let here = each 0 c refl in let rest = over_within f places most (λ j d at. each (suc j) d at) in
    let a = here.at_least in let b = here.at_most in let e = rest.at_least in let h = rest.at_most in
    record { at_least = omega (arith, ints, a, e); at_most = omega (arith, ints, b, h) }

-- the first of those left, and the others
pub over_from : (f : ℕ → ℤ) (places : List ℕ) (j c : ℕ) → slice_get places j ≡ Some c
    → over_places f (drop j places) ≡ f c +ℤ over_places f (drop (j + 1) places)
over_from f places j c at = ap (over_places f) (drop_at places j c at)

-- one more than those so far
pub over_next : (f : ℕ → ℤ) (places : List ℕ) (j c : ℕ) → slice_get places j ≡ Some c
    → over_places f (take (suc j) places) ≡ over_places f (take j places) +ℤ f c
over_next f [] j c at = absurd (cc)
over_next f (d ∷ places) zero c at = let same : d ≡ c = cc in let e = ap f same in omega (arith, ints, e)
over_next f (d ∷ places) (suc j) c at = let rest = over_next f places j c at in omega (arith, ints, rest)

pub few_taken : (places : List ℕ) (j : ℕ) → length (take j places) ≤ j
few_taken places zero = omega arith
few_taken [] (suc j) = omega arith
few_taken (p ∷ places) (suc j) = let rest = few_taken places j in omega (arith, rest)

-- a number to which no class adds yet, and to which one class more adds
pub no_class : (x : ℤ) → x ≡ x +ℤ pos 0
no_class x = omega (arith, ints)

pub one_more : (v a b s : ℤ) → s ≡ a +ℤ b → (v +ℤ a) +ℤ b ≡ v +ℤ s
one_more v a b s e = omega (arith, ints, e)

pub take_get : {X : Type 0} (xs : List X) (n j : ℕ) (x : X) → slice_get (take n xs) j ≡ Some x → (slice_get xs j ≡ Some x) × (j < n)
take_get [] zero j x at = absurd (cc)
take_get [] (suc n) j x at = absurd (cc)
take_get (y ∷ xs) zero j x at = absurd (cc)
take_get (y ∷ xs) (suc n) zero x at = (at, omega arith)
take_get (y ∷ xs) (suc n) (suc j) x at = let rest = take_get xs n j x at in let l = rest.1 in (rest.0, omega (arith, l))

-- ---- the places
at_first : (blocks : List Block) (c n : ℕ) → first_of_class blocks c ≡ c → firsts_from blocks c (suc n) ≡ c ∷ firsts_from blocks (suc c) n
at_first blocks c n e =
    let same : (first_of_class blocks c == c) ≡ true = grind (arith, nat_tests) in
    ap (λ (t : Bool). cond t (c ∷ firsts_from blocks (suc c) n) (firsts_from blocks (suc c) n)) same

at_other : (blocks : List Block) (c n : ℕ) → first_of_class blocks c ≢ c → firsts_from blocks c (suc n) ≡ firsts_from blocks (suc c) n
at_other blocks c n e =
    let apart : (first_of_class blocks c == c) ≡ false = grind (arith, nat_tests) in
    ap (λ (t : Bool). cond t (c ∷ firsts_from blocks (suc c) n) (firsts_from blocks (suc c) n)) apart

-- a class begins at each of them
pub record IsPlace (blocks : List Block) (c n k : ℕ) : Type 0 where
  pub first : first_of_class blocks k ≡ k
  pub from : c ≤ k
  pub below : k < c + n

place_here : (blocks : List Block) (c n k : ℕ) → first_of_class blocks c ≡ c
    → ((i : ℕ) → slice_get (firsts_from blocks (suc c) n) i ≡ Some k → IsPlace blocks (suc c) n k)
    → (j : ℕ) → slice_get (c ∷ firsts_from blocks (suc c) n) j ≡ Some k → IsPlace blocks c (suc n) k
place_here blocks c n k e others zero at =
    let same : c ≡ k = cc in
    record { first = subst (λ (m : ℕ). first_of_class blocks m ≡ m) same e; from = omega (arith, same); below = omega (arith, same) }
place_here blocks c n k e others (suc j) at =
    let rest = others j at in let from = rest.from in let below = rest.below in
    record { first = rest.first; from = omega (arith, from); below = omega (arith, below) }

pub is_place : (blocks : List Block) (c n j k : ℕ) → slice_get (firsts_from blocks c n) j ≡ Some k → IsPlace blocks c n k
is_place blocks c zero j k at = absurd (cc)
is_place blocks c (suc n) j k at = elim (cases_eq (first_of_class blocks c) c) [
  | inl e ↦
      place_here blocks c n k e (λ i found. is_place blocks (suc c) n i k found) j
      (ap (λ (ps : List ℕ). slice_get ps j) (sym (at_first blocks c n e)) ∙ at)
  | inr e ↦
      (let rest = is_place blocks (suc c) n j k (ap (λ (ps : List ℕ). slice_get ps j) (sym (at_other blocks c n e)) ∙ at) in
      let from = rest.from in let below = rest.below in
      record { first = rest.first; from = omega (arith, from); below = omega (arith, below) })
]

-- and each class begins at one of them
pub listed : (blocks : List Block) (c n k : ℕ) → first_of_class blocks k ≡ k → c ≤ k → k < c + n
    → (j : ℕ) × (slice_get (firsts_from blocks c n) j ≡ Some k)
listed blocks c zero k e l m = absurd (omega (arith, l, m))
listed blocks c (suc n) k e l m = elim (cases_eq c k) [
  | inl same ↦
      (let here = at_first blocks c n (subst (λ (m : ℕ). first_of_class blocks m ≡ m) (sym same) e) in
      (0, ap (λ (ps : List ℕ). slice_get ps 0) here ∙ ap (λ (m : ℕ). Some m) same))
  | inr apart ↦
      (let rest = listed blocks (suc c) n k e (omega (arith, l, apart)) (omega (arith, m)) in
      elim (cases_eq (first_of_class blocks c) c) [
        | inl own ↦ (suc rest.0, ap (λ (ps : List ℕ). slice_get ps (suc rest.0)) (at_first blocks c n own) ∙ rest.1)
        | inr other ↦ (rest.0, ap (λ (ps : List ℕ). slice_get ps rest.0) (at_other blocks c n other) ∙ rest.1)
      ])
]

pub few_places : (blocks : List Block) (c n : ℕ) → length (firsts_from blocks c n) ≤ n
few_places blocks c zero = omega arith
few_places blocks c (suc n) =
    let rest = few_places blocks (suc c) n in
    elim (first_of_class blocks c == c) as (λ (t : Bool). length (cond t (c ∷ firsts_from blocks (suc c) n) (firsts_from blocks (suc c) n)) ≤ suc n) [
      | true ↦ omega (arith, rest)
      | false ↦ omega (arith, rest)
    ]

-- they rise
rising_here : (blocks : List Block) (c n a b : ℕ)
    → ((i j : ℕ) → slice_get (firsts_from blocks (suc c) n) i ≡ Some a → slice_get (firsts_from blocks (suc c) n) j ≡ Some b → i < j → a < b)
    → (i j : ℕ) → slice_get (c ∷ firsts_from blocks (suc c) n) i ≡ Some a → slice_get (c ∷ firsts_from blocks (suc c) n) j ≡ Some b
    → i < j → a < b
rising_here blocks c n a b others i zero at there l = absurd (omega (arith, l))
rising_here blocks c n a b others zero (suc j) at there l =
    let same : c ≡ a = cc in let from = (is_place blocks (suc c) n j b there).from in omega (arith, same, from)
rising_here blocks c n a b others (suc i) (suc j) at there l = others i j at there (omega (arith, l))

pub rising : (blocks : List Block) (c n i j a b : ℕ) → slice_get (firsts_from blocks c n) i ≡ Some a → slice_get (firsts_from blocks c n) j ≡ Some b
    → i < j → a < b
rising blocks c zero i j a b at there l = absurd (cc)
rising blocks c (suc n) i j a b at there l = elim (cases_eq (first_of_class blocks c) c) [
  | inl e ↦
      rising_here blocks c n a b (λ k m f g less. rising blocks (suc c) n k m a b f g less) i j
      (ap (λ (ps : List ℕ). slice_get ps i) (sym (at_first blocks c n e)) ∙ at)
      (ap (λ (ps : List ℕ). slice_get ps j) (sym (at_first blocks c n e)) ∙ there) l
  | inr e ↦
      rising blocks (suc c) n i j a b (ap (λ (ps : List ℕ). slice_get ps i) (sym (at_other blocks c n e)) ∙ at)
      (ap (λ (ps : List ℕ). slice_get ps j) (sym (at_other blocks c n e)) ∙ there) l
]

-- one period more
pub place_more : (blocks : List Block) (c n : ℕ) → first_of_class blocks (c + n) ≡ c + n
    → firsts_from blocks c (suc n) ≡ firsts_from blocks c n ++ (c + n) ∷ []
place_more blocks c zero e =
    let same : c + 0 ≡ c = omega arith in
    at_first blocks c 0 (subst (λ (m : ℕ). first_of_class blocks m ≡ m) same e) ∙ ap (λ (m : ℕ). m ∷ []) (sym same)
place_more blocks c (suc n) e =
    let number : c + suc n ≡ suc c + n = omega arith in
    let rest = place_more blocks (suc c) n (subst (λ (m : ℕ). first_of_class blocks m ≡ m) number e)
    ∙ ap (λ (m : ℕ). firsts_from blocks (suc c) n ++ m ∷ []) (sym number) in
    elim (cases_eq (first_of_class blocks c) c) [
      | inl own ↦
          at_first blocks c (suc n) own ∙ ap (λ (ps : List ℕ). c ∷ ps) rest
          ∙ ap (λ (ps : List ℕ). ps ++ (c + suc n) ∷ []) (sym (at_first blocks c n own))
      | inr other ↦
          at_other blocks c (suc n) other ∙ rest ∙ ap (λ (ps : List ℕ). ps ++ (c + suc n) ∷ []) (sym (at_other blocks c n other))
    ]

pub place_none : (blocks : List Block) (c n : ℕ) → first_of_class blocks (c + n) ≢ c + n → firsts_from blocks c (suc n) ≡ firsts_from blocks c n
place_none blocks c zero e =
    let same : c + 0 ≡ c = omega arith in
    at_other blocks c 0 (subst (λ (m : ℕ). first_of_class blocks m ≢ m) same e)
place_none blocks c (suc n) e =
    let number : c + suc n ≡ suc c + n = omega arith in
    let rest = place_none blocks (suc c) n (subst (λ (m : ℕ). first_of_class blocks m ≢ m) number e) in
    elim (cases_eq (first_of_class blocks c) c) [
      | inl own ↦ at_first blocks c (suc n) own ∙ ap (λ (ps : List ℕ). c ∷ ps) rest ∙ sym (at_first blocks c n own)
      | inr other ↦ at_other blocks c (suc n) other ∙ rest ∙ sym (at_other blocks c n other)
    ]

-- ---- the sum over the classes is the sum over the periods
same_from : (f : ℕ → ℤ) (t n : ℕ) → over_periods f t n ≡ sum_from f t n
same_from f t zero = refl
same_from f t (suc n) = ap (λ (z : ℤ). f t +ℤ z) (same_from f (suc t) n)

-- no period is of a class that begins at a place at which none begins
none_of : (f : ℕ → ℤ) (blocks : List Block) (c i n : ℕ) → first_of_class blocks c ≢ c → over_class f blocks c i n ≡ pos 0
none_of f blocks c i zero e = refl
none_of f blocks c i (suc n) e =
    class_elsewhere f blocks c i n (λ same. e (ap (first_of_class blocks) (sym same) ∙ first_first blocks i ∙ same)) ∙ none_of f blocks c (suc i) n e

places_alone : (g : ℕ → ℤ) (blocks : List Block) (c n : ℕ) → ((k : ℕ) → first_of_class blocks k ≢ k → g k ≡ pos 0)
    → sum_from g c n ≡ over_places g (firsts_from blocks c n)
places_alone g blocks c zero none = refl
places_alone g blocks c (suc n) none =
    let rest = places_alone g blocks (suc c) n none in
    elim (cases_eq (first_of_class blocks c) c) [
      | inl e ↦ ap (λ (z : ℤ). g c +ℤ z) rest ∙ ap (over_places g) (sym (at_first blocks c n e))
      | inr e ↦
          (let nothing = none c e in let same = ap (over_places g) (at_other blocks c n e) in omega (arith, ints, rest, nothing, same))
    ]

pub by_class : (f : ℕ → ℤ) (blocks : List Block) (n : ℕ)
    → over_places (λ c. over_class f blocks c 0 n) (firsts_from blocks 0 n) ≡ over_periods f 1 n
by_class f blocks n =
    sym (places_alone (λ c. over_class f blocks c 0 n) blocks 0 n (λ k e. none_of f blocks k 0 n e))
    ∙ over_classes f blocks 0 n n (omega arith) ∙ sym (same_from f 1 n)

-- ---- sums over periods
pub periods_plus : (f g : ℕ → ℤ) (t n : ℕ) → over_periods (λ u. f u +ℤ g u) t n ≡ over_periods f t n +ℤ over_periods g t n
periods_plus f g t zero = refl
periods_plus f g t (suc n) = let rest = periods_plus f g (suc t) n in omega (arith, ints, rest)

pub periods_within : (f : ℕ → ℤ) (t n most : ℕ) → ((u : ℕ) → IsWithin most (f u)) → IsWithin (n * most) (over_periods f t n)
periods_within f t zero most each = record { at_least = omega (arith, ints); at_most = omega (arith, ints) }
periods_within f t (suc n) most each =
    let here = each t in let rest = periods_within f (suc t) n most each in
    let a = here.at_least in let b = here.at_most in let e = rest.at_least in let h = rest.at_most in
    record { at_least = omega (arith, ints, a, e); at_most = omega (arith, ints, b, h) }

-- a number times each of a class
pub class_times : (f : ℕ → ℤ) (z : ℤ) (blocks : List Block) (c i n : ℕ)
    → over_class (λ t. z *ℤ f t) blocks c i n ≡ z *ℤ over_class f blocks c i n
class_times f z blocks c i zero = omega (arith, ints)
class_times f z blocks c i (suc n) =
    let rest = class_times f z blocks c (suc i) n in
    elim (first_of_class blocks i == c) as (λ t. cond t (z *ℤ f (suc i)) (pos 0) +ℤ over_class (λ t. z *ℤ f t) blocks c (suc i) n
    ≡ z *ℤ (cond t (f (suc i)) (pos 0) +ℤ over_class f blocks c (suc i) n)) [
      | true ↦ ap (λ (x : ℤ). z *ℤ f (suc i) +ℤ x) rest ∙ sym (times_plus z (f (suc i)) (over_class f blocks c (suc i) n))
      | false ↦
          (let sum = times_plus z (pos 0) (over_class f blocks c (suc i) n) in
          let none : z *ℤ pos 0 ≡ pos 0 = omega (arith, ints) in omega (arith, ints, rest, sum, none))
    ]
