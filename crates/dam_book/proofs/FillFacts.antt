-- A gap that is given to a filler, so that its key is free.
use Rattle.dam_book.proofs.Common.{AreNumbered, Bool, IsDistinct, IsNumbered, Key, Label, List, MapPlace, None, Option, Order, Row, Some, [], ap, ap₂}
use Rattle.dam_book.proofs.Common.{arith, cond, false, gap_count, keys_of, length, lookup, lookup_key, lookup_key_passes, nat_eq, nat_tests}
use Rattle.dam_book.proofs.Common.{one_if_gap, refl, rows_of, same_key, same_label, slice_get, subst, suc, sym, take, with_place, zero, ℕ, ◌&&◌, ◌++◌}
use Rattle.dam_book.proofs.Common.{◌+◌, ◌-◌, ◌<◌, ◌∙◌, ◌∷◌, ◌≡◌, ◌≢◌}
use Rattle.std.proofs.Common.{IfSome}
use Rattle.std.proofs.Common.{slice_set, slice_index_or, swap_remove}
use Rattle.dam_book.proofs.Keys.{equal_or_not}
use Rattle.dam_book.proofs.GapFacts.{AlikeAt, Alike, alike, and_false, flat, lookup-rows_of, same_label-equal, some_is}
use Rattle.dam_book.proofs.RowFacts.{none_head}

-- No place has the label of a filler of another place.

other_number : (n m a : ℕ) (o : Option Order) → IsNumbered n m o → 0 < a → a ≢ n → nat_eq a m ≡ false
other_number n m a None h some apart = equal_or_not (nat_eq a m) (λ same. let e : a ≡ m = grind (arith, nat_tests, same) in
    absurd (apart (e ∙ h (omega (arith, e, some)))))
other_number n m a (Some o) h some apart = equal_or_not (nat_eq a m) (λ same. let e : a ≡ m = grind (arith, nat_tests, same) in
    absurd (omega (arith, e, h, some)))

other_label : (k : Key) (l : Label) (a : ℕ) → nat_eq a l.1 ≡ false → same_label (k, a) l ≡ false
other_label k l a e = ap (λ (b : Bool). same_key k l.0 && b) e ∙ and_false (same_key k l.0)

past_absent : (k : Key) (a n : ℕ) (ps : List MapPlace) → AreNumbered n ps → 0 < a → a < n → lookup (same_label (k, a)) ps ≡ None
past_absent k a n [] h some less = refl
past_absent k a n (p ∷ ps) h some less =
    let head = other_label k p.0 a (other_number n p.0.1 a p.1 h.0 some (λ e. omega (arith, e, less))) in
    rw head (past_absent k a (suc n) ps h.1 some (omega (arith, less)))

pub filler_absent : (k : Key) (a n i : ℕ) (ps : List MapPlace) (l : Label) (x : Option Order) → AreNumbered n ps → slice_get ps i ≡ Some (l, x)
    → l.1 ≡ 0 → 0 < n → a ≡ n + i → lookup (same_label (k, a)) ps ≡ None
filler_absent k a n i [] l x h e row some is = refl
filler_absent k a n zero (p ∷ ps) l x h e row some is =
    let same : p ≡ (l, x) = some_is p (l, x) e in
    let number : p.0.1 ≡ 0 = ap (λ (q : MapPlace). q.0.1) same ∙ row in
    let differs : nat_eq a p.0.1 ≡ false = equal_or_not (nat_eq a p.0.1) (λ f. let g : a ≡ p.0.1 = grind (arith, nat_tests, f) in
    absurd (omega (arith, g, number, some, is))) in
    let head = other_label k p.0 a differs in
    rw head (past_absent k a (suc n) ps h.1 (omega (arith, some, is)) (omega (arith, is)))
filler_absent k a n (suc i) (p ∷ ps) l x h e row some is =
    let head = other_label k p.0 a (other_number n p.0.1 a p.1 h.0 (omega (arith, some, is)) (λ f. omega (arith, f, is))) in
    rw head (filler_absent k a (suc n) i ps l x h.1 e row (omega arith) (omega (arith, is)))

-- The places once the last one has taken the place of another.

cut : (ps : List MapPlace) (x : MapPlace) → take (length ps) (ps ++ x ∷ []) ≡ ps
cut [] x = refl
cut (p ∷ ps) x = ap (λ (qs : List MapPlace). p ∷ qs) (cut ps x)

cut-set : (ps : List MapPlace) (x : MapPlace) (i : ℕ) (q : MapPlace) → slice_get ps i ≡ Some q
    → take (length ps) (slice_set (ps ++ x ∷ []) i x) ≡ slice_set ps i x
cut-set [] x i q e = absurd (cc)
cut-set (p ∷ ps) x zero q e = ap (λ (qs : List MapPlace). x ∷ qs) (cut ps x)
cut-set (p ∷ ps) x (suc i) q e = ap (λ (qs : List MapPlace). p ∷ qs) (cut-set ps x i q e)

last_is : (ps : List MapPlace) (x d : MapPlace) → slice_index_or (ps ++ x ∷ []) (length ps) d ≡ x
last_is [] x d = refl
last_is (p ∷ ps) x d = last_is ps x d

one_more : (ps : List MapPlace) (x : MapPlace) → length (ps ++ x ∷ []) ≡ suc (length ps)
one_more [] x = refl
one_more (p ∷ ps) x = ap (λ (n : ℕ). suc n) (one_more ps x)

pub swap_remove-push : (ps : List MapPlace) (x d : MapPlace) (i : ℕ) (q : MapPlace) → slice_get ps i ≡ Some q
    → swap_remove (ps ++ x ∷ []) i d ≡ slice_set ps i x
swap_remove-push ps x d i q e =
    let last : length (ps ++ x ∷ []) - 1 ≡ length ps = omega (arith, one_more ps x) in
    ap₂ (λ (n m : ℕ). take n (slice_set (ps ++ x ∷ []) i (slice_index_or (ps ++ x ∷ []) m d))) last last
    ∙ ap (λ (y : MapPlace). take (length ps) (slice_set (ps ++ x ∷ []) i y)) (last_is ps x d)
    ∙ cut-set ps x i q e

pub slice_get-push : (ps : List MapPlace) (x : MapPlace) (i : ℕ) (q : MapPlace) → slice_get ps i ≡ Some q → slice_get (ps ++ x ∷ []) i ≡ Some q
slice_get-push [] x i q e = absurd (cc)
slice_get-push (p ∷ ps) x zero q e = e
slice_get-push (p ∷ ps) x (suc i) q e = slice_get-push ps x i q e

-- the list of places, if the gap at place i has another label
pub record Filled (n : ℕ) (ps qs : List MapPlace) : Type 0 where
  pub rows : rows_of qs ≡ rows_of ps
  pub count : gap_count qs ≡ gap_count ps
  pub numbered : AreNumbered n qs

filled-head : (p : MapPlace) (l m : Label) (ps : List MapPlace) → p ≡ (l, None)
    → (rows_of ((m, None) ∷ ps) ≡ rows_of (p ∷ ps)) × (gap_count ((m, None) ∷ ps) ≡ gap_count (p ∷ ps))
filled-head p l m ps e = (
  ap (λ (q : MapPlace). rows_of (q ∷ ps)) (sym e),
  ap (λ (q : MapPlace). gap_count (q ∷ ps)) (sym e),
)

pub filled : (n i a : ℕ) (ps : List MapPlace) (l : Label) (k : Key) → AreNumbered n ps → slice_get ps i ≡ Some (l, None) → a ≡ n + i
    → Filled n ps (slice_set ps i ((k, a), None))
filled n i a [] l k h e is = absurd (cc)
filled n zero a (p ∷ ps) l k h e is =
    let same = filled-head p l (k, a) ps (some_is p (l, None) e) in
    record { rows = same.0; count = same.1; numbered = (λ some. omega (arith, is), h.1) }
filled n (suc i) a (p ∷ ps) l k h e is =
    let rest = filled (suc n) i a ps l k h.1 e (omega (arith, is)) in
    record {
      rows = ap (λ (rs : List Row). with_place p.0.0 p.1 rs) rest.rows;
      count = ap (λ (c : ℕ). one_if_gap p.1 + c) rest.count;
      numbered = (h.0, rest.numbered);
    }

pub if_some : (P : MapPlace → Type 0) (r : Option MapPlace) (p : MapPlace) → r ≡ Some p → IfSome r P → P p
if_some P r p e h = subst (λ (o : Option MapPlace). IfSome o P) e h

-- the order taken out of place i, once a filler was put last
pub at_gap : (ps qs : List MapPlace) (i : ℕ) (k f : Label) (r : Option MapPlace) → slice_get ps i ≡ Some (k, None) → qs ≡ ps ++ (f, None) ∷ []
    → r ≡ slice_get qs i → r ≡ Some (k, None)
at_gap ps qs i k f r gap last taken = taken ∙ ap (λ (xs : List MapPlace). slice_get xs i) last ∙ slice_get-push ps (f, None) i (k, None) gap

-- and the places that are left
pub refilled : (ps qs es : List MapPlace) (i : ℕ) (k f : Label) (r : Option MapPlace) → AreNumbered 1 ps → slice_get ps i ≡ Some (k, None)
    → f.1 ≡ i + 1 → qs ≡ ps ++ (f, None) ∷ [] → r ≡ slice_get qs i
    → IfSome r (λ p. es ≡ swap_remove qs i p) → Filled 1 ps es
refilled ps qs es i k f r h gap number last taken left =
    let out = if_some (λ p. es ≡ swap_remove qs i p) r (k, None) (at_gap ps qs i k f r gap last taken) left in
    let is : es ≡ slice_set ps i (f, None) = out ∙ ap (λ (xs : List MapPlace). swap_remove xs i (k, None)) last
    ∙ swap_remove-push ps (f, None) (k, None) i (k, None) gap in
    subst (λ (xs : List MapPlace). Filled 1 ps xs) (sym is) (filled 1 i f.1 ps k f.0 h gap (omega (arith, number)))

-- A key that no row has may have a gap.

pub gap_found : (k : Label) (ps : List MapPlace) (i : ℕ) (l : Label) (x : Option Order) → k.1 ≡ 0 → AreNumbered 1 ps
    → IsDistinct same_label (keys_of ps) → lookup (same_key k.0) (rows_of ps) ≡ None
    → Some l ≡ lookup_key (same_label k) ps → Some x ≡ lookup (same_label k) ps → slice_get ps i ≡ Some (l, x)
    → slice_get ps i ≡ Some (k, None)
gap_found k ps i l x row h apart free key value at =
    let label : k ≡ l = same_label-equal k l (lookup_key_passes (same_label k) ps l (sym key)) in
    let gap : x ≡ None = ap flat value ∙ sym (lookup-rows_of k 1 ps row h apart) ∙ free in
    at ∙ ap₂ (λ (m : Label) (o : Option Order). let q : MapPlace = (m, o) in Some q) (sym label) gap

-- without a gap every place has a row, so a key that no row has is at no place
free-head : (t : Label → Bool) (r : Key → Bool) (l : Label) (x : Option Order) (ps : List MapPlace) → one_if_gap x + gap_count ps ≡ 0
    → AlikeAt t r l x → lookup r (with_place l.0 x (rows_of ps)) ≡ None
    → (gap_count ps ≡ 0 → lookup r (rows_of ps) ≡ None → lookup t ps ≡ None) → cond (t l) (Some x) (lookup t ps) ≡ None
free-head t r l None ps none a e rest = absurd (omega (arith, none))
free-head t r l (Some o) ps none a e rest =
    let parts = none_head (r l.0) o (lookup r (rows_of ps)) e in
    let head : t l ≡ false = a ∙ parts.0 in
    rw head (rest (omega (arith, none)) parts.1)

free_of_gaps : (t : Label → Bool) (r : Key → Bool) (ps : List MapPlace) → Alike t r ps → gap_count ps ≡ 0 → lookup r (rows_of ps) ≡ None
    → lookup t ps ≡ None
free_of_gaps t r [] a none e = refl
free_of_gaps t r (p ∷ ps) a none e = free-head t r p.0 p.1 ps none a.0 e (free_of_gaps t r ps a.1)

pub label_free : (k : Label) (ps : List MapPlace) → k.1 ≡ 0 → AreNumbered 1 ps → gap_count ps ≡ 0 → lookup (same_key k.0) (rows_of ps) ≡ None
    → lookup (same_label k) ps ≡ None
label_free k ps row h none e = free_of_gaps (same_label k) (same_key k.0) ps (alike k 1 ps row h) none e
