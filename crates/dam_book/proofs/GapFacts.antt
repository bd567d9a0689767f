-- The rows of a list of places, as orders come, change and go.
use Rattle.dam_book.proofs.Common.{AreNumbered, Bool, IsNumbered, Key, Label, List, MapPlace, None, Option, Order, Row, Some, [], ap, ap₂, arith}
use Rattle.dam_book.proofs.Common.{changed, cond, false, gap_count, if◌then◌else◌, is_parent, is_some, keys_of, length, list_any, lookup, lookup-none}
use Rattle.dam_book.proofs.Common.{names_parent, nat_eq, nat_tests, none_past_head, one_if_gap, parent_of, pointwise, refl, remove_entry, rows_of}
use Rattle.dam_book.proofs.Common.{same_key, same_label, same_text, set_value, slice_get, subst, suc, sym, true, with_place, zero, ℕ, ◌&&◌, ◌++◌, ◌+◌}
use Rattle.dam_book.proofs.Common.{◌||◌, ◌∙◌, ◌∷◌, ◌≡◌}
use Rattle.std.proofs.Common.{filter}
use Rattle.std.specs.Prelude.{⊤}
use Rattle.std.specs.Cmp.{IsEquivalence, nat_eq_equiv}
use Rattle.std.specs.Cmp.Lexicographic.{nat_list_eq_equiv}
use Rattle.std.specs.List.{IsDistinct}
use Rattle.dam_book.specs.inside.Gaps.{child_at}
use Rattle.dam_book.specs.inside.Gaps.{is_child_place}
use Rattle.dam_book.proofs.ChangeFacts.{set_value-changed}
use Rattle.dam_book.proofs.Keys.{both_true, same_key-equal}
use Rattle.dam_book.proofs.RowFacts.{none_head}

same_key_equiv : IsEquivalence same_key
same_key_equiv = record {
  refl = λ k. ap₂ (λ (a b : Bool). a && b) (nat_list_eq_equiv.refl k.0) (nat_list_eq_equiv.refl k.1);
  symm = λ k l. ap₂ (λ (a b : Bool). a && b) (nat_list_eq_equiv.symm k.0 l.0) (nat_list_eq_equiv.symm k.1 l.1);
  congr = λ k l m e.
      let both = both_true (pointwise nat_eq k.0 l.0) (pointwise nat_eq k.1 l.1) e in
      ap₂ (λ (a b : Bool). a && b) (nat_list_eq_equiv.congr k.0 l.0 m.0 both.0) (nat_list_eq_equiv.congr k.1 l.1 m.1 both.1);
}

pub same_label_equiv : IsEquivalence same_label
same_label_equiv = record {
  refl = λ l. ap₂ (λ (a b : Bool). a && b) (same_key_equiv.refl l.0) (nat_eq_equiv.refl l.1);
  symm = λ l m. ap₂ (λ (a b : Bool). a && b) (same_key_equiv.symm l.0 m.0) (nat_eq_equiv.symm l.1 m.1);
  congr = λ l m n e.
      let both = both_true (same_key l.0 m.0) (nat_eq l.1 m.1) e in
      ap₂ (λ (a b : Bool). a && b) (same_key_equiv.congr l.0 m.0 n.0 both.0) (nat_eq_equiv.congr l.1 m.1 n.1 both.1);
}

pub same_label-equal : (l m : Label) → same_label l m ≡ true → l ≡ m
same_label-equal l m e =
    let both = both_true (same_key l.0 m.0) (nat_eq l.1 m.1) e in
    let number : l.1 ≡ m.1 = grind (arith, nat_tests, both.1) in
    ap₂ (λ (k : Key) (n : ℕ). let q : Label = (k, n) in q) (same_key-equal l.0 m.0 both.0) number

pub distinct_tail : (p : MapPlace) (ps : List MapPlace) → IsDistinct same_label (keys_of (p ∷ ps)) → IsDistinct same_label (keys_of ps)
unfolding IsDistinct
distinct_tail p ps d = d.1

and_true : (b : Bool) → (b && true) ≡ b
and_true true = refl
and_true false = refl

pub and_false : (b : Bool) → (b && false) ≡ false
and_false true = refl
and_false false = refl

-- the order that a place holds, if there is one
abbrev pub flat : Option (Option Order) → Option Order
flat None = None
flat (Some o) = o

-- A test of labels and a test of keys, alike at each row.

abbrev pub AlikeAt : (Label → Bool) → (Key → Bool) → Label → Option Order → Type 0
AlikeAt t r l None = ⊤
AlikeAt t r l (Some o) = t l ≡ r l.0

abbrev pub Alike : (Label → Bool) → (Key → Bool) → List MapPlace → Type 0
Alike t r [] = ⊤
Alike t r (p ∷ ps) = AlikeAt t r p.0 p.1 × Alike t r ps

alike_at : (k : Label) (n : ℕ) (l : Label) (o : Option Order) → k.1 ≡ 0 → IsNumbered n l.1 o → AlikeAt (same_label k) (same_key k.0) l o
alike_at k n l None row h = tt
alike_at k n l (Some o) row h = ap₂ (λ (i m : ℕ). same_key k.0 l.0 && nat_eq i m) row h ∙ and_true (same_key k.0 l.0)

pub alike : (k : Label) (n : ℕ) (ps : List MapPlace) → k.1 ≡ 0 → AreNumbered n ps → Alike (same_label k) (same_key k.0) ps
alike k n [] row h = tt
alike k n (p ∷ ps) row h = (alike_at k n p.0 p.1 row h.0, alike k (suc n) ps row h.1)

-- A row is found as its place is.

with-none : (t : Label → Bool) (r : Key → Bool) (l : Label) (o : Option Order) (rows : List Row) → AlikeAt t r l o → t l ≡ false
    → lookup r rows ≡ None → lookup r (with_place l.0 o rows) ≡ None
with-none t r l None rows a e f = f
with-none t r l (Some o) rows a e f = let g : r l.0 ≡ false = sym a ∙ e in rw g f

rows_of-none : (t : Label → Bool) (r : Key → Bool) (ps : List MapPlace) → Alike t r ps → lookup t ps ≡ None → lookup r (rows_of ps) ≡ None
rows_of-none t r [] a e = refl
rows_of-none t r (p ∷ ps) a e =
    let parts = none_head (t p.0) p.1 (lookup t ps) e in
    with-none t r p.0 p.1 (rows_of ps) a.0 parts.0 (rows_of-none t r ps a.1 parts.1)

lookup-head : (t : Label → Bool) (r : Key → Bool) (l : Label) (o : Option Order) (ps : List MapPlace) (b : Bool) → t l ≡ b → AlikeAt t r l o
    → Alike t r ps → (b ≡ true → lookup t ps ≡ None)
    → lookup r (rows_of ps) ≡ flat (lookup t ps) → lookup r (with_place l.0 o (rows_of ps)) ≡ flat (cond b (Some o) (lookup t ps))
lookup-head t r l None ps true e a like none same = rows_of-none t r ps like (none refl)
lookup-head t r l None ps false e a like none same = same
lookup-head t r l (Some o) ps true e a like none same = let g : r l.0 ≡ true = sym a ∙ e in rw g refl
lookup-head t r l (Some o) ps false e a like none same = let g : r l.0 ≡ false = sym a ∙ e in rw g same

pub lookup-rows_of : (k : Label) (n : ℕ) (ps : List MapPlace) → k.1 ≡ 0 → AreNumbered n ps → IsDistinct same_label (keys_of ps)
    → lookup (same_key k.0) (rows_of ps) ≡ flat (lookup (same_label k) ps)
lookup-rows_of k n [] row h d = refl
lookup-rows_of k n (p ∷ ps) row h d =
    lookup-head (same_label k) (same_key k.0) p.0 p.1 ps (same_label k p.0) refl (alike_at k n p.0 p.1 row h.0) (alike k (suc n) ps row h.1)
    (λ hit. lookup-none (same_label k) ps (none_past_head same_label_equiv k p ps d hit))
    (lookup-rows_of k (suc n) ps row h.1 (distinct_tail p ps d))

-- An order taken out, its place left as a gap.

taken-head : (t : Label → Bool) (r : Key → Bool) (l : Label) (x : Option Order) (ps : List MapPlace) (o : Order) (b : Bool) → t l ≡ b
    → AlikeAt t r l x → cond b (Some x) (lookup t ps) ≡ Some (Some o)
    → (lookup t ps ≡ Some (Some o) → (rows_of (set_value t ps None) ≡ remove_entry r (rows_of ps))
    × (gap_count (set_value t ps None) ≡ gap_count ps + 1))
    → (rows_of (cond b ((l, None) ∷ ps) ((l, x) ∷ set_value t ps None)) ≡ remove_entry r (with_place l.0 x (rows_of ps)))
    × (gap_count (cond b ((l, None) ∷ ps) ((l, x) ∷ set_value t ps None)) ≡ one_if_gap x + gap_count ps + 1)
taken-head t r l None ps o true e a g rest = absurd (cc)
taken-head t r l (Some x) ps o true e a g rest = let f : r l.0 ≡ true = sym a ∙ e in (rw f refl, omega arith)
taken-head t r l None ps o false e a g rest = ((rest g).0, omega (arith, (rest g).1))
taken-head t r l (Some x) ps o false e a g rest =
    let f : r l.0 ≡ false = sym a ∙ e in
    (rw f (ap (λ (rs : List Row). (l.0, x) ∷ rs) (rest g).0), omega (arith, (rest g).1))

rows_of-taken : (t : Label → Bool) (r : Key → Bool) (ps : List MapPlace) (o : Order) → Alike t r ps → lookup t ps ≡ Some (Some o)
    → (rows_of (set_value t ps None) ≡ remove_entry r (rows_of ps)) × (gap_count (set_value t ps None) ≡ gap_count ps + 1)
rows_of-taken t r [] o a e = absurd (cc)
rows_of-taken t r (p ∷ ps) o a e = taken-head t r p.0 p.1 ps o (t p.0) refl a.0 e (rows_of-taken t r ps o a.1)

-- An order changed at its place.

put-head : (t : Label → Bool) (r : Key → Bool) (l : Label) (x : Option Order) (ps : List MapPlace) (o n : Order) (b : Bool) → t l ≡ b
    → AlikeAt t r l x → cond b (Some x) (lookup t ps) ≡ Some (Some o)
    → (lookup t ps ≡ Some (Some o) → (rows_of (set_value t ps (Some n)) ≡ set_value r (rows_of ps) n)
    × (gap_count (set_value t ps (Some n)) ≡ gap_count ps))
    → (rows_of (cond b ((l, Some n) ∷ ps) ((l, x) ∷ set_value t ps (Some n))) ≡ set_value r (with_place l.0 x (rows_of ps)) n)
    × (gap_count (cond b ((l, Some n) ∷ ps) ((l, x) ∷ set_value t ps (Some n))) ≡ one_if_gap x + gap_count ps)
put-head t r l None ps o n true e a g rest = absurd (cc)
put-head t r l (Some x) ps o n true e a g rest = let f : r l.0 ≡ true = sym a ∙ e in (rw f refl, refl)
put-head t r l None ps o n false e a g rest = ((rest g).0, omega (arith, (rest g).1))
put-head t r l (Some x) ps o n false e a g rest =
    let f : r l.0 ≡ false = sym a ∙ e in
    (rw f (ap (λ (rs : List Row). (l.0, x) ∷ rs) (rest g).0), omega (arith, (rest g).1))

rows_of-put : (t : Label → Bool) (r : Key → Bool) (ps : List MapPlace) (o n : Order) → Alike t r ps → lookup t ps ≡ Some (Some o)
    → (rows_of (set_value t ps (Some n)) ≡ set_value r (rows_of ps) n) × (gap_count (set_value t ps (Some n)) ≡ gap_count ps)
rows_of-put t r [] o n a e = absurd (cc)
rows_of-put t r (p ∷ ps) o n a e = put-head t r p.0 p.1 ps o n (t p.0) refl a.0 e (rows_of-put t r ps o n a.1)

-- nothing goes, or changes, if nothing is found
pub remove_entry-absent : {V : Type 0} (test : Key → Bool) (es : List (Key × V)) → lookup test es ≡ None → remove_entry test es ≡ es
remove_entry-absent test [] e = refl
remove_entry-absent {V} test (x ∷ xs) e =
    let parts = none_head (test x.0) x.1 (lookup test xs) e in
    rw parts.0 (ap (λ (ys : List (Key × V)). x ∷ ys) (remove_entry-absent test xs parts.1))

set_value-same : (t : Label → Bool) (ps : List MapPlace) (o : Option Order) → lookup t ps ≡ Some o → set_value t ps o ≡ ps
set_value-same t [] o e = absurd (cc)
set_value-same t (p ∷ ps) o e =
    elim (t p.0) as (λ b. cond b (Some p.1) (lookup t ps) ≡ Some o → cond b ((p.0, o) ∷ ps) (p ∷ set_value t ps o) ≡ p ∷ ps) [
      | true ↦ λ g. let same : o ≡ p.1 = cc in ap (λ (x : Option Order). let q : MapPlace = (p.0, x) in q ∷ ps) same
      | false ↦ λ g. ap
          (λ (qs : List MapPlace). p ∷ qs) (set_value-same t ps o g)
    ] e

-- The numbers of the places, which stay or become 0.

may_be_gap : (n m : ℕ) (o : Option Order) → IsNumbered n m o → IsNumbered n m None
may_be_gap n m None h = h
may_be_gap n m (Some o) h = λ some. absurd (omega (arith, h, some))

taken-numbered : (b : Bool) (n : ℕ) (p : MapPlace) (ps rest : List MapPlace) → AreNumbered n (p ∷ ps) → AreNumbered (suc n) rest
    → AreNumbered n (cond b ((p.0, None) ∷ ps) (p ∷ rest))
taken-numbered true n p ps rest h g = (may_be_gap n p.0.1 p.1 h.0, h.1)
taken-numbered false n p ps rest h g = (h.0, g)

numbered-taken : (t : Label → Bool) (n : ℕ) (ps : List MapPlace) → AreNumbered n ps → AreNumbered n (set_value t ps None)
numbered-taken t n [] h = tt
numbered-taken t n (p ∷ ps) h = taken-numbered (t p.0) n p ps (set_value t ps None) h (numbered-taken t (suc n) ps h.1)

put-numbered : (b : Bool) (n : ℕ) (l : Label) (x : Option Order) (ps rest : List MapPlace) (found : Option (Option Order)) (o w : Order)
    → cond b (Some x) found ≡ Some (Some o)
    → IsNumbered n l.1 x → AreNumbered (suc n) ps → (found ≡ Some (Some o) → AreNumbered (suc n) rest)
    → AreNumbered n (cond b ((l, Some w) ∷ ps) ((l, x) ∷ rest))
put-numbered true n l None ps rest found o w e h hs g = absurd (cc)
put-numbered true n l (Some x) ps rest found o w e h hs g = (h, hs)
put-numbered false n l x ps rest found o w e h hs g = (h, g e)

numbered-put : (t : Label → Bool) (n : ℕ) (ps : List MapPlace) (o w : Order) → lookup t ps ≡ Some (Some o) → AreNumbered n ps
    → AreNumbered n (set_value t ps (Some w))
numbered-put t n [] o w e h = tt
numbered-put t n (p ∷ ps) o w e h =
    put-numbered (t p.0) n p.0 p.1 ps (set_value t ps (Some w)) (lookup t ps) o w e h.0 h.1 (λ g. numbered-put t (suc n) ps o w g h.1)

pub numbered-push : (n : ℕ) (ps : List MapPlace) (l : Label) (o : Order) → l.1 ≡ 0 → AreNumbered n ps → AreNumbered n (ps ++ (l, Some o) ∷ [])
numbered-push n [] l o row h = (row, tt)
numbered-push n (p ∷ ps) l o row h = (h.0, numbered-push (suc n) ps l o row h.1)

filtered-numbered : (n m : ℕ) (l : Label) (o : Option Order) (rest : List MapPlace) → IsNumbered n l.1 o → ((i : ℕ) → AreNumbered i rest)
    → AreNumbered m (cond (is_some o) ((l, o) ∷ rest) rest)
filtered-numbered n m l None rest h g = g m
filtered-numbered n m l (Some o) rest h g = (h, g (suc m))

-- without gaps each place's number is 0, whichever the first is
pub numbered-filtered : (n m : ℕ) (ps : List MapPlace) → AreNumbered n ps → AreNumbered m (filter (λ (p : MapPlace). is_some p.1) ps)
numbered-filtered n m [] h = tt
numbered-filtered n m (p ∷ ps) h =
    filtered-numbered n m p.0 p.1 (filter (λ (q : MapPlace). is_some q.1) ps) h.0 (λ i. numbered-filtered (suc n) i ps h.1)

-- the order taken out of the place at a key, if there is such a place
pub record Took (k : Label) (ps : List MapPlace) (x : Option Order) : Type 0 where
  pub value : x ≡ lookup (same_key k.0) (rows_of ps)
  pub rows : rows_of (set_value (same_label k) ps None) ≡ remove_entry (same_key k.0) (rows_of ps)
  pub count : gap_count (set_value (same_label k) ps None) ≡ gap_count ps + (if is_some x then 1 else 0)
  pub numbered : AreNumbered 1 (set_value (same_label k) ps None)

pub took : (k : Label) (ps : List MapPlace) (x : Option Order) → k.1 ≡ 0 → AreNumbered 1 ps → IsDistinct same_label (keys_of ps)
    → Some x ≡ lookup (same_label k) ps → Took k ps x
took k ps None row h apart e =
    let none : lookup (same_key k.0) (rows_of ps) ≡ None = lookup-rows_of k 1 ps row h apart ∙ ap flat (sym e) in
    let same = set_value-same (same_label k) ps None (sym e) in
    record {
      value = sym none;
      rows = ap (λ (qs : List MapPlace). rows_of qs) same ∙ sym (remove_entry-absent (same_key k.0) (rows_of ps) none);
      count = omega (arith, ap (λ (qs : List MapPlace). gap_count qs) same);
      numbered = numbered-taken (same_label k) 1 ps h;
    }
took k ps (Some o) row h apart e =
    let out = rows_of-taken (same_label k) (same_key k.0) ps o (alike k 1 ps row h) (sym e) in
    record {
      value = sym (lookup-rows_of k 1 ps row h apart ∙ ap flat (sym e));
      rows = out.0;
      count = out.1;
      numbered =
          numbered-taken (same_label k) 1 ps h;
    }

-- if there is none, or it is a gap, nothing goes and nothing changes
pub no_row : (k : Label) (ps : List MapPlace) → k.1 ≡ 0 → AreNumbered 1 ps → IsDistinct same_label (keys_of ps)
    → None ≡ lookup (same_label k) ps → lookup (same_key k.0) (rows_of ps) ≡ None
no_row k ps row h apart e = lookup-rows_of k 1 ps row h apart ∙ ap flat (sym e)

pub changed-absent : (k : Key) (f : Order → Order) (rows : List Row) → lookup (same_key k) rows ≡ None → changed k f rows ≡ rows
changed-absent k f [] e = refl
changed-absent k f (x ∷ xs) e =
    let parts = none_head (same_key k x.0) x.1 (lookup (same_key k) xs) e in
    rw parts.0 (ap (λ (ys : List Row). x ∷ ys) (changed-absent k f xs parts.1))

-- the places after a change at a key's place
pub record Changed (k : Key) (f : Order → Order) (ps qs : List MapPlace) : Type 0 where
  pub rows : rows_of qs ≡ changed k f (rows_of ps)
  pub count : gap_count qs ≡ gap_count ps
  pub numbered : AreNumbered 1 qs

pub gap_kept : (k : Label) (ps : List MapPlace) (x : Option Order) (f : Order → Order) → k.1 ≡ 0 → AreNumbered 1 ps
    → IsDistinct same_label (keys_of ps) → Some x ≡ lookup (same_label k) ps → x ≡ None
    → Changed k.0 f ps (set_value (same_label k) ps x)
gap_kept k ps x f row h apart e gap =
    let same = set_value-same (same_label k) ps x (sym e) in
    let none : lookup (same_key k.0) (rows_of ps) ≡ None = lookup-rows_of k 1 ps row h apart ∙ ap flat (sym e) ∙ gap in
    record {
      rows = ap (λ (qs : List MapPlace). rows_of qs) same ∙ sym (changed-absent k.0 f (rows_of ps) none);
      count = ap (λ (qs : List MapPlace). gap_count qs) same;
      numbered = subst (λ (qs : List MapPlace). AreNumbered 1 qs) (sym same) h;
    }

pub rows_of-changed : (k : Label) (ps : List MapPlace) (x : Option Order) (o n : Order) (f : Order → Order) → k.1 ≡ 0 → AreNumbered 1 ps
    → IsDistinct same_label (keys_of ps) → Some x ≡ lookup (same_label k) ps → x ≡ Some o → n ≡ f o
    → Changed k.0 f ps (set_value (same_label k) ps (Some n))
rows_of-changed k ps x o n f row h apart e is made =
    let found : lookup (same_label k) ps ≡ Some (Some o) = sym e ∙ ap (λ (y : Option Order). Some y) is in
    let put = rows_of-put (same_label k) (same_key k.0) ps o n (alike k 1 ps row h) found in
    let there : lookup (same_key k.0) (rows_of ps) ≡ Some o = lookup-rows_of k 1 ps row h apart ∙ ap flat found in
    record {
      rows = put.0 ∙ ap (λ (y : Order). set_value (same_key k.0) (rows_of ps) y) made ∙ set_value-changed (rows_of ps) k.0 f o there;
      count = put.1;
      numbered = numbered-put (same_label k) 1 ps o n found h;
    }

-- A row that goes last.

with_place-append : (k : Key) (o : Option Order) (rows more : List Row) → with_place k o (rows ++ more) ≡ with_place k o rows ++ more
with_place-append k None rows more = refl
with_place-append k (Some o) rows more = refl

pub rows_of-push : (ps : List MapPlace) (l : Label) (o : Order) → (rows_of (ps ++ (l, Some o) ∷ []) ≡ rows_of ps ++ (l.0, o) ∷ [])
    × (gap_count (ps ++ (l, Some o) ∷ []) ≡ gap_count ps)
rows_of-push [] l o = (refl, refl)
rows_of-push (p ∷ ps) l o =
    let rest = rows_of-push ps l o in (
      ap (λ (rs : List Row). with_place p.0.0 p.1 rs) rest.0 ∙ with_place-append p.0.0 p.1 (rows_of ps) ((l.0, o) ∷ []),
      ap (λ (n : ℕ). one_if_gap p.1 + n) rest.1,
    )

-- Gaps squeezed out.

filtered-head : (l : Label) (o : Option Order) (ps : List MapPlace)
    → (rows_of (filter (λ (p : MapPlace). is_some p.1) ps) ≡ rows_of ps) × (gap_count (filter (λ (p : MapPlace). is_some p.1) ps) ≡ 0)
    → (rows_of (filter (λ (p : MapPlace). is_some p.1) ((l, o) ∷ ps)) ≡ with_place l.0 o (rows_of ps))
    × (gap_count (filter (λ (p : MapPlace). is_some p.1) ((l, o) ∷ ps)) ≡ 0)
filtered-head l None ps rest = rest
filtered-head l (Some o) ps rest = (ap (λ (rs : List Row). (l.0, o) ∷ rs) rest.0, omega (arith, rest.1))

pub rows_of-filtered : (ps : List MapPlace) → (rows_of (filter (λ (p : MapPlace). is_some p.1) ps) ≡ rows_of ps)
    × (gap_count (filter (λ (p : MapPlace). is_some p.1) ps) ≡ 0)
rows_of-filtered [] = (refl, refl)
rows_of-filtered (p ∷ ps) = filtered-head p.0 p.1 ps (rows_of-filtered ps)

-- How many rows there are.

length-head : (k : Key) (o : Option Order) (rows : List Row) → length (with_place k o rows) + one_if_gap o ≡ suc (length rows)
length-head k None rows = omega arith
length-head k (Some o) rows = omega arith

pub length-rows_of : (ps : List MapPlace) → length (rows_of ps) + gap_count ps ≡ length ps
length-rows_of [] = refl
length-rows_of (p ∷ ps) = omega (arith, length-head p.0.0 p.1 (rows_of ps), length-rows_of ps)

-- Without a gap each row has its place's number.

pub some_is : (p q : MapPlace) → Some p ≡ Some q → p ≡ q
some_is p q e = cc

no_gap-head : (k : Label) (x : Option Order) (ps : List MapPlace) (at : ℕ) (l : Label) (o : Option Order) → one_if_gap x + gap_count ps ≡ 0
    → slice_get ((k, x) ∷ ps) at ≡ Some (l, o)
    → ((n : ℕ) → gap_count ps ≡ 0 → slice_get ps n ≡ Some (l, o) → (r : Order) × (o ≡ Some r) × (slice_get (rows_of ps) n ≡ Some (l.0, r)))
    → (r : Order) × (o ≡ Some r) × (slice_get (with_place k.0 x (rows_of ps)) at ≡ Some (l.0, r))
no_gap-head k None ps at l o none e rest = absurd (omega (arith, none))
no_gap-head k (Some x) ps zero l o none e rest =
    let same : (k, Some x) ≡ (l, o) = some_is (k, Some x) (l, o) e in
    (x, sym (ap (λ (p : MapPlace). p.1) same), ap (λ (p : MapPlace). let r : Row = (p.0.0, x) in Some r) same)
no_gap-head k (Some x) ps (suc n) l o none e rest = rest n (omega (arith, none)) e

pub no_gap : (ps : List MapPlace) (at : ℕ) (l : Label) (o : Option Order) → gap_count ps ≡ 0 → slice_get ps at ≡ Some (l, o)
    → (r : Order) × (o ≡ Some r) × (slice_get (rows_of ps) at ≡ Some (l.0, r))
no_gap [] at l o none e = absurd (cc)
no_gap (p ∷ ps) at l o none e = no_gap-head p.0 p.1 ps at l o none e (λ n. no_gap ps n l o)

no_row-head : (k : Label) (x : Option Order) (ps : List MapPlace) (at : ℕ) → one_if_gap x + gap_count ps ≡ 0
    → slice_get ((k, x) ∷ ps) at ≡ None
    → ((n : ℕ) → gap_count ps ≡ 0 → slice_get ps n ≡ None → slice_get (rows_of ps) n ≡ None) → slice_get (with_place k.0 x (rows_of ps)) at ≡ None
no_row-head k None ps at none e rest = absurd (omega (arith, none))
no_row-head k (Some x) ps zero none e rest = absurd (cc)
no_row-head k (Some x) ps (suc n) none e rest = rest n (omega (arith, none)) e

pub no_gap-none : (ps : List MapPlace) (at : ℕ) → gap_count ps ≡ 0 → slice_get ps at ≡ None → slice_get (rows_of ps) at ≡ None
no_gap-none [] at none e = refl
no_gap-none (p ∷ ps) at none e = no_row-head p.0 p.1 ps at none e (λ n. no_gap-none ps n)

some_order : (o r : Order) → Some o ≡ Some r → o ≡ r
some_order o r e = cc

module _ (ps : List MapPlace) (rows : List Row) (at : ℕ) (view : rows_of ps ≡ rows) (none : gap_count ps ≡ 0) where
  pub row_at : (k : Label) (l : Key) (x : Option Order) (o n : Order) → ◌≡◌ {A = Option MapPlace} (Some (k, x)) (slice_get ps at) → x ≡ Some o
      → l ≡ k.0 → n ≡ o → ◌≡◌ {A = Option Row} (Some (l, n)) (slice_get rows at)
  row_at k l x o n e is key order =
      let found = no_gap ps at k x none (sym e) in
      let same : o ≡ found.0 = some_order o found.0 (sym is ∙ found.1) in
      ap₂ (λ (q : Key) (y : Order). let r : Row = (q, y) in Some r) key (order ∙ same) ∙ sym found.2
      ∙ ap (λ (rs : List Row). slice_get rs at) view

  pub no_gap_at : (k : Label) (x : Option Order) → ◌≡◌ {A = Option MapPlace} (Some (k, x)) (slice_get ps at) → x ≡ None → ⊥
  no_gap_at k x e is = let found = no_gap ps at k x none (sym e) in let both : ◌≡◌ {A = Option Order} None (Some found.0) =
      sym is ∙ found.1 in absurd (cc)

  pub no_row_at : None ≡ slice_get ps at → None ≡ slice_get rows at
  no_row_at e = sym (no_gap-none ps at none (sym e)) ∙ ap (λ (rs : List Row). slice_get rs at) view

-- Whether any row names a key as its parent.

any-head : (k : Key) (at : Key) (x : Option Order) (rows : List Row) (b : Bool) → b ≡ list_any (names_parent k) rows
    → (child_at k at.0 x || b) ≡ list_any (names_parent k) (with_place at x rows)
any-head k at None rows b e = e
any-head k at (Some o) rows b e = ap (λ (c : Bool). (is_parent k.1 (parent_of o) && same_text k.0 at.0) || c) e

pub any-rows_of : (k : Key) (ps : List MapPlace) → list_any (is_child_place k) ps ≡ list_any (names_parent k) (rows_of ps)
any-rows_of k [] = refl
any-rows_of k (p ∷ ps) = any-head k p.0.0 p.1 (rows_of ps) (list_any (is_child_place k) ps) (any-rows_of k ps)

pub same_pair : {who other name text : List ℕ} → who ≡ other → name ≡ text → ◌≡◌ {A = Key} (who, name) (other, text)
same_pair e f = ap₂ (λ (w n : List ℕ). let k : Key = (w, n) in k) e f

-- Rows that the places hold.

module _ (ps : List MapPlace) (rows : List Row) (k : Label) (l : Key) (view : rows_of ps ≡ rows) (numbered : AreNumbered 1 ps)
    (apart : IsDistinct same_label (keys_of ps)) (is : k ≡ (l, 0)) where
  seen_at : lookup (same_key l) rows ≡ flat (lookup (same_label k) ps)
  seen_at =
      ap₂ (λ (q : Label) (rs : List Row). lookup (same_key q.0) rs) (sym is) (sym view)
      ∙ lookup-rows_of k 1 ps (ap (λ (q : Label). q.1) is) numbered apart

  pub found_at : (x : Option Order) (o n : Order) → Some x ≡ lookup (same_label k) ps → x ≡ Some o → n ≡ o
      → Some n ≡ lookup (same_key l) rows
  found_at x o n found one here = ap (λ (y : Order). Some y) here ∙ sym one ∙ ap flat found ∙ sym seen_at

  pub absent_at : None ≡ lookup (same_label k) ps → None ≡ lookup (same_key l) rows
  absent_at e = ap flat e ∙ sym seen_at

  pub gap_at : (x : Option Order) → Some x ≡ lookup (same_label k) ps → x ≡ None → None ≡ lookup (same_key l) rows
  gap_at x e none = sym none ∙ ap flat e ∙ sym seen_at
