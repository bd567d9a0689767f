-- The order at the place of a label.
use Rattle.dam_book.proofs.Common.{AreNumbered, Bool, IsDistinct, Label, List, MapPlace, None, Option, Order, Some, [], ap, false, gap_count}
use Rattle.dam_book.proofs.Common.{if◌then◌else◌, is_some, keys_of, lookup, lookup-none, lookup_key, lookup_key_passes, none_past_head, refl}
use Rattle.dam_book.proofs.Common.{remove_entry, rows_of, same_key, same_label, set_value, slice_get, subst, suc, sym, true, zero, ℕ, ◌+◌, ◌∙◌, ◌∷◌}
use Rattle.dam_book.proofs.Common.{◌≡◌}
use Rattle.std.specs.Map.{values_of}
use Rattle.indexmap.specs.IndexMap.{set_value_at}
use Rattle.dam_book.specs.inside.Gaps.{IsLabelledAt}
use Rattle.dam_book.proofs.GapFacts.{same_label_equiv, same_label-equal, distinct_tail, some_is, took, Changed, gap_kept, rows_of-changed}

-- a place whose label is found to be this one
pub labelled : (k l : Label) (ps : List MapPlace) (i : ℕ) (o : Option Order) → Some (l, o) ≡ slice_get ps i → same_label l k ≡ true
    → IsLabelledAt k ps i
labelled k l ps i o at same =
    (o, sym at ∙ ap (λ (m : Label). let p : MapPlace = (m, o) in Some p) (same_label-equal l k same))

pub looked_up : (k l : Label) (ps : List MapPlace) (i : ℕ) (o : Option Order) → Some l ≡ lookup_key (same_label k) ps
    → slice_get ps i ≡ Some (l, o) → IsLabelledAt k ps i
looked_up k l ps i o key at =
    let same : k ≡ l = same_label-equal k l (lookup_key_passes (same_label k) ps l (sym key)) in
    (o, at ∙ ap (λ (m : Label). let p : MapPlace = (m, o) in Some p) (sym same))

-- the label is found there, and an order that is put there is put at the label
pub record AtLabel (k : Label) (ps : List MapPlace) (i : ℕ) (o : Option Order) : Type 0 where
  pub found : lookup (same_label k) ps ≡ Some o
  pub put : (w : Option Order) → set_value_at ps i w ≡ set_value (same_label k) ps w

at_label-next : (k : Label) (p : MapPlace) (ps : List MapPlace) (i : ℕ) (o : Option Order) (b : Bool) → same_label k p.0 ≡ b
    → (b ≡ true → lookup (same_label k) ps ≡ None) → AtLabel k ps i o → AtLabel k (p ∷ ps) (suc i) o
at_label-next k p ps i o true e none rest = let hit : lookup (same_label k) ps ≡ None = none refl in
    let there : lookup (same_label k) ps ≡ Some o = rest.found in absurd (cc)
at_label-next k p ps i o false e none rest = record {
  found = rw e rest.found;
  put = λ w. rw e (ap (λ (qs : List MapPlace). p ∷ qs) (rest.put w));
}

at_label-head : (k : Label) (ps : List MapPlace) (o : Option Order) → AtLabel k ((k, o) ∷ ps) 0 o
at_label-head k ps o = record { found = rw (same_label_equiv.refl k) refl; put = λ w. rw (same_label_equiv.refl k) refl }

pub at_label : (k : Label) (ps : List MapPlace) (i : ℕ) (o : Option Order) → IsDistinct same_label (keys_of ps)
    → slice_get ps i ≡ Some (k, o) → AtLabel k ps i o
at_label k [] i o d e = absurd (cc)
at_label k (p ∷ ps) zero o d e =
    let same : p ≡ (k, o) = some_is p (k, o) e in
    subst (λ (q : MapPlace). AtLabel k (q ∷ ps) 0 o) (sym same) (at_label-head k ps o)
at_label k (p ∷ ps) (suc i) o d e =
    at_label-next k p ps i o (same_label k p.0) refl (λ hit. lookup-none (same_label k) ps (none_past_head same_label_equiv k p ps d hit))
    (at_label k ps i o (distinct_tail p ps d) e)

-- the order or the gap there
value_at : (ps : List MapPlace) (i : ℕ) (l : Label) (o : Option Order) → slice_get ps i ≡ Some (l, o) → slice_get (values_of ps) i ≡ Some o
value_at [] i l o e = absurd (cc)
value_at (p ∷ ps) zero l o e = ap (λ (q : MapPlace). Some q.1) (some_is p (l, o) e)
value_at (p ∷ ps) (suc i) l o e = value_at ps i l o e

same_value : (x o : Option Order) → Some x ≡ Some o → x ≡ o
same_value x o e = cc

there : (k : Label) (ps : List MapPlace) (i : ℕ) (x : Option Order) → IsDistinct same_label (keys_of ps) → IsLabelledAt k ps i
    → Some x ≡ slice_get (values_of ps) i → AtLabel k ps i x
there k ps i x d labelled is =
    let same : x ≡ labelled.0 = same_value x labelled.0 (is ∙ value_at ps i k labelled.0 labelled.1) in
    subst (λ (o : Option Order). AtLabel k ps i o) (sym same) (at_label k ps i labelled.0 d labelled.1)

pub not_nowhere : (k : Label) (ps : List MapPlace) (i : ℕ) → IsLabelledAt k ps i → None ≡ slice_get (values_of ps) i → ⊥
not_nowhere k ps i labelled is =
    let both : ◌≡◌ {A = Option (Option Order)} None (Some labelled.0) = is ∙ value_at ps i k labelled.0 labelled.1 in absurd (cc)

keys-put : (ps : List MapPlace) (i : ℕ) (w : Option Order) → keys_of (set_value_at ps i w) ≡ keys_of ps
keys-put [] i w = refl
keys-put (p ∷ ps) zero w = refl
keys-put (p ∷ ps) (suc i) w = ap (λ (ls : List Label). p.0 ∷ ls) (keys-put ps i w)

pub apart-put : (ps : List MapPlace) (i : ℕ) (w : Option Order) → IsDistinct same_label (keys_of ps)
    → IsDistinct same_label (keys_of (set_value_at ps i w))
apart-put ps i w d = subst (λ (ls : List Label). IsDistinct same_label ls) (sym (keys-put ps i w)) d

-- The order taken out of the place of a row's label, or changed there.

module _ (k : Label) (ps : List MapPlace) (i : ℕ) (x : Option Order) (row : k.1 ≡ 0) (numbered : AreNumbered 1 ps)
    (apart : IsDistinct same_label (keys_of ps)) (labelled : IsLabelledAt k ps i) (is : Some x ≡ slice_get (values_of ps) i) where
  at : AtLabel k ps i x
  at = there k ps i x apart labelled is

  pub took_at : (w : Option Order) → w ≡ None → (x ≡ lookup (same_key k.0) (rows_of ps))
      × (rows_of (set_value_at ps i w) ≡ remove_entry (same_key k.0) (rows_of ps))
      × (gap_count (set_value_at ps i w) ≡ gap_count ps + (if is_some x then 1 else 0))
      × AreNumbered 1 (set_value_at ps i w)
  took_at w none =
      let out = took k ps x row numbered apart (sym at.found) in
      let same : set_value (same_label k) ps None ≡ set_value_at ps i w =
      sym (at.put None) ∙ ap (λ (o : Option Order). set_value_at ps i o) (sym none) in (
        out.value,
        subst (λ (qs : List MapPlace). rows_of qs ≡ remove_entry (same_key k.0) (rows_of ps)) same out.rows,
        subst (λ (qs : List MapPlace). gap_count qs ≡ gap_count ps + (if is_some x then 1 else 0)) same out.count,
        subst (λ (qs : List MapPlace). AreNumbered 1 qs) same out.numbered,
      )

  pub gap_kept_at : (f : Order → Order) → x ≡ None → Changed k.0 f ps (set_value_at ps i x)
  gap_kept_at f gap =
      subst (λ (qs : List MapPlace). Changed k.0 f ps qs) (sym (at.put x)) (gap_kept k ps x f row numbered apart (sym at.found) gap)

  pub changed_at : (o n : Order) (f : Order → Order) → x ≡ Some o → n ≡ f o → Changed k.0 f ps (set_value_at ps i (Some n))
  changed_at o n f some made =
      subst (λ (qs : List MapPlace). Changed k.0 f ps qs) (sym (at.put (Some n)))
      (rows_of-changed k ps x o n f row numbered apart (sym at.found) some made)
