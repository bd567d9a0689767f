-- Each step on the two words keeps their rule.
use Rattle.dam_search.proofs.Common.{◌≡◌, ℕ, zero, suc, ◌+◌, ◌^◌, ◌%◌, ◌<◌, ◌≤◌, inl, inr, min, max, nat_lt, cond, true, false, List, [], ◌∷◌, ◌++◌, length}
use Rattle.dam_search.proofs.Common.{set, ap, sym, subst, refl, ◌∙◌, arith, length-append, nat_tests, View, times, most_pieces, AreClosedWords}
use Rattle.std.proofs.Math.Nat.{mod-eq_of_lt}
use mathlib.Core.Option.{some, none, some-injective, some-ne-none}
use lib.ListN.{get_elem?}
use Rattle.std.specs.List.{slice_index}
use Rattle.atomic_table.specs.Table.{State, Me, keeps, step, opening, Allows, Splits, Joins}
use Rattle.atomic_table.proofs.Lists.{at_set, at_snoc, set_else}
use Rattle.dam_search.specs.Words.{sum_of, greatest, once_below, most_seats, first_view, spent_view, drawn_after, view_after_split, split_off_view}
use Rattle.dam_search.specs.Words.{joined_view, IsFit, AreWordsOf, AreWords, IsDrawn, IsIncumbentRead, IsOffered}
use Rattle.dam_search.proofs.Sums.{total_set, total_snoc, part_of_total, greatest_set, greatest_snoc, total_less, part_of_greatest}
use Rattle.dam_search.proofs.Sums.{total_none, greatest_none, placed, times_append}

-- ---- one view changes

-- no view offered more than the greatest offer of all
no_greater_offer : (views : List View) (i : ℕ) (view : View) → get_elem? views i ≡ some view
    → view.greatest_offer ≤ greatest (λ (x : View). x.greatest_offer) views
no_greater_offer views i view at = part_of_greatest (λ (x : View). x.greatest_offer) views i view at

-- the greatest offer of all, if one view changes
offers_set : (views : List View) (i : ℕ) (view other : View) → get_elem? views i ≡ some view
    → max (greatest (λ (x : View). x.greatest_offer) (set views i other)) view.greatest_offer
    ≡ max (greatest (λ (x : View). x.greatest_offer) views) other.greatest_offer
offers_set views i view other at = greatest_set (λ (x : View). x.greatest_offer) views i view other at

-- a step that changes one view, and with it the words, keeps the rule
changed : (n claim incumbent claim' incumbent' : ℕ) (views : List View) (i : ℕ) (view updated : View) → get_elem? views i ≡ some view
    → AreWordsOf n claim incumbent views
    → ((x : ℕ) → times x updated.drawn + once_below x (min claim n) ≡ times x view.drawn + once_below x (min claim' n))
    → claim' + (length view.drawn + view.draws_past_the_end) ≡ claim + (length updated.drawn + updated.draws_past_the_end)
    → min claim' n + length view.drawn ≡ min claim n + length updated.drawn
    → IsFit n updated → updated.seats + updated.seats_left ≤ view.seats + view.seats_left → view.greatest_offer ≤ updated.greatest_offer
    → incumbent' ≡ max incumbent updated.greatest_offer → updated.greatest_read ≤ incumbent' → AreWordsOf n claim' incumbent' (set views i updated)
changed n claim incumbent claim' incumbent' views i view updated at h drawn count many fits seats rises offer greatest_read =
    let lengths = total_set (λ (view : View). length view.drawn) views i view updated at in
    let pasts = total_set (λ (view : View). view.draws_past_the_end) views i view updated at in
    let counted = h.counted in let as_many = h.as_many in
    record {
      once = λ x. (let before = h.once x in let now = total_set (λ (view : View). times x view.drawn) views i view updated at in let add = drawn x in omega
          (arith, before, now, add));
      as_many = omega (arith, lengths, as_many, many);
      counted = omega (arith, lengths, pasts, counted, count);
      fit = λ j another e. elim (at_set views i j updated another e) [ inl here ↦ subst (IsFit n) here.1 fits | inr other ↦ h.fit j another other.1 ];
      few_seats = (let all = total_set (λ (view : View). view.seats + view.seats_left) views i view updated at in let few = h.few_seats in omega
          (arith, all, few, seats));
      greatest_offer =
          (let all = offers_set views i view updated at in let part = no_greater_offer views i view at in let before = h.greatest_offer in
          let after = no_greater_offer (set views i updated) i updated (placed views i view updated at) in
          omega (arith, all, part, before, after, rises, offer));
      none_above = λ j another e.
          elim (at_set views i j updated another e) [
            | inl here ↦ subst (λ (x : View). x.greatest_read ≤ incumbent') here.1 greatest_read
            | inr other ↦ (let before = h.none_above j another other.1 in omega (arith, before, offer))
          ];
    }

-- the state of a table of two words whose word was set
words_set : (state : State (Unit {0}) View) (claim incumbent new : ℕ) → state.words ≡ claim ∷ incumbent ∷ []
    → set state.words 0 new ≡ new ∷ incumbent ∷ []
words_set state claim incumbent new e = ap (λ (ws : List ℕ). set ws 0 new) e

words_set_1 : (state : State (Unit {0}) View) (claim incumbent new : ℕ) → state.words ≡ claim ∷ incumbent ∷ []
    → set state.words 1 new ≡ claim ∷ new ∷ []
words_set_1 state claim incumbent new e = ap (λ (ws : List ℕ). set ws 1 new) e

-- ---- a draw

-- how often x is the number found
times_one : (x found : ℕ) → times x (found ∷ []) + once_below x found ≡ once_below x (found + 1)
times_one x found = grind (arith, nat_tests)

record IsStep (n found : ℕ) (view other : View) : Type 0 where
  drawn : (x : ℕ) → times x other.drawn + once_below x (min found n) ≡ times x view.drawn + once_below x (min (found + 1) n)
  counted : (found + 1) + (length view.drawn + view.draws_past_the_end) ≡ found + (length other.drawn + other.draws_past_the_end)
  many : min (found + 1) n + length view.drawn ≡ min found n + length other.drawn
  pieces : other.pieces ≡ view.pieces
  seats : other.seats ≡ view.seats
  seats_left : other.seats_left ≡ view.seats_left
  greatest_offer : other.greatest_offer ≡ view.greatest_offer
  greatest_read : other.greatest_read ≡ view.greatest_read
  draws_past_the_end : other.draws_past_the_end ≤ view.draws_past_the_end + 1

piece_drawn : (n found : ℕ) (view : View) → found < n → IsStep n found view (record view { drawn = view.drawn ++ found ∷ [] })
piece_drawn n found view less =
    let long = length-append view.drawn (found ∷ []) in
    record {
      drawn = λ x.
          (let a : min found n ≡ found = omega arith in let b : min (found + 1) n ≡ found + 1 = omega arith in
          let at_a = ap (λ (k : ℕ). once_below x k) a in let at_b = ap (λ (k : ℕ). once_below x k) b in
          let more = times_append x view.drawn (found ∷ []) in let one = times_one x found in
          omega (arith, at_a, at_b, more, one));
      counted = omega (arith, long);
      many = omega (arith, long, less);
      pieces = refl;
      seats = refl;
      seats_left = refl;
      greatest_offer = refl;
      greatest_read = refl;
      draws_past_the_end = omega arith;
    }

past_drawn : (n found : ℕ) (view : View) → n ≤ found → IsStep n found view (record view { draws_past_the_end = view.draws_past_the_end + 1 })
past_drawn n found view over = record {
  drawn =
      λ x. (let a : min found n ≡ min (found + 1) n = omega arith in let at_a = ap (λ (k : ℕ). once_below x k) a in omega (arith, at_a));
  counted = omega arith;
  many = omega (arith, over);
  pieces = refl;
  seats = refl;
  seats_left = refl;
  greatest_offer = refl;
  greatest_read = refl;
  draws_past_the_end = omega arith;
}

drawn_step : (n found : ℕ) (view : View) → view.pieces ≡ n → IsStep n found view (drawn_after view found)
drawn_step n found view e =
    elim (nat_lt found view.pieces) as (λ b. nat_lt found view.pieces ≡ b
    → IsStep n found view (cond b (record view { drawn = view.drawn ++ found ∷ [] })
    (record view { draws_past_the_end = view.draws_past_the_end + 1 }))) [
      | true ↦ λ t. piece_drawn n found view (grind (arith, nat_tests, t, e))
      | false ↦ λ t. past_drawn n found view (grind (arith, nat_tests, t, e))
    ] refl

past_few : (n claim incumbent : ℕ) (views : List View) → AreWordsOf n claim incumbent views
    → sum_of (λ (view : View). view.draws_past_the_end) views ≤ most_seats
past_few n claim incumbent views h = let less = total_less (λ (view : View). view.draws_past_the_end) (λ (view : View). view.seats + view.seats_left) views
    (λ i view e. (let f = (h.fit i view e).few_past in omega (arith, f))) in let few = h.few_seats in omega (arith, less, few)

pub draws : (n slots id : ℕ) (me : Me (Unit {0}) View) → me.0.draws_past_the_end < me.0.seats
    → Allows (AreWords n) slots id me 0 (λ k. (k + 1) % 2 ^ 64) (IsDrawn me)
draws n slots id me more state h homes at small =
    let found = slice_index state.words 0 in
    let is : found ≡ h.claim = ap (λ (ws : List ℕ). slice_index ws 0) h.words in
    let kept : AreWordsOf n found h.incumbent state.views = subst (λ (k : ℕ). AreWordsOf n k h.incumbent state.views) (sym is) h.kept in
    let pieces_few = h.few_pieces in let pasts = past_few n found h.incumbent state.views kept in let counted = kept.counted in
    let as_many = kept.as_many in
    let next : (found + 1) % 2 ^ 64 ≡ found + 1 = mod-eq_of_lt (omega (arith, pasts, counted, as_many, pieces_few)) in
    let fits = kept.fit id me.0 at in
    let step = drawn_step n found me.0 (fits.knows_pieces (omega (arith, more))) in
    let seats = step.seats in let left = step.seats_left in let greatest_offer = step.greatest_offer in let greatest_read = step.greatest_read in
    let past = step.draws_past_the_end in
    let below = no_greater_offer state.views id me.0 at in let offers = kept.greatest_offer in
    let read = kept.none_above id me.0 at in
    let after : AreWordsOf n (found + 1) h.incumbent (set state.views id (drawn_after me.0 found)) =
    changed n found h.incumbent (found + 1) h.incumbent state.views id me.0 (drawn_after me.0 found) at kept step.drawn step.counted step.many
    (record {
      spent = λ z. absurd (omega (arith, z, seats, more));
      knows_pieces = λ z. step.pieces ∙ fits.knows_pieces (omega (arith, more));
      few_past = omega (arith, past, seats, more);
    }) (omega (arith, seats, left)) (omega (arith, greatest_offer))
    (omega (arith, below, offers, greatest_offer)) (omega (arith, greatest_read, read)) in
    let long = part_of_total (λ (view : View). length view.drawn) (set state.views id (drawn_after me.0 found)) id (drawn_after me.0 found)
    (placed state.views id me.0 (drawn_after me.0 found) at) in
    let many = after.as_many in let same = step.pieces ∙ fits.knows_pieces (omega (arith, more)) in (
      drawn_after me.0 found,
      keeps,
      tt,
      record {
        few_pieces = h.few_pieces;
        claim = found + 1;
        incumbent = h.incumbent;
        words = words_set state h.claim h.incumbent ((found + 1) % 2 ^ 64) h.words ∙ ap (λ (k : ℕ). k ∷ h.incumbent ∷ []) next;
        kept = after;
      },
      (refl, refl, omega (arith, long, many, same)),
    )

-- ---- a read and an offer

pub reads : (n slots id : ℕ) (me : Me (Unit {0}) View) → 0 < me.0.seats → Allows (AreWords n) slots id me 1 (λ k. k) (IsIncumbentRead me)
reads n slots id me alive state h homes at small =
    let found = slice_index state.words 1 in let is : found ≡ h.incumbent = ap (λ (ws : List ℕ). slice_index ws 1) h.words in
    let kept = h.kept in let fits = kept.fit id me.0 at in let read = kept.none_above id me.0 at in
    let below = no_greater_offer state.views id me.0 at in let offers = kept.greatest_offer in
    let other : View = record me.0 { greatest_read = found } in
    let after : AreWordsOf n h.claim h.incumbent (set state.views id other) =
    changed n h.claim h.incumbent h.claim h.incumbent state.views id me.0 other at kept (λ x. refl) refl refl
    (record { spent = λ z. absurd (omega (arith, z, alive)); knows_pieces = fits.knows_pieces; few_past = fits.few_past })
    (omega arith) (omega arith)
    (omega (arith, below, offers)) (omega (arith, is)) in (
      other,
      keeps,
      tt,
      record {
        few_pieces = h.few_pieces;
        claim = h.claim;
        incumbent = h.incumbent;
        words = words_set_1 state h.claim h.incumbent found h.words ∙ ap (λ (k : ℕ). h.claim ∷ k ∷ []) is;
        kept = after;
      },
      (omega (arith, is, read), refl, refl),
    )

pub offers : (n slots id offer : ℕ) (me : Me (Unit {0}) View) → 0 < me.0.seats
    → Allows (AreWords n) slots id me 1 (λ k. max k offer) (IsOffered (step slots 1 offer 0 none) me)
offers n slots id offer me alive state h homes at small =
    let found = slice_index state.words 1 in let is : found ≡ h.incumbent = ap (λ (ws : List ℕ). slice_index ws 1) h.words in
    let kept = h.kept in let fits = kept.fit id me.0 at in let read = kept.none_above id me.0 at in
    let below = no_greater_offer state.views id me.0 at in let greatest_offer = kept.greatest_offer in
    let other : View = record me.0 { greatest_offer = max me.0.greatest_offer offer } in
    let after : AreWordsOf n h.claim (max h.incumbent offer) (set state.views id other) =
    changed n h.claim h.incumbent h.claim (max h.incumbent offer) state.views id me.0 other at kept (λ x. refl) refl refl
    (record { spent = λ z. absurd (omega (arith, z, alive)); knows_pieces = fits.knows_pieces; few_past = fits.few_past }) (omega arith)
    (omega arith) (omega (arith, below, greatest_offer)) (omega (arith, read)) in (
      other,
      keeps,
      tt,
      record {
        few_pieces = h.few_pieces;
        claim = h.claim;
        incumbent = max h.incumbent offer;
        words = words_set_1 state h.claim h.incumbent (max found offer) h.words ∙ ap (λ (k : ℕ). h.claim ∷ max k offer ∷ []) is;
        kept = after;
      },
      (refl, refl),
    )

-- ---- seats that are made, split and joined

pub opens : (n : ℕ) → n ≤ most_pieces → AreWords n (opening (0 ∷ 0 ∷ []) [] (first_view n))
opens n few = record {
  few_pieces = few;
  claim = 0;
  incumbent = 0;
  words = refl;
  kept = record {
    once = λ x. none_below x n;
    as_many = omega arith;
    counted = refl;
    fit = λ i view e. first_fits i view e;
    few_seats = omega arith;
    greatest_offer = refl;
    none_above = λ i view e. first_told i view e;
  };
}
  where
    none_below : (x n : ℕ) → 0 ≡ once_below x (min 0 n)
    none_below x n = let a : min 0 n ≡ 0 = omega arith in let b = ap (λ (k : ℕ). once_below x k) a in grind (arith, nat_tests, b)

    first_fits : (i : ℕ) (view : View) → get_elem? (first_view n ∷ []) i ≡ some view → IsFit n view
    first_fits zero view e = subst (IsFit n) (some-injective (first_view n) view e)
        (record { spent = λ z. absurd (omega arith); knows_pieces = λ z. refl; few_past = omega arith })
    first_fits (suc i) view e = absurd (some-ne-none view (sym e))

    first_told : (i : ℕ) (view : View) → get_elem? (first_view n ∷ []) i ≡ some view → view.greatest_read ≤ 0
    first_told zero view e = subst (λ (another : View). another.greatest_read ≤ 0) (some-injective (first_view n) view e) (omega arith)
    first_told (suc i) view e = absurd (some-ne-none view (sym e))

pub splits : (n id : ℕ) (view : View) → 0 < view.seats → 0 < view.seats_left → Splits (AreWords n) id view (view_after_split view) (split_off_view view)
splits n id view alive more state h at =
    let kept = h.kept in let fits = kept.fit id view at in let l = view_after_split view in let r = split_off_view view in
    let sums : (f : View → ℕ) → sum_of f (set state.views id l ++ r ∷ []) + f view ≡ sum_of f state.views + f l + f r = λ f.
    (let a = total_set f state.views id view l at in let b = total_snoc f (set state.views id l) r in omega (arith, a, b)) in
    let as_many = kept.as_many in let counted = kept.counted in let few = kept.few_seats in
    let lengths = sums (λ (view : View). length view.drawn) in let pasts = sums (λ (view : View). view.draws_past_the_end) in
    let seats = sums (λ (view : View). view.seats + view.seats_left) in
    let greatest_of_offers = offers_set state.views id view l at in
    let snoc = greatest_snoc (λ (view : View). view.greatest_offer) (set state.views id l) r in
    let offer = kept.greatest_offer in let below = no_greater_offer state.views id view at in
    let there = no_greater_offer (set state.views id l) id l (placed state.views id view l at) in
    record {
      few_pieces = h.few_pieces;
      claim = h.claim;
      incumbent = h.incumbent;
      words = h.words;
      kept = record {
        once = λ x. (let before = kept.once x in let now = sums (λ (view : View). times x view.drawn) in omega (arith, before, now));
        as_many = omega (arith, as_many, lengths);
        counted = omega (arith, counted, lengths, pasts);
        fit = λ i another e.
            elim (at_snoc (set state.views id l) r another i e) [
              | inl old ↦ elim (at_set state.views id i l another old) [
                | inl here ↦ subst (IsFit n) here.1 (record {
                  spent = λ z. absurd (omega (arith, z, alive));
                  knows_pieces = fits.knows_pieces;
                  few_past = fits.few_past;
                })
                | inr other ↦ kept.fit i another other.1
              ]
              | inr new ↦ subst (IsFit n) new (record {
                spent = λ z. absurd (omega arith);
                knows_pieces = λ z. fits.knows_pieces alive;
                few_past = omega arith;
              })
            ];
        few_seats = omega (arith, few, seats, more);
        greatest_offer = omega (arith, offer, greatest_of_offers, snoc, below, there);
        none_above = λ i another e.
            elim (at_snoc (set state.views id l) r another i e) [
              | inl old ↦ elim (at_set state.views id i l another old) [
                | inl here ↦ subst (λ (x : View). x.greatest_read ≤ h.incumbent) here.1 (kept.none_above id view at)
                | inr other ↦ kept.none_above i another other.1
              ]
              | inr new ↦ subst (λ (x : View). x.greatest_read ≤ h.incumbent) new (omega arith)
            ];
      };
    }

pub joins : (n id other : ℕ) (view other_view : View) → 0 < view.seats → Joins (AreWords n) id view other other_view (joined_view view other_view) spent_view
joins n id other view other_view alive state h at apart there =
    let kept = h.kept in let fits = kept.fit id view at in let both = joined_view view other_view in
    let found : get_elem? state.views other ≡ some other_view = sym (set_else state.views id other both apart) ∙ there in
    let fits_w = kept.fit other other_view found in
    let sums : (f : View → ℕ) → sum_of f (set (set state.views id both) other spent_view) + f view + f other_view ≡ sum_of f
    state.views + f both + f spent_view =
    λ f. (let a = total_set f state.views id view both at in let b = total_set f (set state.views id both) other other_view spent_view
    there in omega (arith, a, b)) in
    let as_many = kept.as_many in let counted = kept.counted in let few = kept.few_seats in let few_v = fits.few_past in
    let few_w = fits_w.few_past in
    let lengths = sums (λ (view : View). length view.drawn) in let long = length-append view.drawn other_view.drawn in
    let pasts = sums (λ (view : View). view.draws_past_the_end) in let seats = sums (λ (view : View). view.seats + view.seats_left) in
    let first = offers_set state.views id view both at in
    let second = offers_set (set state.views id both) other other_view spent_view there in
    let offer = kept.greatest_offer in let below_v = no_greater_offer state.views id view at in
    let below_w = no_greater_offer state.views other other_view found in
    let after = no_greater_offer (set (set state.views id both) other spent_view) id both
    (set_else (set state.views id both) other id spent_view (λ e. apart (sym e)) ∙ placed state.views id view both at) in
    record {
      few_pieces = h.few_pieces;
      claim = h.claim;
      incumbent = h.incumbent;
      words = h.words;
      kept = record {
        once = λ x. (let before = kept.once x in let now = sums (λ (view : View). times x view.drawn) in let more = times_append x view.drawn
            other_view.drawn in omega (arith, before, now, more));
        as_many = omega (arith, as_many, lengths, long);
        counted = omega (arith, counted, lengths, long, pasts);
        fit = λ i another e.
            elim (at_set (set state.views id both) other i spent_view another e) [
              | inl here ↦ subst (IsFit n) here.1 (record {
                spent = λ z. refl;
                knows_pieces = λ z. absurd (omega arith);
                few_past = omega arith;
              })
              | inr rest ↦ elim (at_set state.views id i both another rest.1) [
                | inl here ↦ subst (IsFit n) here.1 (record {
                  spent = λ z. absurd (omega (arith, z, alive));
                  knows_pieces = λ z. fits.knows_pieces alive;
                  few_past = omega (arith, few_v, few_w);
                })
                | inr old ↦ kept.fit i another old.1
              ]
            ];
        few_seats = omega (arith, few, seats);
        greatest_offer = omega (arith, offer, first, second, below_v, below_w, after);
        none_above = λ i another e.
            elim (at_set (set state.views id both) other i spent_view another e) [
              | inl here ↦ subst (λ (x : View). x.greatest_read ≤ h.incumbent) here.1 (omega arith)
              | inr rest ↦ elim (at_set state.views id i both another rest.1) [
                | inl here ↦ subst (λ (x : View). x.greatest_read ≤ h.incumbent) here.1
                    (let a = kept.none_above id view at in let b = kept.none_above other other_view found in omega (arith, a, b))
                | inr old ↦ kept.none_above i another old.1
              ]
            ];
      };
    }

-- ---- the close

-- if the seats of one view are all there are, every other view is spent
pub closes : (n : ℕ) (state : State (Unit {0}) View) (i : ℕ) (view : View) → AreWords n state → get_elem? state.views i ≡ some view
    → view.seats + view.seats_left ≡ most_seats → AreClosedWords n state.words view
closes n state i view h at all =
    let kept = h.kept in
    let claim_is : slice_index state.words 0 ≡ h.claim = ap (λ (ws : List ℕ). slice_index ws 0) h.words in
    let incumbent_is : slice_index state.words 1 ≡ h.incumbent = ap (λ (ws : List ℕ). slice_index ws 1) h.words in
    let rest = set state.views i spent_view in let few = kept.few_seats in
    let seats = total_set (λ (view : View). view.seats + view.seats_left) state.views i view spent_view at in
    let spent : (j : ℕ) (another : View) → get_elem? rest j ≡ some another → another ≡ spent_view =
    λ j another e. elim (at_set state.views i j spent_view another e) [
      | inl here ↦ sym here.1
      | inr other ↦ (let part = part_of_total (λ (view : View). view.seats + view.seats_left) rest j another e in (kept.fit j another other.1).spent
          (omega (arith, part, seats, few, all)))
    ] in
    let only : (f : View → ℕ) → f spent_view ≡ 0 → sum_of f state.views ≡ f view =
    λ f zero_is. (let none = total_none f rest (λ j another e. ap f (spent j another e) ∙ zero_is) in let changes = total_set f state.views i view spent_view
    at in omega (arith, none, changes, zero_is)) in
    let lengths = only (λ (view : View). length view.drawn) refl in let pasts = only (λ (view : View). view.draws_past_the_end) refl in
    let greatest_of_offers = greatest_none (λ (view : View). view.greatest_offer) rest (λ j another e. ap (λ (view : View). view.greatest_offer) (spent j another e)) in
    let offer_set = offers_set state.views i view spent_view at in
    let as_many = kept.as_many in let counted = kept.counted in let offer = kept.greatest_offer in let greatest_read = kept.none_above i view at in
    let incumbent_is_offer : h.incumbent ≡ view.greatest_offer = omega (arith, greatest_of_offers, offer_set, offer) in
    record {
      claim = omega (arith, claim_is, counted, lengths, pasts);
      each = λ past x.
          (let whole : min h.claim n ≡ n = omega (arith, as_many, counted, pasts, past) in
          sym (only (λ (view : View). times x view.drawn) refl) ∙ kept.once x ∙ ap (λ (k : ℕ). once_below x k) whole);
      incumbent = incumbent_is ∙ incumbent_is_offer;
      greatest_read = omega (arith, greatest_read, incumbent_is_offer);
    }

-- the same for the words as they are read one by one
pub closed_words : (n claim incumbent : ℕ) (words : List ℕ) (view : View) → AreClosedWords n words view → get_elem? words 0 ≡ some claim
    → get_elem? words 1 ≡ some incumbent → AreClosedWords n (claim ∷ incumbent ∷ []) view
closed_words n claim incumbent [] view h first second = absurd (some-ne-none claim (sym first))
closed_words n claim incumbent (x ∷ []) view h first second = absurd (some-ne-none incumbent (sym second))
closed_words n claim incumbent (x ∷ y ∷ rest) view h first second = record {
  claim = sym (some-injective x claim first) ∙ h.claim;
  each = h.each;
  incumbent = sym (some-injective y incumbent second) ∙ h.incumbent;
  greatest_read = h.greatest_read;
}
