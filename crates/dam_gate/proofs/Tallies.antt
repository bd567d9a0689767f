-- The facts that a tally keeps, receipt by receipt, and its marks in the end.
use Rattle.std.proofs.Common.{◌≡◌, ◌≢◌, ℕ, zero, suc, ◌+◌, ◌-◌, ◌<◌, ◌≤◌, ◌==◌, ◌⊎◌, inl, inr, Bool, true, false, List, [], ◌∷◌, ◌++◌}
use Rattle.std.proofs.Common.{length, replicate, Option, Some, None, MatchOption, MatchBool, min, refl, sym, ap, subst, ◌∙◌, length-append, arith}
use Rattle.std.specs.List.{slice_get}
use Rattle.std.proofs.lemmas.Bool.{cases_lt}
use Rattle.std.proofs.lemmas.List.Elements.{filter-append}
use Rattle.std.proofs.lemmas.Option.{slice_get_within}
use Rattle.std.proofs.Math.ListN.{set}
use Rattle.dam_book.specs.declared.command.Entry.{Entry}
use Rattle.dam_book.specs.Book.{empty_book, IsLegalHistory}
use Rattle.dam_gate.specs.declared.settlement.Mismatch.{Mismatch}
use Rattle.dam_gate.specs.declared.settlement.Mismatch.TheVariants.{StillOpen, Missing, Doubled, Differs, Extra, Memory}
use Rattle.dam_gate.specs.declared.tally.Mark.{Mark}
use Rattle.dam_gate.specs.declared.tally.Mark.TheVariants.{Nothing, Same, Other, Several}
use Rattle.dam_gate.specs.Settled.{numbered, IsFaultOfReceipts, IsLeastFault, IsExtra}
use Rattle.dam_gate.specs.inside.Tally.{AreReceipts, IsMark, mark_with, AreMarks, IsLeastExtra, lesser, IsTally, first_mismatch_in_marks}
use Rattle.dam_gate.proofs.Numbers.{numbered-own, numbered-other, none_below, none_above, AreOnly, are_only}

-- ---- one receipt more

one_list : (r e : Entry) → r ∷ [] ≡ e ∷ [] → r ≡ e
one_list r e same = cc

found-more : (f : Mark) (same : Bool) (e r : Entry) (rs : List Entry) → MatchBool same (r ≡ e) (r ≢ e) → IsMark f e rs
    → IsMark (mark_with f same) e (rs ++ r ∷ [])
found-more Nothing true e r rs is found = ap (λ (xs : List Entry). xs ++ r ∷ []) found ∙ ap (λ (x : Entry). x ∷ []) is
found-more Nothing false e r rs is found =
    let one : rs ++ r ∷ [] ≡ r ∷ [] = ap (λ (xs : List Entry). xs ++ r ∷ []) found in
    (ap (λ (xs : List Entry). length xs) one, λ same. is (one_list r e (sym one ∙ same)))
found-more Same same e r rs is found = omega (arith, length-append rs (r ∷ []), ap (λ (xs : List Entry). length xs) found)
found-more Other same e r rs is found = omega (arith, length-append rs (r ∷ []), found.0)
found-more Several same e r rs is found = omega (arith, length-append rs (r ∷ []), found)

-- a receipt of a lesser number
found-below : (n : ℕ) (es : List Entry) (fs : List Mark) (rs : List Entry) (r : Entry) → r.number < n → AreMarks n es fs rs
    → AreMarks n es fs (rs ++ r ∷ [])
found-below n [] [] rs r below are = tt
found-below n (e ∷ es) (f ∷ fs) rs r below are = (
  subst (IsMark f e) (sym (numbered-other n rs r (λ same. omega (arith, same, below)))) are.0,
  found-below (suc n) es fs rs r (omega (arith, below)) are.1,
)
found-below n [] (f ∷ fs) rs r below are = are
found-below n (e ∷ es) [] rs r below are = are

-- a receipt of a number that no entry has
found-above : (n : ℕ) (es : List Entry) (fs : List Mark) (rs : List Entry) (r : Entry) → n + length es ≤ r.number → AreMarks n es fs rs
    → AreMarks n es fs (rs ++ r ∷ [])
found-above n [] [] rs r above are = tt
found-above n (e ∷ es) (f ∷ fs) rs r above are = (
  subst (IsMark f e) (sym (numbered-other n rs r (λ same. omega (arith, same, above)))) are.0,
  found-above (suc n) es fs rs r (omega (arith, above)) are.1,
)
found-above n [] (f ∷ fs) rs r above are = are
found-above n (e ∷ es) [] rs r above are = are

-- a receipt of the entry at a place
found-at : (n k : ℕ) (es : List Entry) (fs : List Mark) (rs : List Entry) (r e : Entry) (f : Mark) (same : Bool) → r.number ≡ n + k
    → slice_get es k ≡ Some e → slice_get fs k ≡ Some f → MatchBool same (r ≡ e) (r ≢ e) → AreMarks n es fs rs
    → AreMarks n es (set fs k (mark_with f same)) (rs ++ r ∷ [])
found-at n k [] fs rs r e f same number at found is are = absurd (cc)
found-at n k (x ∷ es) [] rs r e f same number at found is are = are
found-at n zero (x ∷ es) (g ∷ fs) rs r e f same number at found is are =
    let entry : x ≡ e = cc in
    let mark : g ≡ f = cc in
    let own : r.number ≡ n = omega (arith, number) in
    let head : IsMark f e (numbered n rs) = subst (λ (y : Entry). IsMark f y (numbered n rs)) entry
    (subst (λ (h : Mark). IsMark h x (numbered n rs)) mark are.0) in (
      subst (λ (y : Entry). IsMark (mark_with f same) y (numbered n (rs ++ r ∷ []))) (sym entry)
          (subst (IsMark (mark_with f same) e) (sym (numbered-own n rs r own)) (found-more f same e r (numbered n rs) is head)),
      found-below (suc n) es fs rs r (omega (arith, own)) are.1,
    )
found-at n (suc k) (x ∷ es) (g ∷ fs) rs r e f same number at found is are = (
  subst (IsMark g x) (sym (numbered-other n rs r (λ own. omega (arith, own, number)))) are.0,
  found-at (suc n) k es fs rs r e f same (omega (arith, number)) at found is are.1,
)

-- the least extra number
extra-within : (held : ℕ) (rs : List Entry) (r : Entry) (extra : Option ℕ) → r.number ≤ held → IsLeastExtra held rs extra
    → IsLeastExtra held (rs ++ r ∷ []) extra
extra-within held rs r None within is = λ n above. numbered-other n rs r (λ same. omega (arith, same, within, above)) ∙ is n above
extra-within held rs r (Some least) within is = (
  is.0,
  subst (λ (xs : List Entry). 0 < length xs) (sym (numbered-other least rs r (λ same. omega (arith, same, within, is.0)))) is.1,
  λ n above below. numbered-other n rs r (λ same. omega (arith, same, within, above)) ∙ is.2 n above below,
)

one_more : (n : ℕ) (rs : List Entry) (r : Entry) → r.number ≡ n → 0 < length (numbered n (rs ++ r ∷ []))
one_more n rs r own = omega (arith, ap (λ (xs : List Entry). length xs) (numbered-own n rs r own), length-append (numbered n rs) (r ∷ []))

extra-lesser : (held least : ℕ) (rs : List Entry) (r : Entry) → held < r.number → IsLeastExtra held rs (Some least) → (r.number < least)
    ⊎ (least ≤ r.number)
    → IsLeastExtra held (rs ++ r ∷ []) (Some (min least r.number))
extra-lesser held least rs r above is (inl less) =
    let own : min least r.number ≡ r.number = omega (arith, less) in
    subst (λ (n : ℕ). IsLeastExtra held (rs ++ r ∷ []) (Some n)) (sym own) (
      above,
      one_more r.number rs r refl,
      λ n over below. numbered-other n rs r (λ same. omega (arith, same, below))
          ∙ is.2 n over (omega (arith, below, less)),
    )
extra-lesser held least rs r above is (inr no_less) =
    let own : min least r.number ≡ least = omega (arith, no_less) in
    subst (λ (n : ℕ). IsLeastExtra held (rs ++ r ∷ []) (Some n)) (sym own) (
      is.0,
      kept least rs r is.1,
      λ n over below. numbered-other n rs r (λ same. omega (arith, same, below, no_less)) ∙ is.2 n over below,
    )
  where
    kept : (n : ℕ) (rs : List Entry) (r : Entry) → 0 < length (numbered n rs) → 0 < length (numbered n (rs ++ r ∷ []))
    kept n rs r some = omega (
      arith,
      some,
      ap (λ (xs : List Entry). length xs) (filter-append (λ (e : Entry). e.number == n) rs (r ∷ [])),
      length-append (numbered n rs) (numbered n (r ∷ [])),
    )

extra-more : (held : ℕ) (rs : List Entry) (r : Entry) (extra : Option ℕ) → held < r.number → IsLeastExtra held rs extra
    → IsLeastExtra held (rs ++ r ∷ []) (lesser extra r.number)
extra-more held rs r None above is =
    (above, one_more r.number rs r refl, λ n over below. numbered-other n rs r (λ same. omega (arith, same, below)) ∙ is n over)
extra-more held rs r (Some least) above is = extra-lesser held least rs r above is (cases_lt r.number least)

-- a receipt whose number an entry has
pub tally-some : (es : List Entry) (fs : List Mark) (extra : Option ℕ) (rs : List Entry) (r e : Entry) (f : Mark) (same : Bool)
    → 0 < r.number
    → slice_get es (r.number - 1) ≡ Some e → slice_get fs (r.number - 1) ≡ Some f → MatchBool same (r ≡ e) (r ≢ e) → IsTally es fs extra rs
    → IsTally es (set fs (r.number - 1) (mark_with f same)) extra (rs ++ r ∷ [])
tally-some es fs extra rs r e f same some at found is tally =
    let within = slice_get_within es (r.number - 1) e at in
    record {
      are_found = found-at 1 (r.number - 1) es fs rs r e f same (omega (arith, some)) at found is tally.are_found;
      extra_is = extra-within (length es) rs r extra (omega (arith, within)) tally.extra_is;
      positive = numbered-other 0 rs r (λ none. omega (arith, none, some)) ∙ tally.positive;
    }

-- a receipt whose number no entry has
pub tally-none : (es : List Entry) (fs : List Mark) (extra : Option ℕ) (rs : List Entry) (r : Entry) → length es < r.number
    → IsTally es fs extra rs
    → IsTally es fs (lesser extra r.number) (rs ++ r ∷ [])
tally-none es fs extra rs r above tally =
    record {
      are_found = found-above 1 es fs rs r (omega (arith, above)) tally.are_found;
      extra_is = extra-more (length es) rs r extra above tally.extra_is;
      positive = numbered-other 0 rs r (λ none. omega (arith, none, above)) ∙ tally.positive;
    }

none_found : (n : ℕ) (es : List Entry) → AreMarks n es (replicate (length es) Nothing) []
none_found n [] = tt
none_found n (e ∷ es) = (refl, none_found (suc n) es)

pub tally-empty : (es : List Entry) → IsTally es (replicate (length es) Nothing) None []
tally-empty es = record { are_found = none_found 1 es; extra_is = λ n above. refl; positive = refl }

pub found-length : (n : ℕ) (es : List Entry) (fs : List Mark) (rs : List Entry) → AreMarks n es fs rs → length fs ≡ length es
found-length n [] [] rs are = refl
found-length n (e ∷ es) (f ∷ fs) rs are = ap suc (found-length (suc n) es fs rs are.1)
found-length n [] (f ∷ fs) rs are = absurd are
found-length n (e ∷ es) [] rs are = absurd are

-- ---- its marks

right-more : (n : ℕ) (all rs : List Entry) → numbered n rs ≡ numbered n all → ((m : ℕ) → m < n → numbered m rs ≡ numbered m all) → (m : ℕ)
    → m < suc n → numbered m rs ≡ numbered m all
right-more n all rs here right m below = go (cases_lt m n)
  where
    go : (m < n) ⊎ (n ≤ m) → numbered m rs ≡ numbered m all
    go (inl less) = right m less
    go (inr no_less) = let same : n ≡ m = omega (arith, below, no_less) in subst (λ (k : ℕ). numbered k rs ≡ numbered k all) same here

first-decided : (last n : ℕ) (all rs es : List Entry) (fs : List Mark) → last ≡ n + length es → AreOnly n es all → AreMarks n es fs rs
    → ((m : ℕ) → m < n → numbered m rs ≡ numbered m all)
    → MatchOption (first_mismatch_in_marks n fs) ((m : ℕ) → m < last → numbered m rs ≡ numbered m all) (IsFaultOfReceipts all rs)
first-decided last n all rs [] [] end only are right = λ m below. right m (omega (arith, end, below))
first-decided last n all rs (e ∷ es) (Nothing ∷ fs) end only are right =
    record { wrong = (ap (λ (xs : List Entry). length xs) only.0, are.0); least = right }
first-decided last n all rs (e ∷ es) (Same ∷ fs) end only are right =
    first-decided last (suc n) all rs es fs (omega (arith, end)) only.1 are.1 (right-more n all rs (are.0 ∙ sym only.0) right)
first-decided last n all rs (e ∷ es) (Other ∷ fs) end only are right =
    record { wrong = (ap (λ (xs : List Entry). length xs) only.0, are.0.0, λ same. are.0.1 (same ∙ only.0)); least = right }
first-decided last n all rs (e ∷ es) (Several ∷ fs) end only are right =
    record { wrong = (ap (λ (xs : List Entry). length xs) only.0, are.0); least = right }
first-decided last n all rs [] (f ∷ fs) end only are right = absurd are
first-decided last n all rs (e ∷ es) [] end only are right = absurd are

none-wrong : (periods : ℕ) (es rs : List Entry) → IsLegalHistory periods es → numbered 0 rs ≡ [] → (m : ℕ) → m < 1
    → numbered m rs ≡ numbered m es
none-wrong periods es rs legal positive m below =
    let zero_is : 0 ≡ m = omega (arith, below) in
    subst (λ (k : ℕ). numbered k rs ≡ numbered k es) zero_is (positive ∙ sym (none_below 1 0 (empty_book periods) es legal (omega arith)))

tally-first : (periods : ℕ) (es : List Entry) (fs : List Mark) (extra : Option ℕ) (rs : List Entry) → IsLegalHistory periods es
    → IsTally es fs extra rs
    → MatchOption (first_mismatch_in_marks 1 fs) ((m : ℕ) → m < 1 + length es → numbered m rs ≡ numbered m es) (IsFaultOfReceipts es rs)
tally-first periods es fs extra rs legal tally =
    first-decided (1 + length es) 1 es rs es fs refl (are_only 1 (empty_book periods) es legal) tally.are_found
    (none-wrong periods es rs legal tally.positive)

pub fault-decided : (periods : ℕ) (es : List Entry) (fs : List Mark) (extra : Option ℕ) (rs : List Entry) (fault : Mismatch)
    → IsLegalHistory periods es → first_mismatch_in_marks 1 fs ≡ Some fault
    → IsTally es fs extra rs → IsFaultOfReceipts es rs fault
fault-decided periods es fs extra rs fault legal is tally =
    subst (λ (o : Option Mismatch). MatchOption o ((m : ℕ) → m < 1 + length es → numbered m rs ≡ numbered m es) (IsFaultOfReceipts es rs))
    is (tally-first periods es fs extra rs legal tally)

none-decided : (periods : ℕ) (es : List Entry) (fs : List Mark) (extra : Option ℕ) (rs : List Entry) → IsLegalHistory periods es
    → first_mismatch_in_marks 1 fs ≡ None
    → IsTally es fs extra rs → (m : ℕ) → m < 1 + length es → numbered m rs ≡ numbered m es
none-decided periods es fs extra rs legal is tally =
    subst (λ (o : Option Mismatch). MatchOption o ((m : ℕ) → m < 1 + length es → numbered m rs ≡ numbered m es) (IsFaultOfReceipts es rs))
    is (tally-first periods es fs extra rs legal tally)

all_numbers : (periods n : ℕ) (es rs : List Entry) → IsLegalHistory periods es
    → ((m : ℕ) → m < 1 + length es → numbered m rs ≡ numbered m es)
    → (length es < n → numbered n rs ≡ []) → numbered n rs ≡ numbered n es
all_numbers periods n es rs legal right after = go (cases_lt n (1 + length es))
  where
    go : (n < 1 + length es) ⊎ (1 + length es ≤ n) → numbered n rs ≡ numbered n es
    go (inl below) = right n below
    go (inr above) = after (omega (arith, above)) ∙ sym (none_above 1 n (empty_book periods) es legal above)

-- if each entry is received as it should be, the least extra number decides
pub all-decided : (periods : ℕ) (es : List Entry) (fs : List Mark) (extra : Option ℕ) (rs : List Entry) → IsLegalHistory periods es
    → first_mismatch_in_marks 1 fs ≡ None → extra ≡ None
    → IsTally es fs extra rs → AreReceipts es rs
all-decided periods es fs extra rs legal is none tally n =
    all_numbers periods n es rs legal (none-decided periods es fs extra rs legal is tally)
    (subst (IsLeastExtra (length es) rs) none tally.extra_is n)

pub extra-decided : (periods least : ℕ) (es : List Entry) (fs : List Mark) (extra : Option ℕ) (rs : List Entry) → IsLegalHistory periods es
    → first_mismatch_in_marks 1 fs ≡ None → extra ≡ Some least
    → IsTally es fs extra rs → IsLeastFault IsExtra es rs least
extra-decided periods least es fs extra rs legal is some tally =
    let own = subst (IsLeastExtra (length es) rs) some tally.extra_is in
    record {
      wrong = (none_above 1 least (empty_book periods) es legal (omega (arith, own.0)), own.1);
      least = λ m below. all_numbers periods m es rs legal (none-decided periods es fs extra rs legal is tally)
          (λ above. own.2 m above below);
    }

-- receipts as they should be have no fault
pub no_fault : (es rs : List Entry) (why : Mismatch) → IsFaultOfReceipts es rs why → AreReceipts es rs → ⊥
no_fault es rs StillOpen is are = is
no_fault es rs (Missing n) is are = omega (arith, is.wrong.0, ap (λ (xs : List Entry). length xs) (sym is.wrong.1 ∙ are n))
no_fault es rs (Doubled n) is are = omega (arith, is.wrong.0, is.wrong.1, ap (λ (xs : List Entry). length xs) (are n))
no_fault es rs (Differs n) is are = is.wrong.2 (are n)
no_fault es rs (Extra n) is are = omega (arith, is.wrong.1, ap (λ (xs : List Entry). length xs) (are n ∙ is.wrong.0))
no_fault es rs Memory is are = is
