-- The first bytes of a line.
use Rattle.std.proofs.Common.{◌≡◌, ℕ, zero, suc, ◌-◌, ◌≤◌, min, List, [], ◌∷◌, ◌++◌, length, take, drop, refl, sym, ap, ◌∙◌, length-append, arith, Result, Ok, Err, is_ok, if◌then◌else◌, OnOk}
use Rattle.dam_desk.specs.Answers.{fault_answer}
use Rattle.dam_desk.specs.Desk.{end_answer}
use Rattle.dam_desk.specs.Limits.{most_line}
use Rattle.dam_desk.specs.InputLines.{kept_bytes}
use Rattle.dam_desk.specs.declared.fault.InputLineFault.TheVariants.{CutShort}
use Rattle.std.proofs.lemmas.List.{drop_at, take_min, take_rest}

take_both : (m : ℕ) (xs ys : List ℕ) → take m xs ++ take (m - length (take m xs)) ys ≡ take m (xs ++ ys)
take_both zero xs ys = refl
take_both (suc m) [] ys = let all : suc m - 0 ≡ suc m = omega arith in ap (λ (k : ℕ). take k ys) all
take_both (suc m) (x ∷ xs) ys =
    let less : suc m - suc (length (take m xs)) ≡ m - length (take m xs) = omega arith in
    ap (λ (k : ℕ). x ∷ (take m xs ++ take k ys)) less ∙ ap (λ (l : List ℕ). x ∷ l) (take_both m xs ys)

-- the first bytes of a line that has grown
pub more_kept : (m n : ℕ) (begun bytes old : List ℕ) → old ≡ take m begun → n ≡ min (m - length old) (length bytes)
    → old ++ take n bytes ≡ take m (begun ++ bytes)
more_kept m n begun bytes old kept n_is =
    ap (λ (k : ℕ). old ++ take k bytes) n_is ∙ ap (λ (l : List ℕ). old ++ l) (take_min (m - length old) bytes)
    ∙ ap (λ (l : List ℕ). l ++ take (m - length l) bytes) kept ∙ take_both m begun bytes

-- a line whose kept bytes are few is kept whole
pub kept_whole : (m : ℕ) (text : List ℕ) → length (take (suc m) text) ≤ m → take (suc m) text ≡ text
kept_whole m [] few = refl
kept_whole zero (x ∷ text) few = absurd (omega (arith, few))
kept_whole (suc m) (x ∷ text) few = ap (λ (l : List ℕ). x ∷ l) (kept_whole m text (omega (arith, few)))

pub on_ok_all : {X Y : Type 0} (r : Result X Y) (A B C D E : Type 0) → (A → B → C → D → E) → OnOk r A → OnOk r B → OnOk r C → OnOk r D → OnOk r E
on_ok_all (Ok x) A B C D E all a b c d = all a b c d
on_ok_all (Err y) A B C D E all a b c d = tt

-- a line that has begun, by as much of it as is kept
none_taken : (m : ℕ) (xs : List ℕ) → length (take (suc m) xs) ≡ 0 → xs ≡ []
none_taken m [] none = refl
none_taken m (x ∷ xs) none = absurd (omega (arith, none))

pub none_kept : (begun : List ℕ) → length (kept_bytes begun) ≡ 0 → begun ≡ []
none_kept begun none = none_taken most_line begun none

pub end_of_none : (number : ℕ) (begun : List ℕ) → length (kept_bytes begun) ≡ 0 → end_answer number begun ≡ []
end_of_none number begun none = ap (end_answer number) (none_kept begun none)

pub end_of_some : (number : ℕ) (begun : List ℕ) → ¬ (length (kept_bytes begun) ≡ 0) → end_answer number begun ≡ fault_answer number CutShort
end_of_some number [] some = absurd (some refl)
end_of_some number (b ∷ begun) some = refl

pub on_ok_then : {X Y : Type 0} (r : Result X Y) (new is other : List ℕ) → new ≡ (if is_ok r then is else other) → OnOk r (new ≡ is)
on_ok_then (Ok x) new is other e = e
on_ok_then (Err y) new is other e = tt

pub fits_before : (day_record records front back : List ℕ) → day_record ≡ front → records ≡ front ++ back → length day_record ≤ length records
fits_before day_record records front back is split = omega (arith, ap length is, ap length split, length-append front back)

pub left_after : (day_record records front back : List ℕ) → day_record ≡ front → records ≡ front ++ back
    → take (length records - length day_record) (drop (length day_record) records) ≡ back
left_after day_record records front back is split =
    take_rest records (length day_record) ∙ ap (drop (length day_record)) split ∙ drop_at front back (length day_record) (sym (ap length is))
