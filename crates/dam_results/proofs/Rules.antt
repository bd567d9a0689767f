-- Which fields keep their rules.
use Rattle.std.proofs.Common.{◌≡◌, ◌≢◌, ℕ, suc, ◌+◌, ◌≤◌, Bool, true, false, nat_lt, List, [], ◌∷◌, refl, codes, arith, sym, subst, ◌∙◌}
use Rattle.std.proofs.Common.{Result, Ok, Err, MatchResult, ap, ◌||◌}
use Rattle.std.specs.Result.{IsErrAnd}
use Rattle.std.proofs.lemmas.Slice.Eq.{bytes_eq-Decides}
use Rattle.dam_book.specs.declared.command.Command.{Command}
use Rattle.dam_results.specs.declared.nine_fields.NineFields.{NineFields}
use Rattle.dam_book.specs.declared.order.Side.{Side}
use Rattle.dam_book.specs.declared.order.Side.TheVariants.{Buy, Sell}
use Rattle.dam_results.specs.inside.NineFields.{fields_in, ChecksEmpty, ReadsCommand}
use Rattle.std.specs.Str.{bytes_eq}
use Rattle.std.proofs.lemmas.Bool.{lt-ltb}
use Rattle.std.proofs.lemmas.Bool.Decides.{nat_tests}
use Rattle.dam_book.specs.Limits.{last_period}
use Rattle.dam_book.specs.Period.{IsPeriod}
use Rattle.dam_book.specs.Quantity.{IsQuantity}
use Rattle.dam_book.specs.Volumes.{IsVolumes}
use Rattle.dam_book.specs.Book.{is_day}
use Rattle.dam_results.specs.Records.{Fields, form_field, record_of_day, side_word}
use Rattle.dam_results.specs.Rules.{FieldRule, OneOf, Obeys, word, day_rules, IsLeastBroken, form_rules, hour_rules, block_rules, submit_of}
use Rattle.dam_results.specs.Rules.{submit_rules}

-- no day has more periods than the last number of a period
pub short_day : (periods : ℕ) → is_day periods ≡ true → periods ≤ last_period
short_day periods day = grind (arith, nat_tests)

-- one pair of a period and a volume makes volumes
pub one_volume : (period qty : ℕ) → IsPeriod period → IsQuantity qty → IsVolumes ((period, qty) ∷ [])
one_volume period qty p q =
    let some : nat_lt 0 period ≡ true = lt-ltb 0 period (let h = p.at_least in omega arith) in
    record { nonempty = omega arith; fits = omega arith; ranges = (p, q, tt); increasing = rw some refl }

-- the rules of a submit of each form
pub hour_broken : (row : Fields) (n : ℕ) → form_field row ≡ codes "hour" → IsLeastBroken (submit_of hour_rules) row n → IsLeastBroken
    (submit_rules row) row n
hour_broken row n e h = let P : List ℕ → Type 0 = λ form. IsLeastBroken (submit_of (form_rules form)) row n in subst P (sym e) h

pub block_broken : (row : Fields) (n : ℕ) → form_field row ≡ codes "block" → IsLeastBroken (submit_of block_rules) row n → IsLeastBroken
    (submit_rules row) row n
block_broken row n e h = let P : List ℕ → Type 0 = λ form. IsLeastBroken (submit_of (form_rules form)) row n in subst P (sym e) h

-- another reason to fail
pub other_fault : {A E : Type 0} (r : Result A E) (P : A → Type 0) (Q R : E → Type 0) → ((e : E) → Q e → R e) → MatchResult r P Q
    → MatchResult r P R
other_fault (Ok x) P Q R f h = h
other_fault (Err e) P Q R f h = f e h

-- a record is its nine fields
pub nine_alike : (a b c d e f g h i a' b' c' d' e' f' g' h' i' : List ℕ) → a ≡ a' → b ≡ b' → c ≡ c' → d ≡ d' → e ≡ e' → f ≡ f' → g ≡ g'
    → h ≡ h' → i ≡ i'
    → (a ∷ b ∷ c ∷ d ∷ e ∷ f ∷ g ∷ h ∷ i ∷ []) ≡ (a' ∷ b' ∷ c' ∷ d' ∷ e' ∷ f' ∷ g' ∷ h' ∷ i' ∷ [])
nine_alike a b c d e f g h i a' b' c' d' e' f' g' h' i' pa pb pc pd pe pf pg ph pi = cc

-- the field at which a reader stops, which should be empty
pub stops : (rules : List FieldRule) (row : NineFields) (command : Command) (r : Result Unit ℕ) (n e : ℕ) → IsErrAnd r (λ f. f ≡ e)
    → e ≡ n → IsLeastBroken rules (fields_in row) n → ReadsCommand rules row command r
stops rules row command (Ok x) n e h k broken = absurd h
stops rules row command (Err f) n e h k broken = rw (h ∙ k) broken

-- the same in a day
pub day_stops : (row : NineFields) (r : Result ℕ ℕ) (n e : ℕ) → IsErrAnd r (λ f. f ≡ e) → e ≡ n → IsLeastBroken day_rules (fields_in row) n
    → MatchResult r (λ periods. (is_day periods ≡ true) × (fields_in row ≡ record_of_day periods)) (IsLeastBroken day_rules (fields_in row))
day_stops row (Ok x) n e h k broken = absurd h
day_stops row (Err f) n e h k broken = rw (h ∙ k) broken

-- a field is found filled
pub first_filled : {A : Type 0} (first : ℕ) (field : List ℕ) (fields : Fields) (r : Result A ℕ) (e : ℕ) → IsErrAnd r (λ f. f ≡ e)
    → e ≡ first → (field ≡ [] → ⊥) → ChecksEmpty first (field ∷ fields) r
first_filled first field fields (Ok x) e h k filled = absurd h
first_filled first field fields (Err f) e h k filled = (0, omega (arith, h, k), filled)

-- a field is empty, and then the others are checked
pub then_others : {A : Type 0} (first : ℕ) (field : List ℕ) (fields : Fields) (r : Result A ℕ) → field ≡ [] → ChecksEmpty
    (first + 1) fields r → ChecksEmpty first (field ∷ fields) r
then_others first field fields (Ok x) e h = (e, h)
then_others first field fields (Err f) e h = (suc h.0, omega (arith, h.1), (e, h.2))

-- one field is checked
pub last_field : {A : Type 0} (first : ℕ) (field : List ℕ) (r : Result A ℕ) → MatchResult r (λ _. field ≡ [])
    (λ broken. (broken ≡ first) × (field ≢ [])) → ChecksEmpty first (field ∷ []) r
last_field first field (Ok x) h = (h, tt)
last_field first field (Err f) h = (0, omega (arith, h.0), h.1)

-- the field says a side
pub side_kept : (side : Side) (field : List ℕ) → field ≡ side_word side → Obeys (OneOf (codes "buy" ∷ codes "sell" ∷ [])) field
side_kept Buy field e = rw e refl
side_kept Sell field e = rw e refl

-- a field that is the word keeps its rule
pub is_word : (text field : List ℕ) → field ≡ text → Obeys (word text) field
is_word text field e = let same : bytes_eq field text ≡ true = (bytes_eq-Decides field text).1 e in ap (λ (b : Bool). b || false) same
