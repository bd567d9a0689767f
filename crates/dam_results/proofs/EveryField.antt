-- Each field keeps its rule or breaks it.
use Rattle.std.proofs.Common.{◌≡◌, ◌⊎◌, inl, inr, ℕ, ℤ, pos, negsuc, zero, suc, ◌+◌, ◌<◌, ◌≤◌, ◌&&◌, true, nat_lt, List, [], ◌∷◌, ◌++◌}
use Rattle.std.proofs.Common.{length, codes, decimal, refl, sym, ap, ap₂, ◌∙◌, append_assoc, arith, Bool}
use Rattle.std.specs.List.{list_any, list_all}
use Rattle.std.specs.Str.{bytes_eq}
use Rattle.std.specs.Int.Signed.{mag}
use Rattle.std.proofs.lemmas.Int.{ints}
use Rattle.std.proofs.lemmas.Bool.{and_parts, lt-ltb, ltb-true}
use Rattle.dam_book.specs.Limits.{lowest_price, highest_price, last_period, greatest_volume, longest_name, longest_participant}
use Rattle.dam_book.specs.Price.{IsPrice}
use Rattle.dam_book.specs.Period.{IsPeriod}
use Rattle.dam_book.specs.Quantity.{IsQuantity}
use Rattle.dam_book.specs.Name.{IsName, IsParticipant, is_name_byte, is_letter_byte}
use Rattle.dam_book.specs.Volumes.{Pair, ArePairs, is_increasing}
use Rattle.dam_book.specs.Fields.{price_text, pair_text, volumes_text}
use Rattle.dam_book.specs.Book.{is_day}
use Rattle.dam_results.specs.Rules.{FieldRule, Empty, OneOf, Periods, Code, OrderName, LimitPrice, OneVolume, AllVolumes, NameOrEmpty}
use Rattle.dam_results.specs.Rules.{Obeys}
use Rattle.dam_results.proofs.Rules.{short_day}
use Rattle.dam_results.proofs.Deciding.{IsDecided, decided_as, decided_both, decided_either, decided_true, decided_less, decided_most}
use Rattle.dam_results.proofs.Deciding.{decided_same, decided_below, decided_front}

-- ---- numbers

decided_period : (n : ℕ) → IsDecided (IsPeriod n)
decided_period n = decided_as (λ is. record { at_least = is.0; at_most = is.1 }) (λ is. (is.at_least, is.at_most))
    (decided_both (decided_most 1 n) (decided_most n last_period))

decided_quantity : (n : ℕ) → IsDecided (IsQuantity n)
decided_quantity n = decided_as (λ is. record { at_least = is.0; at_most = is.1 }) (λ is. (is.at_least, is.at_most))
    (decided_both (decided_most 1 n) (decided_most n greatest_volume))

-- a price is one of these numbers over zero, or of these under it
abbrev IsOver : List ℕ → Type 0
IsOver field = (n : ℕ) × (n < mag highest_price + 1) × (field ≡ price_text (pos n))

abbrev IsUnder : List ℕ → Type 0
IsUnder field = (n : ℕ) × (n < mag lowest_price + 1) × (field ≡ price_text (negsuc n))

price-from : (field : List ℕ) → IsOver field ⊎ IsUnder field → Obeys LimitPrice field
price-from field (inl is) = let n = is.1 in (pos is.0, record { at_least = omega (arith, ints); at_most = omega (arith, ints, n) }, is.2)
price-from field (inr is) = let n = is.1 in (negsuc is.0, record { at_least = omega (arith, ints, n); at_most = omega (arith, ints) }, is.2)

price-to : (field : List ℕ) (price : ℤ) → IsPrice price → field ≡ price_text price → IsOver field ⊎ IsUnder field
price-to field (pos n) valid is = inl (n, omega (arith, ints, valid.at_most), is)
price-to field (negsuc n) valid is = inr (n, omega (arith, ints, valid.at_least), is)

decided_price : (field : List ℕ) → IsDecided (Obeys LimitPrice field)
decided_price field = decided_as (price-from field) (λ is. price-to field is.0 is.1 is.2)
    (decided_either (decided_below (λ n. field ≡ price_text (pos n)) (λ n. decided_same field (price_text (pos n))) (mag highest_price + 1))
    (decided_below (λ n. field ≡ price_text (negsuc n)) (λ n. decided_same field (price_text (negsuc n))) (mag lowest_price + 1)))

-- ---- volumes

-- the text is the text of pairs, at least one and at most `most`, with periods that increase from above `low`
abbrev HasPairs : ℕ → ℕ → List ℕ → Type 0
HasPairs most low text = (ps : List Pair) × (0 < length ps) × (length ps ≤ most) × ArePairs ps × (is_increasing low ps ≡ true) ×
    (text ≡ volumes_text ps)

-- the text begins with this pair
abbrev BeginsWith : ℕ → ℕ → List ℕ → ℕ → ℕ → Type 0
BeginsWith most low text period qty = IsPeriod period × (IsQuantity qty × ((low < period)
    × ((text ≡ pair_text (period, qty)) ⊎
    ((rest : List ℕ) × (text ≡ (pair_text (period, qty) ++ codes ";") ++ rest) × HasPairs most period rest))))

abbrev BeginsAt : ℕ → ℕ → List ℕ → ℕ → Type 0
BeginsAt most low text period = (qty : ℕ) × (qty < greatest_volume + 1) × BeginsWith most low text period qty

abbrev Begins : ℕ → ℕ → List ℕ → Type 0
Begins most low text = (period : ℕ) × (period < last_period + 1) × BeginsAt most low text period

pairs-more : (most low period qty : ℕ) (text rest : List ℕ) (ps : List Pair) → IsPeriod period → IsQuantity qty → low < period
    → text ≡ (pair_text (period, qty) ++ codes ";") ++ rest → 0 < length ps → length ps ≤ most → ArePairs ps
    → is_increasing period ps ≡ true → rest ≡ volumes_text ps → HasPairs (suc most) low text
pairs-more most low period qty text rest [] p q above is some few are rising other = absurd (omega (arith, some))
pairs-more most low period qty text rest (r ∷ ps) p q above is some few are rising other = (
  (period, qty) ∷ r ∷ ps,
  omega arith,
  omega (arith, few),
  (p, q, are),
  ap₂ (λ (a b : Bool). a && b) (lt-ltb low period above) rising,
  is ∙ append_assoc (pair_text (period, qty)) (codes ";") rest ∙ ap (λ (xs : List ℕ). pair_text (period, qty) ++ (codes ";" ++ xs)) other,
)

pairs-from : (most low period qty : ℕ) (text : List ℕ) → IsPeriod period → IsQuantity qty → low < period
    → (text ≡ pair_text (period, qty)) ⊎
    ((rest : List ℕ) × (text ≡ (pair_text (period, qty) ++ codes ";") ++ rest) × HasPairs most period rest) → HasPairs
    (suc most) low text
pairs-from most low period qty text p q above (inl is) =
    ((period, qty) ∷ [], omega arith, omega arith, (p, q, tt), ap (λ (b : Bool). b && true) (lt-ltb low period above), is)
pairs-from most low period qty text p q above (inr is) =
    let ps = is.2 in pairs-more most low period qty text is.0 ps.0 p q above is.1 ps.1 ps.2 ps.3 ps.4 ps.5

pairs-to : (most low : ℕ) (text : List ℕ) (ps : List Pair) → 0 < length ps → length ps ≤ suc most → ArePairs ps
    → is_increasing low ps ≡ true → text ≡ volumes_text ps → Begins most low text
pairs-to most low text [] some few are rising is = absurd (omega (arith, some))
pairs-to most low text (p ∷ []) some few are rising is =
    let above : low < p.0 = ltb-true low p.0 (and_parts (nat_lt low p.0) true rising).0 in
    let period = are.0 in let quantity = are.1 in
    (p.0, omega (arith, period.at_most), (p.1, omega (arith, quantity.at_most), (period, (quantity, (above, inl is)))))
pairs-to most low text (p ∷ q ∷ ps) some few are rising is =
    let parts = and_parts (nat_lt low p.0) (is_increasing p.0 (q ∷ ps)) rising in
    let above : low < p.0 = ltb-true low p.0 parts.0 in
    let period = are.0 in let quantity = are.1 in
    let front : text ≡ (pair_text p ++ codes ";") ++ volumes_text (q ∷ ps) = is ∙ sym
    (append_assoc (pair_text p) (codes ";") (volumes_text (q ∷ ps))) in
    let rest : HasPairs most p.0 (volumes_text (q ∷ ps)) = (q ∷ ps, omega arith, omega (arith, few), are.2, parts.1, refl) in (
      p.0,
      omega (arith, period.at_most),
      (p.1, omega (arith, quantity.at_most), (period, (quantity, (above, inr (volumes_text (q ∷ ps), front, rest))))),
    )

decided_pairs : (most low : ℕ) (text : List ℕ) → IsDecided (HasPairs most low text)
decided_pairs zero low text = inr (λ some. let more = some.1 in let few = some.2 in omega (arith, more, few))
decided_pairs (suc most) low text = decided_as
    (λ (is : Begins most low text). let with = is.2.2 in pairs-from most low is.0 is.2.0 text with.0 with.1.0 with.1.1.0 with.1.1.1)
    (λ (is : HasPairs (suc most) low text). pairs-to most low text is.0 is.1 is.2 is.3 is.4 is.5)
    (decided_below (BeginsAt most low text)
    (λ period. decided_below (BeginsWith most low text period)
    (λ qty. decided_both (decided_period period) (decided_both (decided_quantity qty) (decided_both (decided_less low period)
    (decided_either (decided_same text (pair_text (period, qty)))
    (decided_front (HasPairs most period) (decided_pairs most period) (pair_text (period, qty) ++ codes ";") text)))))
    (greatest_volume + 1)) (last_period + 1))

decided_volumes : (field : List ℕ) → IsDecided (Obeys AllVolumes field)
decided_volumes field = decided_as
    (λ is. (is.0, record { nonempty = is.1; fits = is.2; ranges = is.3; increasing = is.4 }, is.5))
    (λ is. let v = is.1 in (is.0, v.nonempty, v.fits, v.ranges, v.increasing, is.2))
    (decided_pairs last_period 0 field)

decided_volume : (field : List ℕ) → IsDecided (Obeys OneVolume field)
decided_volume field = decided_as
    (λ is. let with = is.2.2 in (is.0, is.2.0, with.0, with.1.0, with.1.1))
    (λ is. let period = is.2 in let quantity = is.3 in
    (is.0, omega (arith, period.at_most), (is.1, omega (arith, quantity.at_most), (is.2, (is.3, is.4)))))
    (decided_below (λ period. (qty : ℕ) × (qty < greatest_volume + 1) ×
    (IsPeriod period × (IsQuantity qty × (field ≡ volumes_text ((period, qty) ∷ [])))))
    (λ period. decided_below (λ qty. IsPeriod period × (IsQuantity qty × (field ≡ volumes_text ((period, qty) ∷ []))))
    (λ qty. decided_both (decided_period period)
    (decided_both (decided_quantity qty) (decided_same field (volumes_text ((period, qty) ∷ [])))))
    (greatest_volume + 1)) (last_period + 1))

-- ---- names and words

decided_name : (field : List ℕ) → IsDecided (IsName field)
decided_name field = decided_as (λ is. record { nonempty = is.0; fits = is.1.0; plain = is.1.1 }) (λ is. (is.nonempty, (is.fits, is.plain)))
    (decided_both (decided_less 0 (length field))
    (decided_both (decided_most (length field) longest_name) (decided_true (list_all is_name_byte field))))

decided_participant : (field : List ℕ) → IsDecided (IsParticipant field)
decided_participant field = decided_as (λ is. record { nonempty = is.0; fits = is.1.0; letters = is.1.1 })
    (λ is. (is.nonempty, (is.fits, is.letters)))
    (decided_both (decided_less 0 (length field))
    (decided_both (decided_most (length field) longest_participant) (decided_true (list_all is_letter_byte field))))

decided_periods : (field : List ℕ) → IsDecided (Obeys Periods field)
decided_periods field = decided_as (λ is. (is.0, is.2.0, is.2.1))
    (λ is. let short = short_day is.0 is.1 in (is.0, omega (arith, short), (is.1, is.2)))
    (decided_below (λ n. (is_day n ≡ true) × (field ≡ decimal n))
    (λ n. decided_both (decided_true (is_day n)) (decided_same field (decimal n))) (last_period + 1))

pub decided_rule : (rule : FieldRule) (field : List ℕ) → IsDecided (Obeys rule field)
decided_rule Empty field = decided_same field []
decided_rule (OneOf words) field = decided_true (list_any (bytes_eq field) words)
decided_rule Periods field = decided_periods field
decided_rule Code field = decided_participant field
decided_rule OrderName field = decided_name field
decided_rule LimitPrice field = decided_price field
decided_rule OneVolume field = decided_volume field
decided_rule AllVolumes field = decided_volumes field
decided_rule NameOrEmpty field = decided_either (decided_same field []) (decided_name field)
