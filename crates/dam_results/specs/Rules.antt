-- The rules of the nine fields of a record, and which field is the first to break its rule.
use Rattle.std.specs.Prelude.{◌≡◌, ℕ, ℤ, zero, suc, true, ◌==◌, ◌⊎◌, List, [], ◌∷◌, decimal, codes, if◌then◌else◌}
use Rattle.std.specs.List.{list_any}
use Rattle.std.specs.Str.{bytes_eq}
use Rattle.dam_book.specs.Price.{IsPrice}
use Rattle.dam_book.specs.Period.{IsPeriod}
use Rattle.dam_book.specs.Quantity.{IsQuantity}
use Rattle.dam_book.specs.Name.{IsName, IsParticipant}
use Rattle.dam_book.specs.Volumes.{Pair, IsVolumes}
use Rattle.dam_book.specs.Fields.{price_text, volumes_text}
use Rattle.dam_book.specs.Book.{is_day}
use Rattle.dam_results.specs.Records.{Fields, kind_field, form_field}

-- the rule of a field
pub data FieldRule : Type 0 where
  Empty : FieldRule
  OneOf : (words : List (List ℕ)) → FieldRule
  Periods : FieldRule
  Code : FieldRule
  OrderName : FieldRule
  LimitPrice : FieldRule
  OneVolume : FieldRule
  AllVolumes : FieldRule
  NameOrEmpty : FieldRule

-- the field holds it: no byte, one of these words, the number of a day's periods, a participant's
-- code, the name of an order, a price, one pair of a period and a volume, pairs of them, or a name
-- or no byte
abbrev pub Obeys : FieldRule → List ℕ → Type 0
Obeys Empty field = field ≡ []
Obeys (OneOf words) field = list_any (bytes_eq field) words ≡ true
Obeys Periods field = (periods : ℕ) × (is_day periods ≡ true) × (field ≡ decimal periods)
Obeys Code field = IsParticipant field
Obeys OrderName field = IsName field
Obeys LimitPrice field = (price : ℤ) × IsPrice price × (field ≡ price_text price)
Obeys OneVolume field =
    (period : ℕ) × (qty : ℕ) × IsPeriod period × IsQuantity qty
    × (field ≡ volumes_text ((period, qty) ∷ []))
Obeys AllVolumes field = (volumes : List Pair) × IsVolumes volumes × (field ≡ volumes_text volumes)
Obeys NameOrEmpty field = (field ≡ []) ⊎ IsName field

-- the field must be this word
abbrev pub word : List ℕ → FieldRule
word text = OneOf (text ∷ [])

-- the rules of the record of the day
abbrev pub day_rules : List FieldRule
day_rules =
    word (codes "day") ∷ Periods ∷ Empty ∷ Empty ∷ Empty ∷ Empty ∷ Empty ∷ Empty ∷ Empty ∷ []

-- the rules of the fields 4 to 9 of a submit of an hourly order
abbrev pub hour_rules : List FieldRule
hour_rules =
    word (codes "hour") ∷ OneOf (codes "buy" ∷ codes "sell" ∷ []) ∷ LimitPrice ∷ OneVolume ∷ Empty
    ∷ Empty ∷ []

-- the same for a block
abbrev pub block_rules : List FieldRule
block_rules =
    word (codes "block") ∷ OneOf (codes "buy" ∷ codes "sell" ∷ []) ∷ LimitPrice ∷ AllVolumes
    ∷ NameOrEmpty ∷ NameOrEmpty ∷ []

-- the same by the text of field 4; if that isn't the form of an order, it breaks the one rule
abbrev pub form_rules : List ℕ → List FieldRule
form_rules form =
    if bytes_eq form (codes "hour") then hour_rules
    else if bytes_eq form (codes "block") then block_rules
    else OneOf (codes "hour" ∷ codes "block" ∷ []) ∷ []

-- the rules of a submit whose fields from the fourth on have these
abbrev pub submit_of : List FieldRule → List FieldRule
submit_of rules = word (codes "submit") ∷ Code ∷ OrderName ∷ rules

-- the rules of the record of a submit, by its form in field 4
abbrev pub submit_rules : Fields → List FieldRule
submit_rules fields = submit_of (form_rules (form_field fields))

-- the rules of the record of an amend
abbrev pub amend_rules : List FieldRule
amend_rules =
    word (codes "amend") ∷ Code ∷ OrderName ∷ Empty ∷ Empty ∷ LimitPrice ∷ AllVolumes ∷ Empty
    ∷ Empty ∷ []

-- the rules of the record of a cancel
abbrev pub cancel_rules : List FieldRule
cancel_rules =
    word (codes "cancel") ∷ Code ∷ OrderName ∷ Empty ∷ Empty ∷ Empty ∷ Empty ∷ Empty ∷ Empty ∷ []

-- the rules of the record of the close
abbrev pub close_rules : List FieldRule
close_rules =
    word (codes "close") ∷ Empty ∷ Empty ∷ Empty ∷ Empty ∷ Empty ∷ Empty ∷ Empty ∷ Empty ∷ []

-- the rules of a later record than the first, by the kind in its first field; if that is no kind, it
-- breaks the one rule
abbrev pub command_rules : Fields → List FieldRule
command_rules fields =
    if bytes_eq (kind_field fields) (codes "submit") then submit_rules fields
    else if bytes_eq (kind_field fields) (codes "amend") then amend_rules
    else if bytes_eq (kind_field fields) (codes "cancel") then cancel_rules
    else if bytes_eq (kind_field fields) (codes "close") then close_rules
    else OneOf (codes "submit" ∷ codes "amend" ∷ codes "cancel" ∷ codes "close" ∷ []) ∷ []

-- the rules of the record of that number: the first is a day, the later ones are commands
abbrev pub rules_of : ℕ → Fields → List FieldRule
rules_of number fields = if number == 1 then day_rules else command_rules fields

-- the field of that number, counted from 1, breaks its rule, and each before it obeys its own
abbrev pub IsLeastBroken : List FieldRule → Fields → ℕ → Type 0
IsLeastBroken (rule ∷ rules) (field ∷ fields) (suc zero) = ¬ (Obeys rule field)
IsLeastBroken (rule ∷ rules) (field ∷ fields) (suc (suc n)) =
    Obeys rule field × IsLeastBroken rules fields (suc n)
IsLeastBroken rules fields n = ⊥
