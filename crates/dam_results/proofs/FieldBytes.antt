-- The fields of the records of days and of commands: which bytes they have, and how many.
use Rattle.std.proofs.Common.{◌≡◌, ℕ, ℤ, pos, negsuc, zero, suc, ◌+◌, ◌-◌, ◌*◌, ◌/◌, ◌%◌, ◌<◌, ◌≤◌, ◌^◌, nat_le, nat_lt, ◌&&◌}
use Rattle.std.proofs.Common.{Bool, true, cond, List, [], ◌∷◌, ◌++◌, length, Option, Some, None, refl, arith, length-append, codes}
use Rattle.std.specs.Prelude.{decimal, IfSome}
use Rattle.std.specs.Fmt.{signed_decimal}
use Rattle.std.specs.Int.Signed.{mag}
use Rattle.std.specs.List.{list_all}
use Rattle.std.proofs.lemmas.Bool.{le-leb}
use Rattle.std.proofs.lemmas.Bool.Decides.{nat_tests}
use Rattle.std.proofs.lemmas.Int.{ints}
use Rattle.std.proofs.lemmas.Fmt.{decimal_by_steps, length-decimal-le}
use Rattle.std.proofs.lemmas.List.Folds.{list_all-append}
use Rattle.dam_book.specs.Limits.{greatest_volume, last_period, longest_name, longest_participant}
use Rattle.dam_hour.specs.Limits.{greatest_price}
use Rattle.dam_book.specs.Name.{IsName, IsParticipant, is_letter_byte, is_name_byte}
use Rattle.dam_book.specs.Price.{IsPrice}
use Rattle.dam_book.specs.Period.{IsPeriod}
use Rattle.dam_book.specs.Quantity.{IsQuantity}
use Rattle.dam_book.specs.Volumes.{Pair, ArePairs, IsVolumes}
use Rattle.dam_book.specs.Fields.{price_text, pair_text, volumes_text}
use Rattle.dam_book.specs.Book.{is_day}
use Rattle.dam_book.specs.declared.order.Side.{Side}
use Rattle.dam_book.specs.declared.order.Side.TheVariants.{Buy, Sell}
use Rattle.dam_book.specs.declared.order.Order.TheVariants.{Hour, Block}
use Rattle.dam_book.specs.declared.command.Command.{Command}
use Rattle.dam_book.specs.declared.command.Command.TheVariants.{Submit, Amend, Cancel, Close}
use Rattle.dam_results.specs.Records.{Fields, record_of_day, record_of_command, side_word, optional_text}
use Rattle.dam_results.specs.Journal.{IsCommand}
use Rattle.dam_results.proofs.Rules.{short_day}

-- from the dash to the letter z: digits, letters, the colon and the semicolon are there, and no mark of the format is
abbrev pub is_field_byte : ℕ → Bool
is_field_byte b = nat_le 45 b && nat_le b 122

abbrev pub HasFieldBytes : List ℕ → Type 0
HasFieldBytes x = list_all is_field_byte x ≡ true

-- such bytes, and no more than `most` of them
pub record IsFieldText (most : ℕ) (x : List ℕ) : Type 0 where
  pub fits : length x ≤ most
  pub bytes : HasFieldBytes x

HasFieldBytes-append : (x y : List ℕ) → HasFieldBytes x → HasFieldBytes y → HasFieldBytes (x ++ y)
HasFieldBytes-append x y h g = rw (list_all-append, h, g) refl

HasFieldBytes-cons : (b : ℕ) (x : List ℕ) → 45 ≤ b → b ≤ 122 → HasFieldBytes x → HasFieldBytes (b ∷ x)
HasFieldBytes-cons b x low high h = let l = le-leb 45 b low in let u = le-leb b 122 high in rw (l, u, h) refl

empty : (most : ℕ) → IsFieldText most []
empty most = record { fits = omega arith; bytes = refl }

-- numbers

digits : (n : ℕ) → n < 2 ^ 64 → HasFieldBytes (decimal n)
digits n small = decimal_by_steps (λ m ds. HasFieldBytes ds)
    (λ m h. HasFieldBytes-cons (48 + m) [] (omega arith) (omega arith) refl)
    (λ m ds h g. HasFieldBytes-append ds ((48 + m % 10) ∷ []) g (HasFieldBytes-cons (48 + m % 10) [] (omega arith) (omega arith) refl))
    n small

signed_digits : (z : ℤ) → mag z < 2 ^ 63 → HasFieldBytes (signed_decimal z)
signed_digits (pos n) small = digits n (omega (arith, ints))
signed_digits (negsuc n) small = HasFieldBytes-cons 45 (decimal (suc n)) (omega arith) (omega arith) (digits (suc n) (omega (arith, ints)))

-- how many digits a number has, if it has at most `most`
abbrev digit_count : ℕ → ℕ → ℕ
digit_count zero n = zero
digit_count (suc most) n = cond (nat_lt n 10) 1 (suc (digit_count most (n / 10)))

abbrev price_digits : ℕ
price_digits = digit_count 18 greatest_price

-- a dash, and the digits
abbrev price_width : ℕ
price_width = suc price_digits

price : (z : ℤ) → IsPrice z → IsFieldText price_width (price_text z)
price (pos n) h =
    let fits : length (decimal n) ≤ price_digits =
    length-decimal-le price_digits n (omega arith) (omega (arith, ints)) (omega (arith, ints)) in
    record { fits = omega arith; bytes = signed_digits (pos n) (omega (arith, ints)) }
price (negsuc n) h =
    let fits : length (decimal (suc n)) ≤ price_digits =
    length-decimal-le price_digits (suc n) (omega arith) (omega (arith, ints)) (omega (arith, ints)) in
    record { fits = omega arith; bytes = signed_digits (negsuc n) (omega (arith, ints)) }

abbrev period_digits : ℕ
period_digits = digit_count 18 last_period

abbrev volume_digits : ℕ
volume_digits = digit_count 18 greatest_volume

-- the digits of a period, a colon, and those of a volume
abbrev pair_width : ℕ
pair_width = period_digits + suc volume_digits

pair : (p : Pair) → IsPeriod p.0 → IsQuantity p.1 → IsFieldText pair_width (pair_text p)
pair p h g =
    let period : length (decimal p.0) ≤ period_digits = length-decimal-le period_digits p.0 (omega arith) (omega arith) (omega arith) in
    let qty : length (decimal p.1) ≤ volume_digits = length-decimal-le volume_digits p.1 (omega arith) (omega arith) (omega arith) in
    record {
      fits = omega (arith, length-append (decimal p.0) (58 ∷ decimal p.1));
      bytes = HasFieldBytes-append (decimal p.0) (58 ∷ decimal p.1) (digits p.0 (omega arith))
          (HasFieldBytes-cons 58 (decimal p.1) (omega arith) (omega arith) (digits p.1 (omega arith)));
    }

volumes_bytes : (ps : List Pair) → ArePairs ps → HasFieldBytes (volumes_text ps)
volumes_bytes [] h = refl
volumes_bytes (p ∷ []) h = (pair p h.0 h.1).bytes
volumes_bytes (p ∷ q ∷ ps) h =
    HasFieldBytes-append (pair_text p) (59 ∷ volumes_text (q ∷ ps)) (pair p h.0 h.1).bytes
    (HasFieldBytes-cons 59 (volumes_text (q ∷ ps)) (omega arith) (omega arith) (volumes_bytes (q ∷ ps) h.2))

volumes_length : (ps : List Pair) → 0 < length ps → ArePairs ps → length (volumes_text ps) + 1 ≤ suc pair_width * length ps
volumes_length [] some h = absurd (omega arith)
volumes_length (p ∷ []) some h = let first = (pair p h.0 h.1).fits in omega arith
volumes_length (p ∷ q ∷ ps) some h =
    let first = (pair p h.0 h.1).fits in
    let more = volumes_length (q ∷ ps) (omega arith) h.2 in
    omega (arith, length-append (pair_text p) (59 ∷ volumes_text (q ∷ ps)))

-- a pair for each period of the longest day, and a semicolon between two pairs
abbrev volumes_width : ℕ
volumes_width = suc pair_width * last_period - 1

volumes : (ps : List Pair) → IsVolumes ps → IsFieldText volumes_width (volumes_text ps)
volumes ps h = let long = volumes_length ps h.nonempty h.ranges in let few = h.fits in
    record { fits = omega arith; bytes = volumes_bytes ps h.ranges }

-- names

letters : (x : List ℕ) → list_all is_letter_byte x ≡ true → HasFieldBytes x
letters [] h = refl
letters (b ∷ x) h =
    let low : 45 ≤ b = grind (arith, nat_tests) in
    let high : b ≤ 122 = grind (arith, nat_tests) in
    HasFieldBytes-cons b x low high (letters x (grind (arith, nat_tests)))

name_bytes : (x : List ℕ) → list_all is_name_byte x ≡ true → HasFieldBytes x
name_bytes [] h = refl
name_bytes (b ∷ x) h =
    let low : 45 ≤ b = grind (arith, nat_tests) in
    let high : b ≤ 122 = grind (arith, nat_tests) in
    HasFieldBytes-cons b x low high (name_bytes x (grind (arith, nat_tests)))

participant : (x : List ℕ) → IsParticipant x → IsFieldText longest_participant x
participant x h = record { fits = h.fits; bytes = letters x h.letters }

name : (x : List ℕ) → IsName x → IsFieldText longest_name x
name x h = record { fits = h.fits; bytes = name_bytes x h.plain }

optional_name : (o : Option (List ℕ)) → IfSome o IsName → IsFieldText longest_name (optional_text o)
optional_name None h = empty longest_name
optional_name (Some x) h = name x h

side : (s : Side) → IsFieldText 4 (side_word s)
side Buy = record { fits = omega arith; bytes = refl }
side Sell = record { fits = omega arith; bytes = refl }

-- records: field by field, within these lengths
unfoldable pub limits : List ℕ
limits = 6 ∷ longest_participant ∷ longest_name ∷ 5 ∷ 4 ∷ price_width ∷ volumes_width ∷ longest_name ∷ longest_name ∷ []

abbrev pub AreFields : List ℕ → Fields → Type 0
AreFields [] [] = Unit {0}
AreFields [] (x ∷ xs) = ⊥
AreFields (n ∷ ns) [] = ⊥
AreFields (n ∷ ns) (x ∷ xs) = IsFieldText n x × AreFields ns xs

pub day_fields : (periods : ℕ) → is_day periods ≡ true → AreFields limits (record_of_day periods)
unfolding limits
day_fields periods day =
    let small = short_day periods day in
    let few : length (decimal periods) ≤ period_digits =
    length-decimal-le period_digits periods (omega arith) (omega arith) (omega arith) in
    let word : IsFieldText 6 (codes "day") = record { fits = omega arith; bytes = refl } in
    let number : IsFieldText longest_participant (decimal periods) = record { fits = omega arith; bytes = digits periods (omega arith) } in
    (word, (number, (empty _, (empty _, (empty _, (empty _, (empty _, (empty _, (empty _, tt)))))))))

pub command_fields : (command : Command) → IsCommand command → AreFields limits (record_of_command command)
unfolding limits
command_fields (Submit who text (Hour o)) h =
    let word : IsFieldText 6 (codes "submit") = record { fits = omega arith; bytes = refl } in
    let form : IsFieldText 5 (codes "hour") = record { fits = omega arith; bytes = refl } in
    let one = pair (o.period, o.qty) h.2.period h.2.qty in
    let qty : IsFieldText volumes_width (volumes_text ((o.period, o.qty) ∷ [])) =
    record { fits = let f = one.fits in omega arith; bytes = one.bytes } in
    (word, (participant who h.0, (name text h.1, (form, (side o.side, (price o.price h.2.price, (qty, (empty _, (empty _, tt)))))))))
command_fields (Submit who text (Block o)) h =
    let word : IsFieldText 6 (codes "submit") = record { fits = omega arith; bytes = refl } in
    let form : IsFieldText 5 (codes "block") = record { fits = omega arith; bytes = refl } in
    let pairs = volumes o.volumes h.2.volumes in
    let parent = optional_name o.parent h.2.parent in
    let group = optional_name o.group h.2.group in
    (word, (participant who h.0, (name text h.1, (form, (side o.side, (price o.price h.2.price, (pairs, (parent, (group, tt)))))))))
command_fields (Amend who text cents pairs) h =
    let word : IsFieldText 6 (codes "amend") = record { fits = omega arith; bytes = refl } in
    (word, (participant who h.0, (name text h.1, (empty _, (empty _, (price cents h.2, (volumes pairs h.3, (empty _, (empty _, tt)))))))))
command_fields (Cancel who text) h =
    let word : IsFieldText 6 (codes "cancel") = record { fits = omega arith; bytes = refl } in
    (word, (participant who h.0, (name text h.1, (empty _, (empty _, (empty _, (empty _, (empty _, (empty _, tt)))))))))
command_fields Close h =
    let word : IsFieldText 6 (codes "close") = record { fits = omega arith; bytes = refl } in
    (word, (empty _, (empty _, (empty _, (empty _, (empty _, (empty _, (empty _, (empty _, tt)))))))))
