-- The answer of the number parser to an option's text is the number that the definition reads of
-- it.
use Rattle.std.proofs.Common.{◌≡◌, ◌∙◌, ◌<◌, ◌≤◌, ◌^◌, ◌&&◌, ℕ, Bool, cond, true, false, List, [], ◌∷◌, length, Option, Some, None, Result}
use Rattle.std.proofs.Common.{Ok, Err, refl, sym, ap, arith, nat_lt, nat_le}
use Rattle.std.specs.Prelude.{option_and_then, unwrap_or}
use Rattle.std.specs.List.{list_all}
use Rattle.std.specs.Result.{result_ok}
use Rattle.std.specs.Char.{digit_value}
use Rattle.std.specs.Str.Parse.{AllDigits, ExplainsUnsignedError, HasUnsignedDigitsIfOk, ParsesUnsigned, without_leading_plus}
use Rattle.std.specs.declared.num.ParseIntError.{ParseIntError}
use Rattle.std.proofs.lemmas.Bool.{and_from, and_parts, and_right, le-leb, leb-true, lt-leb, lt-ltb, ltb-true}
use Rattle.clap.specs.Words.{ReadsOne, Text, one_text, rows_of}
use Rattle.clap.specs.declared.parser.matches.Found.{Found}
use Rattle.clap.proofs.WalkLemmas.{one_text-rows}
use Rattle.dam_line.specs.Line.{OptionTerms, is_number, number_in, number_given, read_number}

abbrev is_digit : ℕ → Bool
is_digit digit = nat_lt (digit_value digit) 10

pub digits_pass : (ds : List ℕ) → AllDigits 10 ds → list_all is_digit ds ≡ true
digits_pass [] all = refl
digits_pass (d ∷ ds) all = and_from _ _ (lt-ltb _ _ all.0) (digits_pass ds all.1)

digits_are : (ds : List ℕ) → list_all is_digit ds ≡ true → AllDigits 10 ds
digits_are [] pass = tt
digits_are (d ∷ ds) pass =
    let both = and_parts _ _ pass in
    (ltb-true _ _ both.0, digits_are ds both.1)

-- the option's number by the number that its text is read as
abbrev pub kept : OptionTerms → Option ℕ → ℕ
kept option None = option.default
kept option (Some n) = cond (nat_le option.least n && nat_le n option.most) n option.default

same_choice : (b : Bool) (n d : ℕ) → unwrap_or (cond b (Some n) None) d ≡ cond b n d
same_choice true n d = refl
same_choice false n d = refl

-- the answers of a parse of a `u32`
abbrev Gives : Text → Result ℕ ParseIntError → Type 0
Gives text r = ParsesUnsigned 32 10 text r × ExplainsUnsignedError 10 text r × HasUnsignedDigitsIfOk text r

module _ (option : OptionTerms) (small : option.most < 2 ^ 32) where
  -- a text that is read is the number, and one that isn't read is none in the range
  read : (text : Text) (r : Result ℕ ParseIntError) → ParsesUnsigned 32 10 text r → unwrap_or
      (read_number option text) option.default ≡ kept option (result_ok r)
  read text (Ok n) parses =
      let is : is_number text ≡ true = and_from _ _ (lt-ltb _ _ parses.0.0.0) (digits_pass _ parses.0.0.1) in
      rw (parses.1, is) (same_choice (nat_le option.least (number_in text) && nat_le (number_in text) option.most)
      (number_in text) option.default)
  read text (Err e) parses = go _ refl
    where
      go : (b : Bool) → (is_number text && (nat_le option.least (number_in text) && nat_le (number_in text) option.most)) ≡ b
          → unwrap_or (cond b (Some (number_in text)) None) option.default ≡ option.default
      go false is = refl
      go true is =
          let parts = and_parts (is_number text) (nat_le option.least (number_in text) && nat_le (number_in text) option.most) is in
          let numeral = and_parts (nat_lt 0 (length (without_leading_plus text))) (list_all is_digit (without_leading_plus text)) parts.0 in
          let range = and_parts (nat_le option.least (number_in text)) (nat_le (number_in text) option.most) parts.1 in
          let most : number_in text ≤ option.most = leb-true _ _ range.1 in
          absurd (parses ((ltb-true _ _ numeral.0, digits_are _ numeral.1), omega arith))

  read_one : (text : Text) (number : Option ℕ) → ReadsOne Gives text number → unwrap_or
      (read_number option text) option.default ≡ kept option number
  read_one text (Some n) reads = read text (Ok n) reads.0
  read_one text None reads = read text (Err reads.0) reads.1.0

  -- the option's number, by the number that the matches' text is read as
  pub given : (found : Found) (number : Option ℕ) → (one_text found option.name ≡ None → number ≡ None)
      → ((text : Text) → one_text found option.name ≡ Some text → ReadsOne Gives text number) → number_given option
      (rows_of found) ≡ kept option number
  given found number none some =
      ap (λ o. unwrap_or (option_and_then (read_number option) o) option.default) (sym (one_text-rows found option.name)) ∙ go
      (one_text found option.name) none some
    where
      go : (o : Option Text) → (o ≡ None → number ≡ None) → ((text : Text) → o ≡ Some text → ReadsOne Gives text number)
          → unwrap_or (option_and_then (read_number option) o) option.default ≡ kept option number
      go None none some = ap (kept option) (sym (none refl))
      go (Some text) none some = read_one text number (some text refl)

pub kept_within : (option : OptionTerms) (n : ℕ) → option.least ≤ n → n ≤ option.most → kept option (Some n) ≡ n
kept_within option n least most = rw (le-leb _ _ least, le-leb _ _ most) refl

pub kept_below : (option : OptionTerms) (n : ℕ) → n < option.least → kept option (Some n) ≡ option.default
kept_below option n below = rw (lt-leb _ _ below) refl

pub kept_above : (option : OptionTerms) (n : ℕ) → option.most < n → kept option (Some n) ≡ option.default
kept_above option n above = rw (and_right (nat_le option.least n) _ (lt-leb _ _ above)) refl
