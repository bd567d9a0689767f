-- The records that the reader finds in a text that spells them.
use Rattle.std.proofs.Common.{◌≡◌, ℕ, zero, suc, ◌+◌, ◌≤◌, ◌==◌, false, List, [], ◌∷◌, ◌++◌, length, Some, refl, sym, ap, ◌∙◌, arith}
use Rattle.std.proofs.Common.{append_assoc, append-nil, length-append}
use Rattle.std.specs.List.{list_any}
use Rattle.std.proofs.lemmas.Bool.Decides.{nat_tests}
use Rattle.csv.specs.Machine.{next_record}
use Rattle.csv.specs.Reading.{default_config, records_from}
use Rattle.csv.specs.Writing.{default_writer, escaped, needs_byte}
use Rattle.csv.specs.declared.parser.State.{State}
use Rattle.csv.specs.declared.parser.State.TheVariants as st
use Rattle.csv.proofs.RoundTrip.{plain-run, quoted-run, start-same}
use Rattle.dam_results.specs.Records.{Fields, records_of}
use Rattle.dam_results.specs.Spelling.{IsLineEnd, LineFeed, CarriageReturn, Both, IsSpelledField, Bare, Quoted, IsSpelledRecord, One, More}
use Rattle.dam_results.specs.Spelling.{IsSpelled, Nothing, EmptyLine, Record, LastRecord}

-- no comma, double quote, CR or LF
abbrev pub IsPlain : List ℕ → Type 0
IsPlain x = list_any (needs_byte default_writer) x ≡ false

abbrev pub ArePlain : Fields → Type 0
ArePlain [] = Unit {0}
ArePlain (x ∷ xs) = IsPlain x × ArePlain xs

-- no mark of the format
record IsOther (b : ℕ) : Type 0 where
  comma : (b == 44) ≡ false
  quote : (b == 34) ≡ false
  return : (b == 13) ≡ false
  feed : (b == 10) ≡ false

first_other : (b : ℕ) (x : List ℕ) → IsPlain (b ∷ x) → IsOther b
first_other b x h = record {
  comma = grind (arith, nat_tests);
  quote = grind (arith, nat_tests);
  return = grind (arith, nat_tests);
  feed =
      grind (arith, nat_tests);
}

rest_plain : (b : ℕ) (x : List ℕ) → IsPlain (b ∷ x) → IsPlain x
rest_plain b x h = let o = first_other b x h in rw (o.comma, o.quote, o.return, o.feed) at h

escaped_plain : (x : List ℕ) → IsPlain x → escaped default_writer x ≡ x
unfolding escaped
escaped_plain [] h = refl
escaped_plain (b ∷ x) h = let o = first_other b x h in rw o.quote (ap (λ (bytes : List ℕ). b ∷ bytes) (escaped_plain x (rest_plain b x h)))

-- the text after a record, and the state and the text after the record's end
data Stop : List ℕ → State → List ℕ → Type 0 where
  Over : Stop [] st.StartRecord []
  Feed : (rest : List ℕ) → Stop (10 ∷ rest) st.StartRecord rest
  Return : (rest : List ℕ) → Stop (13 ∷ rest) st.AfterCr rest

-- the last field of a record, by the state after its bytes
stops-in_field : (fields : Fields) (x : List ℕ) (text : List ℕ) (s : State) (rest : List ℕ) → Stop text s rest
    → next_record default_config st.InField fields x text ≡ Some (fields ++ x ∷ [], s, rest)
unfolding next_record
stops-in_field fields x _ _ _ Over = refl
stops-in_field fields x _ _ _ (Feed rest) = refl
stops-in_field fields x _ _ _ (Return rest) = refl

stops-after_quote : (fields : Fields) (x : List ℕ) (text : List ℕ) (s : State) (rest : List ℕ) → Stop text s rest
    → next_record default_config st.AfterQuote fields x text ≡ Some (fields ++ x ∷ [], s, rest)
unfolding next_record
stops-after_quote fields x _ _ _ Over = refl
stops-after_quote fields x _ _ _ (Feed rest) = refl
stops-after_quote fields x _ _ _ (Return rest) = refl

stops-start : (fields : Fields) (text : List ℕ) (s : State) (rest : List ℕ) → Stop text s rest
    → next_record default_config st.StartField fields [] text ≡ Some (fields ++ [] ∷ [], s, rest)
unfolding next_record
stops-start fields _ _ _ Over = refl
stops-start fields _ _ _ (Feed rest) = refl
stops-start fields _ _ _ (Return rest) = refl

-- a bare field with a byte in it
bare_run : (fields : Fields) (b : ℕ) (x tail : List ℕ) → IsPlain (b ∷ x)
    → next_record default_config st.StartField fields [] ((b ∷ x) ++ tail) ≡ next_record default_config st.InField fields (b ∷ x) tail
bare_run fields b x tail h = let o = first_other b x h in start-same fields [] b (x ++ tail) o.quote ∙ plain-run fields [] (b ∷ x) tail h

quoted_run : (fields : Fields) (x tail : List ℕ) → IsPlain x
    → next_record default_config st.StartField fields []
    ((34 ∷ (x ++ 34 ∷ [])) ++ tail) ≡ next_record default_config st.AfterQuote fields x tail
unfolding next_record
quoted_run fields x tail h =
    let bytes : (x ++ 34 ∷ []) ++ tail ≡ escaped default_writer x ++ 34 ∷ tail = append_assoc x (34 ∷ []) tail ∙ ap
    (λ (y : List ℕ). y ++ 34 ∷ tail) (sym (escaped_plain x h)) in
    rw bytes (quoted-run fields [] x tail)

-- the last field
last_field : (x text : List ℕ) → IsSpelledField x text → IsPlain x → (fields : Fields) (tail : List ℕ) (s : State) (rest : List ℕ)
    → Stop tail s rest
    → next_record default_config st.StartField fields [] (text ++ tail) ≡ Some (fields ++ x ∷ [], s, rest)
last_field _ _ (Bare []) h fields tail s rest stop = stops-start fields tail s rest stop
last_field _ _ (Bare (b ∷ x)) h fields tail s rest stop = bare_run fields b x tail h ∙ stops-in_field fields (b ∷ x) tail s rest stop
last_field _ _ (Quoted x) h fields tail s rest stop = quoted_run fields x tail h ∙ stops-after_quote fields x tail s rest stop

-- a field with a comma after it
comma-in_field : (fields : Fields) (x tail : List ℕ) → next_record default_config st.InField fields x
    (44 ∷ tail) ≡ next_record default_config st.StartField (fields ++ x ∷ []) [] tail
unfolding next_record
comma-in_field fields x tail = refl

comma-after_quote : (fields : Fields) (x tail : List ℕ) → next_record default_config st.AfterQuote fields x
    (44 ∷ tail) ≡ next_record default_config st.StartField (fields ++ x ∷ []) [] tail
unfolding next_record
comma-after_quote fields x tail = refl

comma-start : (fields : Fields) (tail : List ℕ) → next_record default_config st.StartField fields []
    (44 ∷ tail) ≡ next_record default_config st.StartField (fields ++ [] ∷ []) [] tail
unfolding next_record
comma-start fields tail = refl

one_field : (x text : List ℕ) → IsSpelledField x text → IsPlain x → (fields : Fields) (tail : List ℕ)
    → next_record default_config st.StartField fields [] (text ++ 44 ∷ tail) ≡ next_record default_config st.StartField
    (fields ++ x ∷ []) [] tail
one_field _ _ (Bare []) h fields tail = comma-start fields tail
one_field _ _ (Bare (b ∷ x)) h fields tail = bare_run fields b x (44 ∷ tail) h ∙ comma-in_field fields (b ∷ x) tail
one_field _ _ (Quoted x) h fields tail = quoted_run fields x (44 ∷ tail) h ∙ comma-after_quote fields x tail

-- all fields of a record
all_fields : (row : Fields) (line : List ℕ) → IsSpelledRecord row line → ArePlain row → (fields : Fields) (tail : List ℕ) (s : State)
    (rest : List ℕ) → Stop tail s rest
    → next_record default_config st.StartField fields [] (line ++ tail) ≡ Some (fields ++ row, s, rest)
all_fields _ _ (One x text f) h fields tail s rest stop = last_field x text f h.0 fields tail s rest stop
all_fields _ _ (More x text xs others f g) h fields tail s rest stop =
    rw append_assoc (one_field x text f h.0 fields (others ++ tail) ∙ all_fields xs others g h.1 (fields ++ x ∷ []) tail s rest stop
    ∙ rw append_assoc refl)

-- the states between two records
data Between : State → Type 0 where
  Fresh : Between st.StartRecord
  Returned : Between st.AfterCr

-- a byte that ends no line starts a record as it starts a field
starts : (s : State) → Between s → (c : ℕ) (tail : List ℕ) → (c == 13) ≡ false → (c == 10) ≡ false
    → next_record default_config s [] [] (c ∷ tail) ≡ next_record default_config st.StartField [] [] (c ∷ tail)
unfolding next_record
starts _ Fresh c tail r n = rw (r, n) refl
starts _ Returned c tail r n = rw (r, n) refl

-- so does a record of two fields or more
starts_row : (s : State) → Between s → (x text : List ℕ) → IsSpelledField x text → IsPlain x → (tail : List ℕ)
    → next_record default_config s [] [] (text ++ 44 ∷ tail) ≡ next_record default_config st.StartField [] [] (text ++ 44 ∷ tail)
starts_row s b _ _ (Bare []) h tail = starts s b 44 tail refl refl
starts_row s b _ _ (Bare (c ∷ x)) h tail = let o = first_other c x h in starts s b c (x ++ 44 ∷ tail) o.return o.feed
starts_row s b _ _ (Quoted x) h tail = starts s b 34 _ refl refl

one_record : (row : Fields) (line : List ℕ) → IsSpelledRecord row line → 2 ≤ length row → ArePlain row → (at : State) → Between at →
    (tail : List ℕ) (s : State) (rest : List ℕ) → Stop tail s rest
    → next_record default_config at [] [] (line ++ tail) ≡ Some (row, s, rest)
one_record _ _ (One x text f) two h at b tail s rest stop = absurd (omega arith)
one_record _ _ (More x text xs others f g) two h at b tail s rest stop =
    let bytes : (text ++ 44 ∷ others) ++ tail ≡ text ++ 44 ∷ (others ++ tail) = append_assoc text (44 ∷ others) tail in
    let all = all_fields (x ∷ xs) (text ++ 44 ∷ others) (More x text xs others f g) h [] tail s rest stop in
    rw bytes (starts_row at b x text f h.0 (others ++ tail)) ∙ all

-- an empty line between two records
blank : (s : State) → Between s → (end : List ℕ) → IsLineEnd end → (rest : List ℕ) → next_record default_config s [] []
    (end ++ rest) ≡ next_record default_config st.StartRecord [] [] rest
unfolding next_record
blank _ Fresh _ LineFeed rest = refl
blank _ Fresh _ CarriageReturn rest = refl
blank _ Fresh _ Both rest = refl
blank _ Returned _ LineFeed rest = refl
blank _ Returned _ CarriageReturn rest = refl
blank _ Returned _ Both rest = refl

pub blank_from : (n : ℕ) (s t : State) (xs ys : List ℕ) → next_record default_config s [] [] xs ≡ next_record default_config t [] [] ys
    → records_from default_config n s xs ≡ records_from default_config n t ys
unfolding records_from
blank_from zero s t xs ys e = refl
blank_from (suc n) s t xs ys e = rw e refl

one_from : (n : ℕ) (s : State) (xs : List ℕ) (row : Fields) (t : State) (ys : List ℕ) → next_record default_config s [] [] xs ≡ Some
    (row, t, ys)
    → records_from default_config (suc n) s xs ≡ row ∷ records_from default_config n t ys
unfolding records_from
one_from n s xs row t ys e = rw e refl

none_from : (n : ℕ) (s : State) → Between s → records_from default_config n s [] ≡ []
unfolding records_from next_record
none_from zero s b = refl
none_from (suc n) _ Fresh = refl
none_from (suc n) _ Returned = refl

-- the LF of CR LF
feed_from : (n : ℕ) (rest : List ℕ) → records_from default_config n st.AfterCr
    (10 ∷ rest) ≡ records_from default_config n st.StartRecord rest
feed_from n rest = blank_from n st.AfterCr st.StartRecord (10 ∷ rest) rest (blank st.AfterCr Returned (10 ∷ []) LineFeed rest)

-- a record of two plain fields at least
pub record IsPlainRow (row : Fields) : Type 0 where
  pub two : 2 ≤ length row
  pub plain : ArePlain row

abbrev pub ArePlainRows : List Fields → Type 0
ArePlainRows [] = Unit {0}
ArePlainRows (row ∷ rows) = IsPlainRow row × ArePlainRows rows

-- the records after one that ends there
record_from : (row : Fields) (line : List ℕ) → IsSpelledRecord row line → IsPlainRow row → (s : State) → Between s → (end : List ℕ)
    → IsLineEnd end → (n : ℕ) (rest : List ℕ) (rows : List Fields)
    → ((t : State) → Between t → records_from default_config n t rest ≡ rows) → records_from default_config (suc n) s
    (line ++ (end ++ rest)) ≡ row ∷ rows
record_from row line h p s b _ LineFeed n rest rows more =
    one_from n s _ row st.StartRecord rest (one_record row line h p.two p.plain s b (10 ∷ rest) st.StartRecord rest (Feed rest))
    ∙ ap (λ (rs : List Fields). row ∷ rs) (more st.StartRecord Fresh)
record_from row line h p s b _ CarriageReturn n rest rows more =
    one_from n s _ row st.AfterCr rest (one_record row line h p.two p.plain s b (13 ∷ rest) st.AfterCr rest (Return rest))
    ∙ ap (λ (rs : List Fields). row ∷ rs) (more st.AfterCr Returned)
record_from row line h p s b _ Both n rest rows more =
    one_from n s _ row st.AfterCr (10 ∷ rest)
    (one_record row line h p.two p.plain s b (13 ∷ 10 ∷ rest) st.AfterCr (10 ∷ rest) (Return (10 ∷ rest)))
    ∙ ap (λ (rs : List Fields). row ∷ rs) (feed_from n rest ∙ more st.StartRecord Fresh)

spelled_from : (rows : List Fields) (text : List ℕ) → IsSpelled rows text → ArePlainRows rows → (n : ℕ) → length rows ≤ n → (s : State)
    → Between s → records_from default_config n s text ≡ rows
spelled_from _ _ Nothing p n turns s b = none_from n s b
spelled_from _ _ (EmptyLine rows end rest e h) p n turns s b =
    blank_from n s st.StartRecord (end ++ rest) rest (blank s b end e rest) ∙ spelled_from rows rest h p n turns st.StartRecord Fresh
spelled_from _ _ (Record row rows line end rest l e h) p zero turns s b = absurd (omega arith)
spelled_from _ _ (Record row rows line end rest l e h) p (suc n) turns s b =
    record_from row line l p.0 s b end e n rest rows (λ t c. spelled_from rows rest h p.1 n (omega arith) t c)
spelled_from _ _ (LastRecord row line l) p zero turns s b = absurd (omega arith)
spelled_from _ _ (LastRecord row line l) p (suc n) turns s b =
    let last : next_record default_config s [] [] line ≡ Some (row, st.StartRecord, []) = rw append-nil at
    (one_record row line l p.0.two p.0.plain s b [] st.StartRecord [] Over) in
    one_from n s line row st.StartRecord [] last ∙ ap (λ (rs : List Fields). row ∷ rs) (none_from n st.StartRecord Fresh)

-- a text has as many bytes as records, and more
bytes_of_row : (row : Fields) (line : List ℕ) → IsSpelledRecord row line → 2 ≤ length row → 1 ≤ length line
bytes_of_row _ _ (One x text f) two = absurd (omega arith)
bytes_of_row _ _ (More x text xs others f g) two = omega (arith, length-append text (44 ∷ others))

bytes_of : (rows : List Fields) (text : List ℕ) → IsSpelled rows text → ArePlainRows rows → length rows ≤ length text
bytes_of _ _ Nothing p = omega arith
bytes_of _ _ (EmptyLine rows end rest e h) p = let more = bytes_of rows rest h p in omega (arith, length-append end rest)
bytes_of _ _ (Record row rows line end rest l e h) p =
    let more = bytes_of rows rest h p.1 in
    let first = bytes_of_row row line l p.0.two in
    omega (arith, length-append line (end ++ rest), length-append end rest)
bytes_of _ _ (LastRecord row line l) p = bytes_of_row row line l p.0.two

-- the reader finds just the records that the text spells
pub records_of-spelled : (rows : List Fields) (text : List ℕ) → IsSpelled rows text → ArePlainRows rows → records_of text ≡ rows
records_of-spelled rows text h p = let few = bytes_of rows text h p in spelled_from rows text h p (length text + 1)
    (omega arith) st.StartRecord Fresh
