-- The parts of a field: the bytes up to the first that ends them, and the state after it.
use Rattle.std.proofs.Common.{◌≡◌, ◌==◌, ◌||◌, ℕ, suc, ◌+◌, ◌-◌, ◌≤◌, ◌<◌, Bool, true, false, cond, not, List, [], ◌∷◌, ◌++◌, length, take, drop}
use Rattle.std.proofs.Common.{get_or, drop-cons, Some, None, nat_lt, refl, sym, ap, ◌∙◌, arith, add-one, length-drop}
use Rattle.std.specs.List.{position, position_or_len}
use Rattle.std.proofs.lemmas.Bool.{ne_eqb}
use Rattle.std.proofs.lemmas.Bool.Decides.{nat_tests}
use Rattle.std.proofs.lemmas.List.{take-append-drop, take_all, drop_all}
use Rattle.std.proofs.lemmas.List.Sums.{passes_at_first}
use Rattle.csv.specs.Machine.{Runs, step, next_record, is_end, ends_at_end, fields_after, field_after}
use Rattle.csv.specs.Reading.{default_config}
use Rattle.csv.specs.Writing.{comma, quote_mark}
use Rattle.csv.specs.declared.parser.State.{State}
use Rattle.csv.specs.declared.parser.State.TheVariants as st
use Rattle.csv.specs.declared.parser.Action.{Action}
use Rattle.csv.specs.declared.parser.Action.TheVariants as act
use Rattle.csv.proofs.ReadFacts.{run-copies}
use Rattle.csv.proofs.RoundTrip.{after-quote-same, start-same}
use Rattle.dam_results.specs.Records.{Fields}
use Rattle.dam_results.specs.inside.Reader.{IsUnquoted, ends_line, ends_field, goes_on_in, EndsField, Continues}

-- the first byte that passes a test is at that place
pub record IsFirst (p : ℕ → Bool) (xs : List ℕ) (end : ℕ) : Type 0 where
  pub at : end ≡ position_or_len p xs
  pub within : end < length xs

found : (p : ℕ → Bool) (xs : List ℕ) (end : ℕ) (b : Bool) → nat_lt (position_or_len p xs) (length xs) ≡ b
    → Some end ≡ cond b (Some (position_or_len p xs)) None → IsFirst p xs end
found p xs end true is e = record { at = cc; within = grind (arith, nat_tests, is, e) }
found p xs end false is e = absurd cc

pub first-of : (p : ℕ → Bool) (xs : List ℕ) (end : ℕ) → Some end ≡ position p xs → IsFirst p xs end
first-of p xs end e = found p xs end _ refl e

past : (p : ℕ → Bool) (xs : List ℕ) (b : Bool) → nat_lt (position_or_len p xs) (length xs) ≡ b
    → None ≡ cond b (Some (position_or_len p xs)) None → length xs ≤ position_or_len p xs
past p xs true is e = absurd cc
past p xs false is e = grind (arith, nat_tests)

pub none-of : (p : ℕ → Bool) (xs : List ℕ) → None ≡ position p xs → length xs ≤ position_or_len p xs
none-of p xs e = past p xs _ refl e

-- bytes that don't pass the test only join the field
record JoinsBut (p : ℕ → Bool) (s : State) : Type 0 where
  joins : (b : ℕ) → p b ≡ false → step default_config s b ≡ (s, act.Copy)

runs : (p : ℕ → Bool) (s : State) → JoinsBut p s → (xs : List ℕ) → Runs default_config s (take (position_or_len p xs) xs)
unfolding Runs
runs p s h [] = tt
runs p s h (b ∷ xs) =
    let n = position_or_len p xs in
    let one : 1 + n ≡ suc n = omega arith in
    elim (p b) as (λ (t : Bool). p b ≡ t → Runs default_config s (take (cond (not t) (1 + n) 0) (b ∷ xs))) [
      | true ↦ λ e. tt
      | false ↦ λ e. rw one (h.joins b e, runs p s h xs)
    ] refl

-- so a read goes over them
over : (p : ℕ → Bool) (s : State) → JoinsBut p s → (fields : Fields) (begun xs : List ℕ)
    → next_record default_config s fields begun xs ≡ next_record default_config s fields (begun ++ take (position_or_len p xs) xs)
    (drop (position_or_len p xs) xs)
over p s h fields begun xs =
    let n = position_or_len p xs in
    rw (take-append-drop n xs) at (run-copies default_config s fields begun (take n xs) (drop n xs) (runs p s h xs))

over_all : (p : ℕ → Bool) (s : State) → JoinsBut p s → (fields : Fields) (begun xs : List ℕ) → None ≡ position p xs
    → next_record default_config s fields begun xs ≡ next_record default_config s fields (begun ++ xs) []
over_all p s h fields begun xs none =
    let n = position_or_len p xs in
    let long : length xs ≤ n = none-of p xs none in
    let whole : take n xs ≡ xs = take_all n xs long in
    let rest : drop n xs ≡ [] = drop_all n xs long in
    rw (whole, rest) at (over p s h fields begun xs)

-- the byte that passes, with the text after it
pub record IsAt (p : ℕ → Bool) (xs : List ℕ) (end byte : ℕ) : Type 0 where
  pub passes : p byte ≡ true
  pub rest : drop end xs ≡ byte ∷ drop (end + 1) xs

pub at_first : (p : ℕ → Bool) (xs : List ℕ) (end : ℕ) → IsFirst p xs end → IsAt p xs end (get_or xs end 0)
at_first p xs end h =
    let is : end ≡ position_or_len p xs = h.at in
    let within : end < length xs = h.within in
    record { passes = rw is (passes_at_first p xs 0 (omega arith)); rest = rw (add-one, drop-cons xs end 0) refl }

over_first : (p : ℕ → Bool) (s : State) → JoinsBut p s → (fields : Fields) (begun xs : List ℕ) (end : ℕ) → IsFirst p xs end
    → next_record default_config s fields begun xs ≡ next_record default_config s fields (begun ++ take end xs)
    (get_or xs end 0 ∷ drop (end + 1) xs)
over_first p s h fields begun xs end first =
    rw (sym first.at, (at_first p xs end first).rest) at (over p s h fields begun xs)

-- the rest of a text from a place on
pub rest_of : (n : ℕ) (xs : List ℕ) → take (length xs - n) (drop n xs) ≡ drop n xs
rest_of n xs = take_all (length xs - n) (drop n xs) (omega (arith, length-drop n xs))

-- ---- a field without quotes

joined : (a b : Bool) (x y z : State × Action) → (a || b) ≡ false → cond a x (cond b y z) ≡ z
joined true b x y z e = absurd cc
joined false true x y z e = absurd cc
joined false false x y z e = refl

bare : JoinsBut ends_field st.InField
bare = record {
  joins = λ b e. joined (b == 44) (ends_line b) (st.StartField, act.EndField) (cond (b == 13) st.AfterCr st.StartRecord, act.EndRecord)
      (st.InField, act.Copy) e;
}

-- the move of the byte that ends it
abbrev move : Bool → Bool → Bool → State × Action
move c r n = cond c (st.StartField, act.EndField)
    (cond (r || n) (cond r st.AfterCr st.StartRecord, act.EndRecord) (st.InField, act.Copy))

record Moves (c r n : Bool) (byte : ℕ) (begun rest : List ℕ) : Type 0 where
  next : State
  between : ends_at_end next ≡ false
  same : (fields : Fields) → cond (is_end (move c r n).1) (Some (fields_after (move c r n).1 fields begun, (move c r n).0, rest))
      (next_record default_config (move c r n).0 (fields_after (move c r n).1 fields begun) (field_after (move c r n).1 byte begun) rest)
      ≡ goes_on_in c next (fields ++ begun ∷ []) rest

moves : (c r n : Bool) (byte : ℕ) (begun rest : List ℕ) → (c || (r || n)) ≡ true → Moves c r n byte begun rest
moves true r n byte begun rest e = record { next = st.StartRecord; between = refl; same = λ fields. refl }
moves false true n byte begun rest e = record { next = st.AfterCr; between = refl; same = λ fields. refl }
moves false false true byte begun rest e = record { next = st.StartRecord; between = refl; same = λ fields. refl }
moves false false false byte begun rest e = absurd cc

ends_here : (byte : ℕ) (begun rest : List ℕ) → ends_field byte ≡ true
    → EndsField st.InField begun (byte ∷ rest) begun rest (byte == comma)
unfolding next_record
ends_here byte begun rest e =
    let m = moves (byte == 44) (byte == 13) (byte == 10) byte begun rest e in
    record { next = m.next; between = m.between; same = m.same; shorter = λ _. omega arith }

ends_over : (begun : List ℕ) → EndsField st.InField begun [] begun [] false
unfolding next_record
ends_over begun = record { next = st.StartRecord; between = refl; same = λ fields. refl; shorter = λ e. absurd cc }

pub bare-none : (begun xs : List ℕ) → None ≡ position ends_field xs → EndsField st.InField begun xs (begun ++ xs) [] false
bare-none begun xs none =
    let end = ends_over (begun ++ xs) in
    record {
      next = end.next;
      between = end.between;
      same = λ fields. over_all ends_field st.InField bare fields begun xs none ∙ end.same fields;
      shorter = λ e. absurd cc;
    }

pub bare-some : (begun xs : List ℕ) (end : ℕ) → Some end ≡ position ends_field xs
    → EndsField st.InField begun xs (begun ++ take end xs) (drop (end + 1) xs) (get_or xs end 0 == comma)
bare-some begun xs end some =
    let first = first-of ends_field xs end some in
    let within : end < length xs = first.within in
    let stop = ends_here (get_or xs end 0) (begun ++ take end xs) (drop (end + 1) xs) (at_first ends_field xs end first).passes in
    record {
      next = stop.next;
      between = stop.between;
      same = λ fields. over_first ends_field st.InField bare fields begun xs end first ∙ stop.same fields;
      shorter = λ e. omega (arith, length-drop (end + 1) xs);
    }

-- ---- a field with quotes

quoted : JoinsBut (λ b. b == quote_mark) st.InQuoted
quoted = record { joins = λ b e. rw e refl }

closes : (fields : Fields) (field : List ℕ) (byte : ℕ) (rest : List ℕ) → (byte == quote_mark) ≡ true
    → next_record default_config st.InQuoted fields field (byte ∷ rest) ≡ next_record default_config st.AfterQuote fields field rest
unfolding next_record
closes fields field byte rest e = rw e refl

unclosed : (fields : Fields) (field : List ℕ)
    → next_record default_config st.InQuoted fields field [] ≡ next_record default_config st.AfterQuote fields field []
unfolding next_record
unclosed fields field = refl

pub quoted-none : (begun xs : List ℕ) → None ≡ position (λ b. b == quote_mark) xs
    → Continues st.InQuoted begun xs st.AfterQuote (begun ++ xs) []
quoted-none begun xs none = record {
  same = λ fields. over_all _ st.InQuoted quoted fields begun xs none ∙ unclosed fields (begun ++ xs);
  shorter = omega arith;
}

pub quoted-some : (begun xs : List ℕ) (end : ℕ) → Some end ≡ position (λ b. b == quote_mark) xs
    → Continues st.InQuoted begun xs st.AfterQuote (begun ++ take end xs) (drop (end + 1) xs)
quoted-some begun xs end some =
    let first = first-of (λ b. b == quote_mark) xs end some in
    let within : end < length xs = first.within in
    record {
      same = λ fields. over_first _ st.InQuoted quoted fields begun xs end first
          ∙ closes fields (begun ++ take end xs) (get_or xs end 0) (drop (end + 1) xs) (at_first _ xs end first).passes;
      shorter = omega (arith, length-drop (end + 1) xs);
    }

-- ---- a text without a quote at its start

no_quote : (c : ℕ) (rest : List ℕ) → IsUnquoted (c ∷ rest) → (c == quote_mark) ≡ false
no_quote c rest h = ne_eqb c quote_mark (λ e. h rest (ap (λ (b : ℕ). b ∷ rest) e))

after_quote_as_bare : (xs : List ℕ) → IsUnquoted xs → (fields : Fields) (field : List ℕ)
    → next_record default_config st.AfterQuote fields field xs ≡ next_record default_config st.InField fields field xs
unfolding next_record
after_quote_as_bare [] h fields field = refl
after_quote_as_bare (c ∷ rest) h fields field = after-quote-same fields field c rest (no_quote c rest h)

start_as_bare : (xs : List ℕ) → IsUnquoted xs → (fields : Fields)
    → next_record default_config st.StartField fields [] xs ≡ next_record default_config st.InField fields [] xs
unfolding next_record
start_as_bare [] h fields = refl
start_as_bare (c ∷ rest) h fields = start-same fields [] c rest (no_quote c rest h)

-- the bytes after the closing quote
pub EndsField-after_quote : (begun xs field rest : List ℕ) (goes_on : Bool) → IsUnquoted xs
    → EndsField st.InField begun xs field rest goes_on → EndsField st.AfterQuote begun xs field rest goes_on
EndsField-after_quote begun xs field rest goes_on h end = record {
  next = end.next;
  between = end.between;
  same = λ fields. after_quote_as_bare xs h fields begun ∙ end.same fields;
  shorter = end.shorter;
}

-- a field without quotes
pub EndsField-bare : (xs field rest : List ℕ) (goes_on : Bool) → IsUnquoted xs → EndsField st.InField [] xs field rest goes_on
    → EndsField st.StartField [] xs field rest goes_on
EndsField-bare xs field rest goes_on h end = record {
  next = end.next;
  between = end.between;
  same = λ fields. start_as_bare xs h fields ∙ end.same fields;
  shorter = end.shorter;
}

opens : (fields : Fields) (xs : List ℕ)
    → next_record default_config st.StartField fields [] (quote_mark ∷ xs) ≡ next_record default_config st.InQuoted fields [] xs
unfolding next_record
opens fields xs = refl

-- a field after its opening quote
pub EndsField-quoted : (text xs field rest : List ℕ) (goes_on : Bool) → text ≡ quote_mark ∷ xs
    → EndsField st.InQuoted [] xs field rest goes_on → EndsField st.StartField [] text field rest goes_on
EndsField-quoted text xs field rest goes_on e end = record {
  next = end.next;
  between = end.between;
  same = λ fields. rw e (opens fields xs ∙ end.same fields);
  shorter = λ goes. let less = end.shorter goes in rw e (omega arith);
}

-- a field on from where it continues
pub EndsField-from : (before after : State) (begun xs more ys field rest : List ℕ) (goes_on : Bool)
    → Continues before begun xs after more ys → EndsField after more ys field rest goes_on
    → EndsField before begun xs field rest goes_on
EndsField-from before after begun xs more ys field rest goes_on h end = record {
  next = end.next;
  between = end.between;
  same = λ fields. h.same fields ∙ end.same fields;
  shorter = λ goes. let less = end.shorter goes in let most = h.shorter in omega arith;
}

doubles : (fields : Fields) (field xs : List ℕ) → next_record default_config st.AfterQuote fields field (quote_mark ∷ xs)
    ≡ next_record default_config st.InQuoted fields (field ++ quote_mark ∷ []) xs
unfolding next_record
doubles fields field xs = refl

-- a quote that is doubled, and the part after it
pub Continues-doubled : (begun text field rest xs more later : List ℕ) → Continues st.AfterQuote begun text st.AfterQuote field rest
    → rest ≡ quote_mark ∷ xs → Continues st.InQuoted (field ++ quote_mark ∷ []) xs st.AfterQuote more later
    → Continues st.AfterQuote begun text st.AfterQuote more later
Continues-doubled begun text field rest xs more later h e part = record {
  same = λ fields. h.same fields ∙ rw e (doubles fields field xs ∙ part.same fields);
  shorter = let most = h.shorter in let less = part.shorter in let long = ap length e in omega arith;
}
