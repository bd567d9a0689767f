-- The values that a parse without a fault found: each passes the parser of its argument.
use Rattle.std.proofs.Common.{◌≡◌, ◌∙◌, ◌<◌, ◌&&◌, ◌⊎◌, ℕ, Bool, cond, true, false, zero, suc, refl, sym, ap, subst, arith, List, [], ◌∷◌}
use Rattle.std.proofs.Common.{◌++◌, length, drop, ◌||◌, Option, Some, None, inl, inr, is_some, true≢false, option_map}
use Rattle.std.specs.Prelude.{encode_utf8, find, fold, option_and_then, slice_get}
use Rattle.std.specs.List.{list_any}
use Rattle.std.specs.Option.{option_map_or}
use Rattle.std.specs.Str.{bytes_eq, chars}
use Rattle.std.proofs.lemmas.Slice.Eq.{bytes_eq-Decides}
use Rattle.clap.specs.Facts.{parser_of_value, unwrap_or_range}
use Rattle.clap.specs.Lexer.{long_of, short_of}
use Rattle.clap.specs.Walk.{Held, Names, Outcome, Row, Rule, Step, Text, Waiting, Walk, action_of, after_flag, after_step, arg_by_id}
use Rattle.clap.specs.Walk.{arg_by_index, arg_by_long, arg_by_short, at_row, attached_value, bundle_met, bundle_step, default_rows, done}
use Rattle.clap.specs.Walk.{flag_met, has_row, is_empty, is_pending, long_met, long_or_other, more_values, most_values, nothing_held}
use Rattle.clap.specs.Walk.{one_of, option, option_met, option_word, plain, plain_word, positional, pushed, refused, subcommand}
use Rattle.clap.specs.Walk.{subcommand_met, trailing, value, waits, idle, next, reacted, reading_by, row_text, rows_after, settled}
use Rattle.clap.specs.Walk.{settled_rows, short_met, short_or_plain, subcommand_or_other, takes_several, takes_values, to_positional, used}
use Rattle.clap.specs.Walk.{used_by_id, values_or_missing, walk, walk_from, walked, walked_from, with_default, with_values, without}
use Rattle.clap.specs.Walk.{word_met}
use Rattle.clap.specs.Simple.{Shape}
use Rattle.clap.specs.Kinds.{Kinds, or_else, range_kinds, request_kinds, value_kinds}
use Rattle.clap.specs.Values.{read_as, refused_kind}
use Rattle.clap.specs.ValueTests.{accepts}
use Rattle.clap.specs.Faults.{given_default_fault, level_fault, action_fault, bundle_fault, bundle_step_fault, default_fault}
use Rattle.clap.specs.Faults.{defaults_fault, flag_word_fault, flags_fault, long_fault, option_fault, other_fault, positional_fault}
use Rattle.clap.specs.Faults.{react_fault, settle_fault, short_fault, step_fault, stray_fault, turn_fault, use_fault, values_fault}
use Rattle.clap.specs.Faults.{walk_fault, word_fault}
use Rattle.clap.specs.declared.error.kind.ErrorKind.TheVariants as kind
use Rattle.clap.specs.declared.builder.action.ArgAction.TheVariants.{Set, Help}
use Rattle.clap.specs.declared.parser.matches.ValueSource.{ValueSource}
use Rattle.clap.specs.declared.parser.matches.ValueSource.TheVariants.{CommandLine, DefaultValue}
use Rattle.dam_line.proofs.Program.{no_value}

pub same_value : {X : Type 0} (x y : X) → Some x ≡ Some y → x ≡ y
same_value x y is = cc

-- two steps without a fault
pub none_of_both : (xs ys : Kinds) → or_else xs ys ≡ [] → (xs ≡ []) × (ys ≡ [])
none_of_both [] ys none = (refl, none)
none_of_both (x ∷ xs) ys none = absurd (some_kind none)
  where
    some_kind : x ∷ xs ≡ [] → ⊥
    some_kind is = cc

-- ---- lists

abbrev pub Each : {X : Type 0} → (X → Type 0) → List X → Type 0
Each P [] = Unit {0}
Each P (x ∷ xs) = P x × Each P xs

each_append : {X : Type 0} (P : X → Type 0) (xs ys : List X) → Each P xs → Each P ys → Each P (xs ++ ys)
each_append P [] ys first second = second
each_append P (x ∷ xs) ys first second = (first.0, each_append P xs ys first.1 second)

-- an element that is found is one of them
found_one : {X : Type 0} (P : X → Type 0) (p : X → Bool) (xs : List X) (x : X) → Each P xs → find p xs ≡ Some x → P x
found_one P p [] x each is = absurd (no_value x is)
found_one P p (y ∷ ys) x each is = go (p y) (found_one P p ys x each.1) is
  where
    go : (b : Bool) → (find p ys ≡ Some x → P x) → cond b (Some y) (find p ys) ≡ Some x → P x
    go true later is = subst P (same_value y x is) each.0
    go false later is = later is

-- ---- rules and rows

-- one value a use, in the place of one given before
abbrev pub TakesOne : Rule → Type 0
TakesOne a = (action_of a ≡ Set) × ((unwrap_or_range a.range).start_inclusive ≡ 1) × (most_values a ≡ 1)

-- the rule is the one of its id, and takes one value or asks for help
abbrev pub IsUsual : List Rule → Rule → Type 0
IsUsual c a = (arg_by_id c a.id ≡ Some a) × (TakesOne a ⊎ (action_of a ≡ Help))

-- a row has a value or more, and each passes its rule's parser
pub record IsAccepted (a : Rule) (r : Row) : Type 0 where
  pub reading : r.reading ≡ reading_by a
  pub some : 0 < length r.values
  pub passed : values_fault a r.values ≡ []

abbrev pub Fits : List Rule → Row → Type 0
Fits c r = (a : Rule) → arg_by_id c r.id ≡ Some a → IsAccepted a r

abbrev pub AreAccepted : List Rule → List Row → Type 0
AreAccepted c = Each (Fits c)

passes_both : (a : Rule) (vs ws : List Text) → values_fault a vs ≡ [] → values_fault a ws ≡ [] → values_fault a (vs ++ ws) ≡ []
passes_both a [] ws first second = second
passes_both a (v ∷ vs) ws first second =
    let both = none_of_both _ _ first in
    ap (λ k. or_else k (values_fault a (vs ++ ws))) both.0 ∙ passes_both a vs ws both.1 second

at_row_fits : (c : List Rule) (id : Text) (change : Row → List Row) (missing rows : List Row)
    → ((r : Row) → bytes_eq r.id id ≡ true → Fits c r → AreAccepted c (change r)) → AreAccepted c missing → AreAccepted c rows
    → AreAccepted c (at_row id change missing rows)
at_row_fits c id change missing [] changes none each = none
at_row_fits c id change missing (r ∷ rs) changes none each =
    go (bytes_eq r.id id) refl (at_row_fits c id change missing rs changes none each.1)
  where
    go : (b : Bool) → bytes_eq r.id id ≡ b → AreAccepted c (at_row id change missing rs)
        → AreAccepted c (cond b (change r ++ rs) (r ∷ at_row id change missing rs))
    go true is later = each_append (Fits c) (change r) rs (changes r is each.0) each.1
    go false is later = (each.0, later)

-- ---- one use of an argument

same_text : (xs ys : Text) → bytes_eq xs ys ≡ true → xs ≡ ys
same_text xs ys is = (bytes_eq-Decides xs ys).0 is

-- the row of a rule that gets these values
module _ (c : List Rule) (a : Rule) (own : arg_by_id c a.id ≡ Some a) (source : ValueSource) (values : List Text) (some : 0 < length values)
    (passed : values_fault a values ≡ []) where
  is_own : (id : Text) (b : Rule) → id ≡ a.id → arg_by_id c id ≡ Some b → a ≡ b
  is_own id b is found = same_value a b (sym own ∙ ap (arg_by_id c) (sym is) ∙ found)

  new_row_fits : Fits c (record { id = a.id; values = values; count = None; source = Some source; reading = reading_by a })
  new_row_fits b found =
      subst (λ (b : Rule). IsAccepted b (record { id = a.id; values = values; count = None; source = Some source; reading = reading_by a }))
      (is_own a.id b refl found) (record { reading = refl; some = some; passed = passed })

  longer : (vs : List Text) → 0 < length vs → 0 < length (vs ++ values)
  longer [] lt = absurd (omega arith)
  longer (v ∷ vs) lt = omega arith

  more_fits : (r : Row) → bytes_eq r.id a.id ≡ true → Fits c r → AreAccepted c (more_values source values r)
  more_fits r is fits = (
    λ b found.
        let row = fits b found in
        let same = is_own r.id b (same_text r.id a.id is) found in
        record {
          reading = row.reading;
          some = longer r.values row.some;
          passed =
              passes_both b r.values values row.passed (subst (λ (b : Rule). values_fault b values ≡ []) same passed);
        },
    tt,
  )

  pub values_fit : (rows : List Row) → AreAccepted c rows → AreAccepted c (with_values a.id (reading_by a) source values rows)
  values_fit rows each = at_row_fits c a.id (more_values source values)
      (record { id = a.id; values = values; count = None; source = Some source; reading = reading_by a } ∷ []) rows more_fits
      (new_row_fits, tt) each

without_fits : (c : List Rule) (id : Text) (rows : List Row) → AreAccepted c rows → AreAccepted c (without id rows)
without_fits c id rows each = at_row_fits c id (λ r. []) [] rows (λ r is fits. tt) tt each

-- a use with one value
one_value : (values : List Text) → range_kinds 1 1 (length values) ≡ [] → 0 < length values
one_value [] is = absurd (some_kind is)
  where
    some_kind : range_kinds 1 1 0 ≡ [] → ⊥
    some_kind is = cc
one_value (v ∷ vs) is = omega arith

given_values : (a : Rule) (values : List Text) → 0 < length values → values ≡ values_or_missing a values
given_values a [] lt = absurd (omega arith)
given_values a (v ∷ vs) lt = refl

used_fits : (c : List Rule) (again : Bool) (a : Rule) (values : List Text) (rows : List Row) → IsUsual c a
    → use_fault again a values rows ≡ []
    → AreAccepted c rows → AreAccepted c (used a values rows)
used_fits c again a values rows usual none each = go usual.1
  where
    both : (range_kinds (unwrap_or_range a.range).start_inclusive (most_values a) (length values) ≡ [])
        × (action_fault (action_of a) again a (values_or_missing a values) rows ≡ [])
    both = none_of_both _ _ none

    go : TakesOne a ⊎ (action_of a ≡ Help) → AreAccepted c (used a values rows)
    go (inl one) =
        let some = one_value values (rw (one.1, one.2) at both.0) in
        let passed = (none_of_both _ _ (rw (one.0, ← given_values a values some) at both.1)).1 in
        rw (one.0, ← given_values a values some) (values_fit c a usual.0 CommandLine values some passed (without a.id rows)
        (without_fits c a.id rows each))
    go (inr help) = absurd (some_kind (rw help at both.1))
      where
        some_kind : action_fault Help again a (values_or_missing a values) rows ≡ [] → ⊥
        some_kind is = cc

-- ---- the walk

module _ (c : List Rule) (again : Bool) (usual : Each (IsUsual c) c) where
  -- a rule that a search finds
  found_rule : (p : Rule → Bool) (a : Rule) → find p c ≡ Some a → IsUsual c a
  found_rule p a is = found_one (IsUsual c) p c a usual is

  settled_fits : (h : Held) → settle_fault c again h ≡ [] → AreAccepted c h.rows → AreAccepted c (settled c h).rows
  settled_fits h none each = go h.pending none
    where
      used_found : (o : Option Rule) (p : Text × List Text) → arg_by_id c p.0 ≡ o
          → option_map_or (λ a. use_fault again a p.1 h.rows) o [] ≡ [] → AreAccepted c (used_by_id o p.1 h.rows)
      used_found None p is none = each
      used_found (Some a) p is none = used_fits c again a p.1 h.rows (found_rule _ a is) none each

      go : (pending : Option (Text × List Text))
          → option_map_or (λ p. option_map_or (λ a. use_fault again a p.1 h.rows) (arg_by_id c p.0) []) pending [] ≡ []
          → AreAccepted c (settled_rows c pending h.rows)
      go None none = each
      go (Some p) none = used_found (arg_by_id c p.0) p refl none

  reacted_fits : (a : Rule) (values : List Text) (h : Held) → IsUsual c a → react_fault c again a values h ≡ [] → AreAccepted c h.rows
      → AreAccepted c (reacted c a values h).rows
  reacted_fits a values h is none each =
      let both = none_of_both _ _ none in
      used_fits c again a values (settled c h).rows is both.1 (settled_fits h both.0 each)

  option_fits : (a : Rule) (v : Option Text) (h : Held) → IsUsual c a → option_fault c again a v h ≡ [] → AreAccepted c h.rows
      → AreAccepted c (option_met c a v h).0.rows
  option_fits a (Some v) h is none each = reacted_fits a (v ∷ []) h is none each
  option_fits a None h is none each = settled_fits h none each

  long_fits : (o : Option Rule) (v : Option Text) (h : Held) → ((a : Rule) → o ≡ Some a → IsUsual c a) → long_fault c again o v h ≡ []
      → AreAccepted c h.rows → AreAccepted c (long_met c o v h).0.rows
  long_fits None v h are none each = each
  long_fits (Some a) v h are none each = go (takes_values a) v none
    where
      go : (b : Bool) (v : Option Text) → cond b (option_fault c again a v h)
          (cond (is_some v) (kind.TooManyValues ∷ []) (react_fault c again a [] h)) ≡ []
          → AreAccepted c (cond b (option_met c a v h) (flag_met c a v h)).0.rows
      go true v none = option_fits a v h (are a refl) none each
      go false (Some v) none = each
      go false None none = reacted_fits a [] h (are a refl) none each

  short_fits : (o : Option Rule) (rest : Text) (h : Held) (after : Held → Held × Outcome) (fault : Held → Kinds)
      → ((a : Rule) → o ≡ Some a → IsUsual c a)
      → short_fault c again o rest h fault ≡ [] → ((g : Held) → fault g ≡ [] → AreAccepted c g.rows → AreAccepted c (after g).0.rows)
      → AreAccepted c h.rows → AreAccepted c (short_met c o rest h after).0.rows
  short_fits None rest h after fault are none later each = each
  short_fits (Some a) rest h after fault are none later each = go (takes_values a) none
    where
      go : (b : Bool) → cond b (option_fault c again a (attached_value rest) h)
          (or_else (react_fault c again a [] h) (fault (reacted c a [] h))) ≡ []
          → AreAccepted c (cond b (option_met c a (attached_value rest) h) (after (reacted c a [] h))).0.rows
      go true none = option_fits a (attached_value rest) h (are a refl) none each
      go false none =
          let both = none_of_both _ _ none in
          later (reacted c a [] h) both.1 (reacted_fits a [] h (are a refl) both.0 each)

  bundle_fits : (k : ℕ) (flags : Text) (skip : ℕ) (so_far : Outcome) (h : Held) → flags_fault c again k flags skip h ≡ []
      → AreAccepted c h.rows
      → AreAccepted c (bundle_met c k flags skip so_far h).0.rows
  unfolding flags_fault bundle_met
  bundle_fits zero flags skip so_far h none each = each
  bundle_fits (suc k) flags skip so_far h none each = go (slice_get (chars flags) 0) skip (bundle_fits k) none
    where
      go : (o : Option ℕ) (skip : ℕ)
          → ((flags : Text) (skip : ℕ) (so_far : Outcome) (h : Held) → flags_fault c again k flags skip h ≡ [] → AreAccepted c h.rows
          → AreAccepted c (bundle_met c k flags skip so_far h).0.rows)
          → bundle_step_fault c again o flags skip h (flags_fault c again k) ≡ []
          → AreAccepted c (bundle_step c o flags skip so_far h (bundle_met c k)).0.rows
      go None skip later none = each
      go (Some x) zero later none =
          let rest = drop (length (encode_utf8 x)) flags in
          short_fits (arg_by_short c x) rest h (bundle_met c k rest 0 done) (flags_fault c again k rest 0) (λ a is. found_rule _ a is) none
          (λ g. later rest 0 done g) each
      go (Some x) (suc skip) later none = later (drop (length (encode_utf8 x)) flags) skip so_far h none each

  plain_fits : (waiting : Waiting) (word : Text) (h : Held) → AreAccepted c h.rows → AreAccepted c (plain_word c waiting word h).0.rows
  plain_fits idle word h each = each
  plain_fits positional word h each = each
  plain_fits (option id) word h each = go (arg_by_id c id)
    where
      go : (o : Option Rule) → AreAccepted c (option_word o id word h).0.rows
      go None = each
      go (Some a) = each

  after_fits : (waiting : Waiting) (word : Text) (h : Held) (outcome : Outcome) → AreAccepted c h.rows
      → AreAccepted c (after_flag c waiting word h outcome).0.rows
  after_fits waiting word h done each = each
  after_fits waiting word h (waits id) each = each
  after_fits waiting word h plain each = plain_fits waiting word h each
  after_fits waiting word h refused each = plain_fits waiting word h each

  flag_word_fits : (waiting : Waiting) (word : Text) (o : Option (Text × Option Text)) (h : Held) → flag_word_fault c again o word h ≡ []
      → AreAccepted c h.rows → AreAccepted c (long_or_other c waiting word o h).0.rows
  flag_word_fits waiting word (Some p) h none each =
      after_fits waiting word _ _ (long_fits (arg_by_long c p.0) p.1 h (λ a is. found_rule _ a is) none each)
  flag_word_fits waiting word None h none each = go (short_of word) none
    where
      go : (o : Option Text) → option_map_or (λ flags. bundle_fault c again flags h) o [] ≡ []
          → AreAccepted c (short_or_plain c waiting word o h).0.rows
      go None none = plain_fits waiting word h each
      go (Some flags) none = after_fits waiting word _ _ (bundle_fits (length flags) flags h.skip plain (record h { skip = 0 }) none each)

  to_positional_fits : (o : Option Rule) (word : Text) (w : Walk) (h : Held) → option_map_or (λ a. positional_fault c again a h) o [] ≡ []
      → AreAccepted c h.rows → AreAccepted c (to_positional c o word w h).held.rows
  to_positional_fits None word w h none each = each
  to_positional_fits (Some a) word w h none each = go (is_pending a h.pending && takes_several a) none
    where
      go : (b : Bool) → cond b [] (settle_fault c again h) ≡ [] → AreAccepted c (pushed a.id word (cond b h (settled c h))).rows
      go true none = each
      go false none = settled_fits h none each

-- ---- a level of the parse

module _ (s : Shape) (names : Names) (usual : Each (IsUsual s.rules) s.rules) where
  word_fits : (is_trailing : Bool) (waiting : Waiting) (position : ℕ) (word : Text) (h : Held)
      → word_fault s names is_trailing waiting word h ≡ []
      → AreAccepted s.rules h.rows → AreAccepted s.rules (word_met s.rules names is_trailing waiting position word h).0.rows
  word_fits true waiting position word h none each = each
  word_fits false waiting position word h none each = go (subcommand_met names waiting word) none
    where
      other : (b : Bool) → cond b [] (flag_word_fault s.rules s.args_override_self (long_of word) word h) ≡ []
          → AreAccepted s.rules (cond b (h, trailing position) (long_or_other s.rules waiting word (long_of word) h)).0.rows
      other true none = each
      other false none = flag_word_fits s.rules s.args_override_self usual waiting word (long_of word) h none each

      go : (o : Option Text) → other_fault s o word h ≡ [] → AreAccepted s.rules
          (subcommand_or_other s.rules o waiting position word h).0.rows
      go (Some name) none = each
      go None none = other (bytes_eq word (45 ∷ 45 ∷ [])) none

  step_fits : (word : Text) (w : Walk) (h : Held) (step : Step) → step_fault s w.position h step ≡ [] → AreAccepted s.rules h.rows
      → AreAccepted s.rules (after_step s.rules word w h step).held.rows
  step_fits word w h (next waiting) none each = each
  step_fits word w h (trailing position) none each = each
  step_fits word w h (subcommand name) none each = each
  step_fits word w h value none each = go (arg_by_index s.rules w.position) none
    where
      go : (o : Option Rule) → option_map_or (λ a. positional_fault s.rules s.args_override_self a h) o (stray_fault s) ≡ []
          → AreAccepted s.rules (to_positional s.rules o word w h).held.rows
      go None none = each
      go (Some a) none = to_positional_fits s.rules s.args_override_self usual (Some a) word w h none each

  turn_fits : (w : Walk) (word : Text) → turn_fault s names w word ≡ [] → AreAccepted s.rules w.held.rows
      → AreAccepted s.rules (walked s.rules names w word).held.rows
  unfolding walked
  turn_fits w word none each = go w.stopped none
    where
      met : Held × Step
      met = word_met s.rules names w.is_trailing w.waiting w.position word w.held

      go : (o : Option (Text × List Text))
          → cond (is_some o) [] (or_else (word_fault s names w.is_trailing w.waiting word w.held) (step_fault s w.position met.0 met.1))
          ≡ []
          → AreAccepted s.rules (walked_from s.rules names o w word).held.rows
      go (Some p) none = each
      go None none =
          let both = none_of_both _ _ none in
          step_fits word w met.0 met.1 both.1 (word_fits w.is_trailing w.waiting w.position word w.held both.0 each)

  walk_fits : (words : List Text) (w : Walk) → walk_fault s names w words ≡ [] → AreAccepted s.rules w.held.rows
      → AreAccepted s.rules (fold (walked s.rules names) w words).held.rows
  unfolding walk_fault
  walk_fits [] w none each = each
  walk_fits (word ∷ words) w none each =
      let both = none_of_both _ _ none in
      walk_fits words (walked s.rules names w word) both.1 (turn_fits w word both.0 each)

-- ---- defaults

-- each rule that has a default has a row in the end
abbrev pub Stands : Rule → List Rule → Type 0
Stands a [] = ⊥
Stands a (x ∷ xs) = (x ≡ a) ⊎ Stands a xs

same_text_true : (id : Text) → bytes_eq id id ≡ true
same_text_true id = (bytes_eq-Decides id id).1 refl

more_rows : (id : Text) (a : Rule) (source : ValueSource) (values : List Text) (rows : List Row) → has_row id rows ≡ true
    → has_row id (with_values a.id (reading_by a) source values rows) ≡ true
more_rows id a source values [] has = absurd (true≢false (sym has))
more_rows id a source values (r ∷ rs) has = go (bytes_eq r.id a.id) (own (bytes_eq r.id id) has (more_rows id a source values rs))
  where
    own : (o : Bool) → (o || has_row id rs) ≡ true → (has_row id rs ≡ true
        → has_row id (with_values a.id (reading_by a) source values rs) ≡ true)
        → (o || has_row id (with_values a.id (reading_by a) source values rs)) ≡ true
    own true has later = refl
    own false has later = later has

    go : (b : Bool) → has_row id (r ∷ with_values a.id (reading_by a) source values rs) ≡ true
        → has_row id (cond b (more_values source values r ++ rs) (r ∷ with_values a.id (reading_by a) source values rs)) ≡ true
    go true later = has
    go false later = later

own_row : (a : Rule) (source : ValueSource) (values : List Text) (rows : List Row)
    → has_row a.id (with_values a.id (reading_by a) source values rows) ≡ true
own_row a source values [] = rw (same_text_true a.id) refl
own_row a source values (r ∷ rs) = go (bytes_eq r.id a.id) refl (own_row a source values rs)
  where
    go : (b : Bool) → bytes_eq r.id a.id ≡ b → has_row a.id (with_values a.id (reading_by a) source values rs) ≡ true
        → has_row a.id (cond b (more_values source values r ++ rs) (r ∷ with_values a.id (reading_by a) source values rs)) ≡ true
    go true is later = rw is refl
    go false is later = rw is later

default_kept : (id : Text) (rows : List Row) (a : Rule) → has_row id rows ≡ true → has_row id (with_default rows a) ≡ true
default_kept id rows a has = go (has_row a.id rows) a.defaults
  where
    go : (b : Bool) (ds : List Text) → has_row id (cond b rows (default_rows a.id (reading_by a) ds rows)) ≡ true
    go true ds = has
    go false [] = has
    go false (d ∷ ds) = more_rows id a DefaultValue (d ∷ ds) rows has

default_there : (rows : List Row) (a : Rule) → 0 < length a.defaults → has_row a.id (with_default rows a) ≡ true
default_there rows a some = go (has_row a.id rows) a.defaults refl some
  where
    go : (b : Bool) (ds : List Text) → has_row a.id rows ≡ b → 0 < length ds
        → has_row a.id (cond b rows (default_rows a.id (reading_by a) ds rows)) ≡ true
    go true ds is some = is
    go false [] is some = absurd (omega arith)
    go false (d ∷ ds) is some = own_row a DefaultValue (d ∷ ds) rows

defaults_kept : (id : Text) (rules : List Rule) (rows : List Row) → has_row id rows ≡ true
    → has_row id (fold with_default rows rules) ≡ true
defaults_kept id [] rows has = has
defaults_kept id (a ∷ rules) rows has = defaults_kept id rules (with_default rows a) (default_kept id rows a has)

defaults_there : (a : Rule) (rules : List Rule) (rows : List Row) → Stands a rules → 0 < length a.defaults
    → has_row a.id (fold with_default rows rules) ≡ true
defaults_there a [] rows none some = absurd none
defaults_there a (x ∷ rules) rows (inl is) some =
    defaults_kept a.id rules (with_default rows x) (subst (λ (x : Rule). has_row a.id (with_default rows x) ≡ true) (sym is)
    (default_there rows a some))
defaults_there a (x ∷ rules) rows (inr later) some = defaults_there a rules (with_default rows x) later some

not_empty : {X : Type 0} (x : X) (xs : List X) → is_empty (x ∷ xs) ≡ false
not_empty x xs = search arith

default_fits : (c : List Rule) (a : Rule) (rows : List Row) → IsUsual c a → default_fault rows a ≡ [] → AreAccepted c rows
    → AreAccepted c (with_default rows a)
default_fits c a rows usual none each = go (has_row a.id rows) a.defaults none
  where
    go : (b : Bool) (ds : List Text) → cond (b || is_empty ds) [] (given_default_fault a ds) ≡ []
        → AreAccepted c (cond b rows (default_rows a.id (reading_by a) ds rows))
    go true ds none = each
    go false [] none = each
    go false (d ∷ ds) none = values_fit c a usual.0 DefaultValue (d ∷ ds) (omega arith)
        (none_of_both (request_kinds (action_of a)) (values_fault a (d ∷ ds)) (rw (not_empty d ds) at none)).1 rows each

defaults_fit : (c rules : List Rule) (rows : List Row) → Each (IsUsual c) rules → defaults_fault rows rules ≡ [] → AreAccepted c rows
    → AreAccepted c (fold with_default rows rules)
unfolding defaults_fault
defaults_fit c [] rows usual none each = each
defaults_fit c (a ∷ rules) rows usual none each =
    let both = none_of_both _ _ none in
    defaults_fit c rules (with_default rows a) usual.1 both.1 (default_fits c a rows usual.0 both.0 each)

-- ---- one rule in the matches

found_passes : {X : Type 0} (p : X → Bool) (xs : List X) → list_any p xs ≡ true → (x : X) × (find p xs ≡ Some x) × (p x ≡ true)
found_passes p [] any = absurd (true≢false (sym any))
found_passes p (x ∷ xs) any = go (p x) refl (found_passes p xs) any
  where
    go : (b : Bool) → p x ≡ b → (list_any p xs ≡ true → (y : _) × (find p xs ≡ Some y) × (p y ≡ true)) → (b || list_any p xs) ≡ true
        → (y : _) × (cond b (Some x) (find p xs) ≡ Some y) × (p y ≡ true)
    go true is later any = (x, refl, is)
    go false is later any = later any

accepted_value : (a : Rule) (v : Text) → value_kinds a.ignore_case (parser_of_value a.parser) v ≡ []
    → accepts a.ignore_case (parser_of_value a.parser) v ≡ true
accepted_value a v none = go (accepts a.ignore_case (parser_of_value a.parser) v) none
  where
    go : (b : Bool) → cond b [] (refused_kind (parser_of_value a.parser) ∷ []) ≡ [] → b ≡ true
    go true none = refl
    go false none = cc

-- the text that a rule has in the rows
abbrev pub IsGiven : Rule → List Row → Type 0
IsGiven a rows = (v : Text) × (one_of a.id rows ≡ Some (read_as (reading_by a) v))
    × (accepts a.ignore_case (parser_of_value a.parser) v ≡ true)

row_given : (a : Rule) (r : Row) → IsAccepted a r → (v : Text) × (row_text r ≡ Some (read_as (reading_by a) v))
    × (accepts a.ignore_case (parser_of_value a.parser) v ≡ true)
row_given a r is = go r.values is.some is.passed
  where
    go : (vs : List Text) → 0 < length vs → values_fault a vs ≡ []
        → (v : Text) × (option_map (read_as r.reading) (slice_get vs 0) ≡ Some (read_as (reading_by a) v))
        × (accepts a.ignore_case (parser_of_value a.parser) v ≡ true)
    go [] some passed = absurd (omega arith)
    go (v ∷ vs) some passed = (v, ap (λ how. Some (read_as how v)) is.reading, accepted_value a v (none_of_both _ _ passed).0)

rows_given : (c : List Rule) (a : Rule) (rows : List Row) → arg_by_id c a.id ≡ Some a → AreAccepted c rows → has_row a.id rows ≡ true
    → IsGiven a rows
rows_given c a rows own each has =
    let found = found_passes (λ r. bytes_eq r.id a.id) rows has in
    let fits = found_one (Fits c) (λ r. bytes_eq r.id a.id) rows found.0 each found.1 in
    let given = row_given a found.0 (fits a (ap (arg_by_id c) (same_text found.0.id a.id found.2) ∙ own)) in
    (given.0, ap (option_and_then row_text) found.1 ∙ given.1, given.2)

-- if a level of the parse has no fault, a rule that has a default has a text that passes its parser
pub level_gives : (s : Shape) (names : Names) (words : List Text) (has_subcommand : Bool) (below : Kinds) (a : Rule)
    → Each (IsUsual s.rules) s.rules
    → level_fault s names nothing_held words has_subcommand below ≡ [] → Stands a s.rules → arg_by_id s.rules a.id ≡ Some a
    → 0 < length a.defaults
    → IsGiven a (rows_after s.rules names words)
level_gives s names words has_subcommand below a usual none stands own some =
    let end = (walk s.rules names nothing_held words).held in
    let first = none_of_both (walk_fault s names (walk_from nothing_held) words) _ none in
    let second = none_of_both below _ first.1 in
    let third = none_of_both (settle_fault s.rules s.args_override_self end) _ second.1 in
    let fourth = none_of_both (defaults_fault (settled s.rules end).rows s.rules) _ third.1 in
    let walked = walk_fits s names usual words (walk_from nothing_held) first.0 tt in
    let settled_end = settled_fits s.rules s.args_override_self usual end third.0 walked in
    rows_given s.rules a (rows_after s.rules names words) own
    (defaults_fit s.rules s.rules (settled s.rules end).rows usual fourth.0 settled_end)
    (defaults_there a s.rules (settled s.rules end).rows stands some)
