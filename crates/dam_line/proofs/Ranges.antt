-- The options of a plan have numbers in their ranges, if `clap` takes the words.
use Rattle.std.proofs.Common.{◌≡◌, ◌<◌, ◌≤◌, ◌==◌, ℕ, Bool, cond, pos, true, false, refl, sym, ap, subst, arith, List, [], ◌∷◌, length}
use Rattle.std.proofs.Common.{drop, Option, Some, None, inl, inr}
use Rattle.std.proofs.lemmas.Int.{ints}
use Rattle.std.proofs.lemmas.Bool.{and_from, le-leb, lt-ltb}
use Rattle.std.specs.Prelude.{codes, find, option_map, unwrap_or}
use Rattle.std.specs.Fmt.{digits}
use Rattle.std.specs.Option.{option_map_or}
use Rattle.std.specs.Str.Parse.{IsNumeral, starts_with_minus, without_leading_plus}
use Rattle.clap.specs.Lexer.{without_minus}
use Rattle.clap.specs.Values.{IsSignedIn}
use Rattle.clap.specs.Walk.{Row, Rule, Text, answers_to, arg_by_id, nothing_held, rows_after, stop_after, walk_from}
use Rattle.clap.specs.Simple.{Shape, argument_words, built, entered, filled, filled_from, help_rule, label_of, names_of, rows_at}
use Rattle.clap.specs.Words.{fault_of, subcommand_of}
use Rattle.clap.specs.Faults.{entered_fault, level_fault, walk_fault}
use Rattle.clap.specs.declared.builder.value_parser.ValueParser.TheVariants.{Signed}
use Rattle.clap.proofs.OnLiterals.{clap_on_literals}
use Rattle.clap.proofs.ValueTestLemmas.{accepts-Accepts}
use Rattle.dam_line.specs.Line.{HasPlan, IsInItsRange, IsOption, OptionTerms, cut, is_number, nodes, number_in, program, read_number}
use Rattle.dam_line.specs.Line.{rule_for, workers}
use Rattle.dam_line.proofs.Accepted.{Each, IsGiven, IsUsual, Stands, level_gives, none_of_both, same_value}
use Rattle.dam_line.proofs.Program.{no_value}
use Rattle.dam_line.proofs.Numbers.{digits_pass}

-- ---- a text that passes the option's parser

no_plus : (ds : List ℕ) → IsNumeral 10 ds → without_leading_plus ds ≡ ds
no_plus [] is = refl
no_plus (d ∷ ds) is = search arith

minus_taken : (text : Text) → without_minus text ≡ cond (starts_with_minus text) (drop 1 text) text
minus_taken [] = refl
minus_taken (x ∷ xs) = go (x == 45)
  where
    go : (b : Bool) → unwrap_or (cond b (Some xs) None) (x ∷ xs) ≡ cond b xs (x ∷ xs)
    go true = refl
    go false = refl

-- a numeral whose number is in the range
pub record IsRead (least most : ℕ) (text : Text) : Type 0 where
  pub numeral : IsNumeral 10 (without_leading_plus text)
  pub at_least : least ≤ number_in text
  pub at_most : number_in text ≤ most

passed_read : (least most : ℕ) (v : Text) → IsSignedIn (pos least) (pos most) v → IsRead least most (without_minus v)
passed_read least most v passed = subst (IsRead least most) (sym (minus_taken v)) (go (starts_with_minus v) refl)
  where
    go : (b : Bool) → starts_with_minus v ≡ b → IsRead least most (cond b (drop 1 v) v)
    go true minus =
        let low = rw minus at passed.2 in
        let numeral : IsNumeral 10 (drop 1 v) = rw minus at passed.0 in
        let same = no_plus (drop 1 v) numeral in
        record { numeral = rw same numeral; at_least = rw same (omega (arith, ints)); at_most = rw same (omega (arith, ints)) }
    go false minus =
        let low = rw minus at passed.2 in
        let high = rw minus at passed.3 in
        let numeral : IsNumeral 10 (without_leading_plus v) = rw minus at passed.0 in
        record { numeral = numeral; at_least = omega (arith, ints); at_most = omega (arith, ints) }

read_some : (option : OptionTerms) (text : Text) → IsRead option.least option.most text → read_number option text ≡ Some (number_in text)
read_some option text is =
    let number : is_number text ≡ true = and_from _ _ (lt-ltb _ _ is.numeral.0) (digits_pass _ is.numeral.1) in
    rw (number, le-leb _ _ is.at_least, le-leb _ _ is.at_most) refl

-- ---- a subcommand's rules

-- the option's rule is one of these
pub record HasOption (rules : List Rule) (option : OptionTerms) : Type 0 where
  pub rule : Rule
  pub stands : Stands rule rules
  pub own : arg_by_id rules rule.id ≡ Some rule
  pub name : rule.id ≡ option.name
  pub parser : rule.parser ≡ Some (Signed (pos option.least) (pos option.most))
  pub has_default : 0 < length rule.defaults

pub record HasOptions (rules : List Rule) : Type 0 where
  pub usual : Each (IsUsual rules) rules
  pub has_workers : HasOption rules workers
  pub has_cut : HasOption rules cut
  pub has_nodes : HasOption rules nodes

option_of : (rules : List Rule) (option : OptionTerms) → HasOptions rules → IsOption option → HasOption rules option
option_of rules option has (inl is) = subst (HasOption rules) (sym is) has.has_workers
option_of rules option has (inr (inl is)) = subst (HasOption rules) (sym is) has.has_cut
option_of rules option has (inr (inr is)) = subst (HasOption rules) (sym is) has.has_nodes

given_read : (rules : List Rule) (option : OptionTerms) (rows : List Row) (has : HasOption rules option) → IsGiven has.rule rows
    → IsInItsRange option rows
given_read rules option rows has given =
    let v = given.0 in
    let accepted = accepts-Accepts has.rule.ignore_case _ v given.2 in
    let read = passed_read option.least option.most v (rw has.parser at accepted) in
    record {
      text = without_minus v;
      given = rw (has.name, has.parser) at given.1;
      number = number_in (without_minus v);
      read = read_some option (without_minus v) read;
    }

-- the subcommand that was entered has the option's number, if its own parse has no fault
shape_read : (option : OptionTerms) (subs : List Shape) (word : Text) (words : List Text) (found : Text × List Row)
    → Each (λ s. HasPlan s.name → HasOptions s.rules) subs
    → IsOption option → HasPlan found.0
    → option_map_or (λ s. level_fault s [] nothing_held words false []) (find (λ s. answers_to word (label_of s)) subs) [] ≡ []
    → option_map (λ s. rows_at s words) (find (λ s. answers_to word (label_of s)) subs) ≡ Some found → IsInItsRange option found.1
shape_read option [] word words found all is plan none met = absurd (no_value found met)
shape_read option (s ∷ ss) word words found all is plan none met =
    go (answers_to word (label_of s)) (shape_read option ss word words found all.1 is plan) none met
  where
    Later : Type 0
    Later = option_map_or (λ s. level_fault s [] nothing_held words false []) (find (λ s. answers_to word (label_of s)) ss) [] ≡ []
        → option_map (λ s. rows_at s words) (find (λ s. answers_to word (label_of s)) ss) ≡ Some found → IsInItsRange option found.1

    here : level_fault s [] nothing_held words false [] ≡ [] → rows_at s words ≡ found → IsInItsRange option found.1
    here none same =
        let has = all.0 (subst HasPlan (sym (ap (λ (f : Text × List Row). f.0) same)) plan) in
        let own = option_of s.rules option has is in
        let given = level_gives s [] words false [] own.rule has.usual none own.stands own.own own.has_default in
        subst (λ (f : Text × List Row). IsInItsRange option f.1) same (given_read s.rules option (rows_after s.rules [] words) own given)

    go : (b : Bool) → Later → option_map_or (λ s. level_fault s [] nothing_held words false [])
        (cond b (Some s) (find (λ s. answers_to word (label_of s)) ss)) [] ≡ []
        → option_map (λ s. rows_at s words) (cond b (Some s) (find (λ s. answers_to word (label_of s)) ss)) ≡ Some found
        → IsInItsRange option found.1
    go true later none met = here none (same_value (rows_at s words) found met)
    go false later none met = later none met

-- ---- the program's subcommands

replay_has_no_plan : HasPlan (codes "replay") → ⊥
replay_has_no_plan (inl is) = cc
replay_has_no_plan (inr is) = cc

-- the rules of a subcommand with a plan, as `clap` builds them
abbrev plan_rules : List Rule
plan_rules = filled_from 1 (rule_for workers ∷ rule_for cut ∷ rule_for nodes ∷ help_rule ∷ [])

plan_rules_are : HasOptions plan_rules
unfolding clap_on_literals digits
plan_rules_are = record {
  usual = ((refl, inl (refl, refl, refl)), ((refl, inl (refl, refl, refl)), ((refl, inl (refl, refl, refl)), ((refl, inr refl), tt))));
  has_workers = record {
    rule = filled (rule_for workers);
    stands = inl refl;
    own = refl;
    name = refl;
    parser = refl;
    has_default = omega arith;
  };
  has_cut = record {
    rule = filled (rule_for cut);
    stands = inr (inl refl);
    own = refl;
    name = refl;
    parser = refl;
    has_default = omega arith;
  };
  has_nodes = record {
    rule = filled (rule_for nodes);
    stands = inr (inr (inl refl));
    own = refl;
    name = refl;
    parser = refl;
    has_default = omega arith;
  };
}

subs_have_options : Each (λ s. HasPlan s.name → HasOptions s.rules) (built program).subs
unfolding clap_on_literals digits
subs_have_options = (λ plan. absurd (replay_has_no_plan plan), ((λ plan. plan_rules_are), ((λ plan. plan_rules_are), tt)))

stop_read : (option : OptionTerms) (stop : Option (Text × List Text)) (found : Text × List Row) → IsOption option → HasPlan found.0
    → entered_fault (built program) stop ≡ [] → entered (built program) stop ≡ Some found → IsInItsRange option found.1
stop_read option None found is plan none met = absurd (no_value found met)
stop_read option (Some p) found is plan none met = shape_read option (built program).subs p.0 p.1 found subs_have_options is plan none met

-- words without a fault give each option of the subcommand's plan a number in its range
pub in_range : (words : List Text) (found : Text × List Row) (option : OptionTerms) → fault_of program words ≡ []
    → subcommand_of program words ≡ Some found
    → HasPlan found.0 → IsOption option → IsInItsRange option found.1
in_range words found option none met plan is =
    let names = names_of (built program) in
    let args = argument_words program words in
    let stop = stop_after (built program).top.rules names args in
    let first = none_of_both (walk_fault (built program).top names (walk_from nothing_held) args) _ none in
    let second = none_of_both (entered_fault (built program) stop) _ first.1 in
    stop_read option stop found is plan second.0 met
