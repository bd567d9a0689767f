-- The program's command as `clap` sees it, and the consequences of its answers.
use Rattle.std.proofs.Common.{◌≡◌, ◌⊎◌, Bool, cond, true, false, List, [], ◌∷◌, Option, Some, None, refl, ap, inl, inr, subst}
use Rattle.std.specs.Prelude.{Result, find, option_map, unwrap_or}
use Rattle.std.specs.declared.alloc.Global.{Global}
use Rattle.std.specs.declared.string.String.{String}
use Rattle.clap.specs.Words.{IsAmong, Row, Shape, Text, fault_of, is_simple, is_simple_and_free, subcommand_of}
use Rattle.clap.specs.Simple.{argument_words, built, entered, label_of, names_of, rows_at}
use Rattle.clap.specs.Walk.{answers_to, stop_after}
use Rattle.clap.proofs.OnLiterals.{clap_on_literals}
use Rattle.clap.specs.declared.error.ErrorKind.{ErrorKind}
use Rattle.clap.specs.declared.error.ErrorKind.TheVariants.{OutOfMemory}
use Rattle.dam_line.specs.declared.line.LineFault.{LineFault}
use Rattle.dam_line.specs.declared.line.LineFault.TheVariants.{Refused, Memory}
use Rattle.dam_line.specs.Line.{IsSubcommand, IsLineFault, IsRefusal, program}

pub is_simple-program : is_simple program ≡ true
unfolding clap_on_literals
is_simple-program = refl

pub is_free-program : is_simple_and_free program ≡ true
unfolding clap_on_literals
is_free-program = refl

pub no_value : {X : Type 0} (x : X) → None ≡ Some x → ⊥
no_value x is = cc

-- each shape has a subcommand's name
abbrev AreCommands : List Shape → Type 0
AreCommands [] = Unit {0}
AreCommands (s ∷ ss) = IsSubcommand s.name × AreCommands ss

named_shape : (subs : List Shape) → AreCommands subs → (word : Text) (words : List Text) (found : Text × List Row)
    → option_map (λ s. rows_at s words) (find (λ s. answers_to word (label_of s)) subs) ≡ Some found → IsSubcommand found.0
named_shape [] all word words found is = absurd (no_value found is)
named_shape (s ∷ ss) all word words found is = go (answers_to word (label_of s)) (named_shape ss all.1 word words found) is
  where
    go : (b : Bool) → (option_map (λ s. rows_at s words) (find (λ s. answers_to word (label_of s)) ss) ≡ Some found → IsSubcommand found.0)
        → option_map (λ s. rows_at s words) (cond b (Some s) (find (λ s. answers_to word (label_of s)) ss)) ≡ Some found
        → IsSubcommand found.0
    go true later is = subst IsSubcommand (ap (λ o. (unwrap_or o found).0) is) all.0
    go false later is = later is

named_stop : (stop : Option (Text × List Text)) (found : Text × List Row) → entered (built program) stop ≡ Some found → IsSubcommand found.0
named_stop None found is = absurd (no_value found is)
named_stop (Some p) found is = named_shape (built program).subs (inl refl, (inr (inl refl), (inr (inr refl), tt))) p.0 p.1 found is

-- the words name one of the subcommands
pub is_command : (words : List Text) (found : Text × List Row) → subcommand_of program words ≡ Some found → IsSubcommand found.0
is_command words found is = named_stop
    (stop_after (built program).top.rules (names_of (built program)) (argument_words program words)) found is

-- the fault that an error comes to, if its kind is one that the words have
pub fault_by : {E : Type 0} (words : List Text) (kind : ErrorKind) (answer : Result (String Global) E) (fault : LineFault)
    → IsRefusal kind answer fault
    → (kind ≡ OutOfMemory) ⊎ IsAmong kind (fault_of program words) → IsLineFault words fault
fault_by words kind answer (Refused help text) is (inl none) = absurd (is.0 none)
fault_by words kind answer (Refused help text) is (inr among) = record { kind = kind; refuses = among; no_memory = is.0; is_help = is.1 }
fault_by words kind answer Memory is has = tt
