-- The answer of `clap` for a simple command is exact.
use Rattle.std.proofs.Common.{◌≡◌, ◌∙◌, List, Option, Some, None, map, sym, ap, subst}
use Rattle.std.specs.Prelude.{option_and_then, option_map}
use Rattle.std.specs.Box.{box_value}
use Rattle.clap.specs.Words.{App, HasMatchesOf, Row, Text, app_of, fault_of, found_of, is_simple, is_simple_and_free, kind_of, rows_of}
use Rattle.clap.specs.Words.{subcommand_name_of, subcommand_of, subcommand_rows_of}
use Rattle.clap.specs.Kinds.{HasKind}
use Rattle.clap.specs.declared.parser.matches.ArgMatches.{ArgMatches}
use Rattle.clap.specs.declared.parser.matches.ArgMatches.TheViews.{out-ArgMatches, out-SubCommand}
use Rattle.dam_line.specs.Line.{IsRefusal, program, job_of}
use Rattle.dam_line.proofs.Program.{fault_by, is_command, is_free-program, is_simple-program}
use Rattle.dam_line.proofs.line.read_job.Goals as goal

abbrev second_of : {A B : Type 0} → Option (A × B) → Option B
second_of = option_map (λ p. p.1)

abbrev both_of : {X A B : Type 0} → (X → A) → (X → B) → X → A × B
both_of f h x = (f x, h x)

paired : {X A B : Type 0} (x : Option X) (f : X → A) (h : X → B) (a : A) (b : B) → Some a ≡ option_map f x
    → Some b ≡ second_of (option_map (both_of f h) x) → option_map (both_of f h) x ≡ Some (a, b)
paired None f h a b first second = cc
paired (Some y) f h a b first second = cc

pub returns-in-Err-clause-refused : goal.returns-in-Err-clause-refused
returns-in-Err-clause-refused g c =
    let words = map g.S.AsStr.text c.args.words.now in
    let app : app_of c.in-Ok.command ≡ program = c.in-Ok.ensures in
    let kinds = c.in-Err.ensures.kinds (ap is_simple_and_free app ∙ is_free-program) in
    fault_by words (kind_of c.in-Err.error) _ c.fault_of_error.result
    (subst (λ kind. IsRefusal kind c.to_string.result c.fault_of_error.result) c.kind.ensures c.fault_of_error.ensures)
    (subst (λ a. HasKind (fault_of a words) c.in-Err.error) app kinds)

-- the subcommand that was met is the one of the definition
met : (words : List Text) (app : App) (m : ArgMatches) (name : Text) (rows : List Row) → app ≡ program → HasMatchesOf app words m
    → Some name ≡ subcommand_name_of m → Some rows ≡ second_of (subcommand_rows_of m) → subcommand_of program words ≡ Some (name, rows)
met words app m name rows is matches first second =
    sym ((matches (ap is_simple is ∙ is_simple-program)).1 ∙ ap (λ a. subcommand_of a words) is)
    ∙ paired (out-ArgMatches m).subcommand (λ b. (out-SubCommand (box_value b)).name.now)
    (λ b. rows_of (found_of (out-SubCommand (box_value b)).matches)) name rows first second

pub job_of-requires : goal.job_of-requires
job_of-requires g c =
    let words = map g.S.AsStr.text c.args.words.now in
    is_command words (c.in-Some.name.now, rows_of (found_of c.in-Some.options.now))
    (met words _ c.in-Ok-try_get_matches_from.matches _ _ c.in-Ok.ensures c.in-Ok-try_get_matches_from.ensures.matches
    c.in-Some.ensures.name c.in-Some.ensures.rows)

pub returns-clause-ok : goal.returns-clause-ok
returns-clause-ok g c =
    let words = map g.S.AsStr.text c.args.words.now in
    let app : app_of c.in-Ok.command ≡ program = c.in-Ok.ensures in
    let kinds = c.in-Ok-try_get_matches_from.ensures.kinds (ap is_simple_and_free app ∙ is_free-program) in
    record {
      taken = sym (ap (λ a. fault_of a words) app) ∙ kinds;
      found = ap (option_and_then job_of)
          (met words _ c.in-Ok-try_get_matches_from.matches _ _ app c.in-Ok-try_get_matches_from.ensures.matches c.in-Some.ensures.name
          c.in-Some.ensures.rows)
          ∙ c.job_of.ensures;
    }
