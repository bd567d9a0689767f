-- The command line: the program's command, and the job that words ask it for.
use Rattle.std.specs.Prelude.{◌≡◌, ◌≢◌, ◌&&◌, ◌⊎◌, ℕ, pos, Bool, true, false, List, [], ◌∷◌, Option, Some, None, codes, decimal, length}
use Rattle.std.specs.Prelude.{nat_le, nat_lt, if◌then◌else◌}
use Rattle.std.specs.Prelude.{Result, Ok, IsErr, option_and_then, unwrap_or}
use Rattle.std.specs.declared.alloc.Global.{Global}
use Rattle.std.specs.declared.string.String.{String}
use Rattle.std.specs.List.{list_all}
use Rattle.std.specs.Char.{digit_value}
use Rattle.std.specs.Str.{bytes_eq}
use Rattle.std.specs.Str.Parse.{digits_value, without_leading_plus}
use Rattle.clap.specs.Words.{App, IsAmong, Row, Rule, Shape, Text, fault_of, new_app, new_rule, one_of, subcommand_of, with_rule}
use Rattle.clap.specs.Words.{with_subcommand}
use Rattle.clap.specs.declared.builder.ArgAction.TheVariants.{Set}
use Rattle.clap.specs.declared.builder.value_parser.ValueParser.TheVariants.{Signed}
use Rattle.clap.specs.declared.error.ErrorKind.{ErrorKind}
use Rattle.clap.specs.declared.error.ErrorKind.TheVariants.{DisplayHelp, OutOfMemory}
use Rattle.dam_plan.specs.Limits.{most_workers, most_cut, most_nodes}
use Rattle.dam_plan.specs.Plan.{PlanTerms}
use Rattle.dam_line.specs.declared.line.Job.{Job}
use Rattle.dam_line.specs.declared.line.Job.TheVariants.{Replay, Clear, Day}
use Rattle.dam_line.specs.declared.line.LineFault.{LineFault}
use Rattle.dam_line.specs.declared.line.LineFault.TheVariants.{Refused, Memory}

-- an option `--NAME NUMBER`: its range, and the number that stands if the words give none
pub record OptionTerms : Type 0 where
  pub name : Text
  pub least : ℕ
  pub most : ℕ
  pub default : ℕ

-- the option `--workers`
abbrev pub workers : OptionTerms
workers = record { name = codes "workers"; least = 1; most = most_workers; default = 2 }

-- the option `--cut`
abbrev pub cut : OptionTerms
cut = record { name = codes "cut"; least = 0; most = most_cut; default = 3 }

-- the option `--nodes`
abbrev pub nodes : OptionTerms
nodes = record { name = codes "nodes"; least = 1; most = most_nodes; default = most_nodes }

-- the option as `clap` has it: given once at most, with one number in its range
abbrev pub rule_for : OptionTerms → Rule
rule_for option = record (new_rule option.name) {
  long = Some option.name;
  action = Some Set;
  value_names = 1;
  parser = Some (Signed (pos option.least) (pos option.most));
  defaults = decimal option.default ∷ [];
}

-- a command with the three options of a plan
abbrev pub with_plan : App → App
with_plan command = with_rule (with_rule (with_rule command (rule_for workers)) (rule_for cut)) (rule_for nodes)

-- the subcommand `replay`
abbrev pub replay : Shape
replay = (new_app (codes "replay")).top

-- the subcommand `clear`
abbrev pub clear : Shape
clear = (with_plan (new_app (codes "clear"))).top

-- the subcommand `day`
abbrev pub day : Shape
day = (with_plan (new_app (codes "day"))).top

-- a command with the three subcommands
abbrev pub with_subcommands : App → App
with_subcommands command = with_subcommand (with_subcommand (with_subcommand command replay) clear) day

-- the program's command: the words name one of its subcommands; without words it is refused, with its help
abbrev pub program : App
program =
    let command = with_subcommands (new_app (codes "dam")) in
    record command {
      top = record command.top {
        subcommand_required = true;
        arg_required_else_help = true;
        disable_help_subcommand = true;
        no_binary_name = true;
      };
    }

-- a whole number in decimal digits, after a plus sign or none
abbrev pub is_number : Text → Bool
is_number text =
    let digits = without_leading_plus text in
    nat_lt 0 (length digits) && list_all (λ digit. nat_lt (digit_value digit) 10) digits

-- the number that the text has in decimal digits
abbrev pub number_in : Text → ℕ
number_in text = digits_value 10 (without_leading_plus text)

-- the number that the text gives the option: none if it is no number in its range
abbrev pub read_number : OptionTerms → Text → Option ℕ
read_number option text =
    if is_number text && (nat_le option.least (number_in text) && nat_le (number_in text) option.most)
    then Some (number_in text) else None

-- the number of the option by the matches: its default if they give it none
abbrev pub number_given : OptionTerms → List Row → ℕ
number_given option matches = unwrap_or (option_and_then (read_number option) (one_of option.name matches)) option.default

-- a plan of these three numbers
abbrev pub plan_of : ℕ → ℕ → ℕ → PlanTerms
plan_of workers cut node_limit = record { workers = workers; cut = cut; node_limit = node_limit }

-- the plan that the matches give
abbrev pub plan_given : List Row → PlanTerms
plan_given matches = plan_of (number_given workers matches) (number_given cut matches) (number_given nodes matches)

-- one of the options of a plan
abbrev pub IsOption : OptionTerms → Type 0
IsOption option = (option ≡ workers) ⊎ ((option ≡ cut) ⊎ (option ≡ nodes))

-- the name of a subcommand that takes a plan
abbrev pub HasPlan : Text → Type 0
HasPlan name = (name ≡ codes "clear") ⊎ (name ≡ codes "day")

-- the matches give the option a text, and that is a number in its range
pub record IsInItsRange (option : OptionTerms) (matches : List Row) : Type 0 where
  pub text : Text
  pub given : one_of option.name matches ≡ Some text
  pub number : ℕ
  pub read : read_number option text ≡ Some number

-- the name of a subcommand
abbrev pub IsSubcommand : Text → Type 0
IsSubcommand name = (name ≡ codes "replay") ⊎ ((name ≡ codes "clear") ⊎ (name ≡ codes "day"))

-- the job of a subcommand, by its name and its matches
abbrev pub job_of : Text × List Row → Option Job
job_of found =
    if bytes_eq found.0 (codes "replay") then Some Replay
    else if bytes_eq found.0 (codes "clear") then Some (Clear (plan_given found.1))
    else if bytes_eq found.0 (codes "day") then Some (Day (plan_given found.1))
    else None

-- `clap` takes the words, and by the subcommand and its matches they ask for this job
pub record AsksFor (words : List Text) (job : Job) : Type 0 where
  pub taken : fault_of program words ≡ []
  pub found : option_and_then job_of (subcommand_of program words) ≡ Some job

-- whether the kind of error is a request for help
abbrev pub is_help : ErrorKind → Bool
is_help DisplayHelp = true
is_help _ = false

-- `clap` refuses the words by a kind of error other than lack of memory; `help` says whether it answers that help was asked for
pub record AreRefused (words : List Text) (help : Bool) : Type 0 where
  pub kind : ErrorKind
  pub refuses : IsAmong kind (fault_of program words)
  pub no_memory : kind ≢ OutOfMemory
  pub is_help : help ≡ is_help kind

-- the fault for an error, by its kind and its text: a refusal, unless memory ran out, in the parse or for the text
abbrev pub IsRefusal : {E : Type 0} → ErrorKind → Result (String Global) E → LineFault → Type 0
IsRefusal kind answer (Refused help text) = (kind ≢ OutOfMemory) × (help ≡ is_help kind) × (answer ≡ Ok text)
IsRefusal kind answer Memory = (kind ≡ OutOfMemory) ⊎ IsErr answer

-- the faults that words may be answered if they don't ask for a job
abbrev pub IsLineFault : List Text → LineFault → Type 0
IsLineFault words (Refused help text) = AreRefused words help
IsLineFault words Memory = Unit {0}
