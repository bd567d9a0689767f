-- The definitions compute at words that are written out.
use Rattle.std.proofs.Common.{refl, inl}
use Rattle.std.specs.Fmt.{digits}
use Rattle.clap.proofs.OnLiterals.{clap_on_literals}
use Rattle.clap.specs.declared.error.ErrorKind.TheVariants.{DisplayHelp, DisplayHelpOnMissingArgumentOrSubcommand}
use Rattle.clap.specs.declared.error.ErrorKind.TheVariants.{UnknownArgument}
use Rattle.dam_line.proofs.laws.examples.Goals as goal

pub returns-clause-replay : goal.returns-clause-replay
unfolding clap_on_literals digits
returns-clause-replay c = record { taken = refl; found = refl }

pub returns-clause-defaults : goal.returns-clause-defaults
unfolding clap_on_literals digits
returns-clause-defaults c = record { taken = refl; found = refl }

pub returns-clause-options : goal.returns-clause-options
unfolding clap_on_literals digits
returns-clause-options c = record { taken = refl; found = refl }

pub returns-clause-help : goal.returns-clause-help
unfolding clap_on_literals digits
returns-clause-help c = record { kind = DisplayHelp; refuses = inl refl; no_memory = (λ same. cc); is_help = refl }

pub returns-clause-unknown : goal.returns-clause-unknown
unfolding clap_on_literals digits
returns-clause-unknown c = record { kind = UnknownArgument; refuses = inl refl; no_memory = (λ same. cc); is_help = refl }

pub returns-clause-nothing : goal.returns-clause-nothing
unfolding clap_on_literals digits
returns-clause-nothing c = record
    { kind = DisplayHelpOnMissingArgumentOrSubcommand; refuses = inl refl; no_memory = (λ same. cc); is_help = refl }
