-- The text has the number as it is written with its comma.
use Rattle.std.proofs.Common.{refl, rules}
use Rattle.std.specs.Fmt.{digits}
use Rattle.dam_cli.proofs.advice.rule_of.Goals as goal
use Rattle.dam_cli.proofs.advice.rule_of.Goals.{in-TooManyCommands, in-CloseGiven, in-TooManyParticipants, in-StillOpen}

pub returns-clause-commands : goal.returns-clause-commands
unfolding digits
returns-clause-commands c is =
    elim c.match-fault.branch [
      | in-TooManyCommands w ↦ (rw w.text-is refl)
      | in-CloseGiven w ↦ search rules
      | in-TooManyParticipants w ↦ search rules
      | in-StillOpen w ↦ search rules
    ]
