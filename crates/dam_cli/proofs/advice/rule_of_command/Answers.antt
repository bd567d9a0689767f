-- The texts for a participant and for a name have the most bytes of one.
use Rattle.std.proofs.Common.{refl, rules}
use Rattle.std.specs.Fmt.{digits}
use Rattle.dam_cli.proofs.advice.rule_of_command.Goals as goal
use Rattle.dam_cli.proofs.advice.rule_of_command.Goals.{in-1, in-2, in-3, in-4, in-5, in-8, in_default}

pub returns-clause-limits : goal.returns-clause-limits
unfolding digits
returns-clause-limits c =
    elim c.match-field.branch [
      | in-1 w ↦ search rules
      | in-2 w ↦ (λ _. (rw w.text-is refl), search rules, search rules, search rules)
      | in-3 w ↦ (search rules, λ _. (rw w.text-is refl), search rules, search rules)
      | in-4 w ↦ search rules
      | in-5 w ↦ search rules
      | in-8 w ↦ search rules
      | in_default w ↦ search rules
    ]
