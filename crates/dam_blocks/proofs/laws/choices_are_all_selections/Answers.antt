-- The number of a choice can be read off it.
use Rattle.dam_blocks.proofs.Choices.{some_choice, admissible_choice, choice_once}
use Rattle.dam_blocks.proofs.laws.choices_are_all_selections.Goals as goal

pub returns : goal.returns
returns c = record { each = some_choice; admissible = admissible_choice; once = choice_once }
