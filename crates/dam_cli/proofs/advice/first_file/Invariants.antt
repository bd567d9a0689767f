-- The word found among all words is the word found among the rest.
use Rattle.std.proofs.Common.{◌≡◌, drop, false, map}
use Rattle.std.specs.String.{string_bytes}
use Rattle.dam_cli.specs.Advice.{first_file}
use Rattle.dam_cli.proofs.advice.first_file.Given as goal

abbrev pub invariant-loop-word : goal.invariant-loop-word
invariant-loop-word l =
    first_file l.is_number (map string_bytes (drop l.word-index l.words)) ≡ first_file false (map string_bytes l.words)
