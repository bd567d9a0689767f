-- The command line: the job that its words ask for.
use Rattle.std.specs.Prelude.{◌≡◌, ℕ, Bool, true, false, ◌==◌, List, [], ◌∷◌, codes}
use Rattle.std.specs.Str.{bytes_eq}
use Rattle.dam_desk.specs.declared.command_line.Job.{Job}
use Rattle.dam_desk.specs.declared.command_line.Job.TheVariants.{Serve, Journal, Help}

-- whether the word is an option: it begins with `-`, whose byte is 45
abbrev pub is_option : List ℕ → Bool
is_option [] = false
is_option (byte ∷ rest) = byte == 45

-- These words, after the program's name, ask for this job. No words ask for two.
abbrev pub AskFor : List (List ℕ) → Job → Type 0
AskFor (word ∷ []) Help = bytes_eq word (codes "--help") ≡ true
AskFor (file ∷ []) (Serve path) = (is_option file ≡ false) × (path.now ≡ file)
AskFor (word ∷ file ∷ []) (Journal path) = (bytes_eq word (codes "--journal") ≡ true) × (path.now ≡ file)
AskFor words job = ⊥
