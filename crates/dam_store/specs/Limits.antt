-- The limit of a journal.
use Rattle.std.specs.Prelude.{ℕ}

-- bytes of a file, with the marks of its lines
abbrev pub most_file_bytes : ℕ
most_file_bytes = 16777216
