-- The limits of a desk.
use Rattle.std.specs.Prelude.{ℕ}

-- bytes of a line that may be a record, without its line feed
abbrev pub most_line : ℕ
most_line = 65536
