-- The limits on a journal's text.
use Rattle.std.specs.Prelude.{ℕ, ◌+◌}
use Rattle.dam_book.specs.Limits.{most_entries}

-- bytes of a text
abbrev pub most_bytes : ℕ
most_bytes = 16777216

-- records of a text: the day's, and one for each entry of a journal
abbrev pub most_records : ℕ
most_records = most_entries + 1
