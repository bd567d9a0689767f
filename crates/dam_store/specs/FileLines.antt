-- The lines that a file's bytes stand for, whatever a crash made of them.
use Rattle.std.specs.Prelude.{◌≡◌, ◌⊎◌, ℕ, ◌==◌, ◌&&◌, ◌||◌, Bool, true, false, if◌then◌else◌, List, [], ◌∷◌, ◌++◌, Option, Some, None, length, take, drop, codes, nat_le, nat_lt, bytes_eq}
use Rattle.std.specs.List.{AllByRecursion, list_any}
use Rattle.dam_store.specs.Limits.{most_file_bytes}

-- the byte is among these
abbrev pub has_byte : ℕ → List ℕ → Bool
has_byte byte bytes = list_any (λ b. b == byte) bytes

-- the bytes of a line: no newline and no zero byte
abbrev pub IsLine : List ℕ → Type 0
IsLine line = (has_byte 10 line ≡ false) × (has_byte 0 line ≡ false)

-- none of the lines has a newline
abbrev pub HaveNoNewline : List (List ℕ) → Type 0
HaveNoNewline lines = AllByRecursion (λ line. has_byte 10 line ≡ false) lines

-- lines as a text: a newline ends each
abbrev pub text_of : List (List ℕ) → List ℕ
text_of [] = []
text_of (line ∷ lines) = line ++ 10 ∷ text_of lines

-- lines as a file has them: each begins with the mark `+`, and a newline ends it
abbrev pub marked : List (List ℕ) → List ℕ
marked [] = []
marked (line ∷ lines) = 43 ∷ line ++ 10 ∷ marked lines

-- The whole marked lines at the beginning of the bytes. `None`: the bytes begin a line. `Some line`: they continue a
-- marked line that begins with these bytes.
abbrev pub lines_from : Option (List ℕ) → List ℕ → List (List ℕ)
lines_from place [] = []
lines_from None (byte ∷ bytes) = if byte == 43 then lines_from (Some []) bytes else []
lines_from (Some line) (byte ∷ bytes) = if byte == 10 then line ∷ lines_from None bytes else lines_from (Some (line ++ byte ∷ [])) bytes

-- the whole marked lines at the beginning of the bytes, up to the first that lacks its mark or its newline
abbrev pub marked_lines : List ℕ → List (List ℕ)
marked_lines bytes = lines_from None bytes

-- the first line of each file, `+dam-desk 1`
abbrev pub head_line : List ℕ
head_line = 43 ∷ codes "dam-desk 1" ++ 10 ∷ []

-- the bytes that the first line and these lines have on the disk
abbrev pub bytes_on_disk : List (List ℕ) → List ℕ
bytes_on_disk lines = head_line ++ marked lines

-- the lines after the first line of a journal's file
abbrev pub lines_in : List ℕ → List (List ℕ)
lines_in file = marked_lines (drop (length head_line) file)

-- a new file after its first byte: the first line, and then the mark `-` of a line that doesn't count yet
abbrev pub after_first : List ℕ
after_first = codes "dam-desk 1" ++ 10 ∷ 45 ∷ []

-- The file was never made whole: it has at most one byte, or `-` and then at most the bytes of a new file, or all of
-- them after another first byte.
abbrev pub is_unmade : List ℕ → Bool
is_unmade [] = true
is_unmade (first ∷ []) = true
is_unmade (first ∷ second ∷ rest) =
    (first == 45 && nat_le (length (second ∷ rest)) (length after_first)) || bytes_eq (second ∷ rest) after_first

-- the lines, if a file has room for one more byte after them
abbrev pub with_room : List (List ℕ) → Option (List (List ℕ))
with_room lines = if nat_lt (length (bytes_on_disk lines)) most_file_bytes then Some lines else None

-- The lines that a file stands for: those after its first line. A file that was never made whole stands for no lines,
-- and any other file isn't a journal.
abbrev pub stands_for : List ℕ → Option (List (List ℕ))
stands_for file =
    if nat_lt most_file_bytes (length file) then None
    else if bytes_eq (take (length head_line) file) head_line then with_room (lines_in file)
    else if is_unmade file then Some []
    else None

-- the file stands for these lines
abbrev pub StandsFor : List (List ℕ) → List ℕ → Type 0
StandsFor lines file = stands_for file ≡ Some lines

-- the file stands for the first lines, or for those and all of the others
abbrev pub StandsForEither : List (List ℕ) → List (List ℕ) → List ℕ → Type 0
StandsForEither lines more file = StandsFor lines file ⊎ StandsFor (lines ++ more) file
