-- The bytes of a journal's file.
use Rattle.std.specs.Prelude.{◌≡◌, ◌⊎◌, ℕ, ◌+◌, ◌<◌, ◌≤◌, ◌==◌, ◌||◌, Bool, true, false, not, Option, None, Some, MatchOption, List, [], ◌∷◌, ◌++◌, length, drop, slice_index}
use Rattle.dam_store.specs.Limits.{most_file_bytes}
use Rattle.dam_store.specs.FileLines.{HaveNoNewline, text_of, marked, marked_lines, bytes_on_disk, lines_in, has_byte, is_unmade}

-- some byte is a newline
abbrev pub has_newline : List ℕ → Bool
has_newline bytes = has_byte 10 bytes

-- the bytes begin with a marked line, of this length with its mark and its newline
pub record BeginsWithLine (bytes : List ℕ) (len : ℕ) : Type 0 where
  pub line : List ℕ
  pub whole : has_newline line ≡ false
  pub split : bytes ≡ 43 ∷ line ++ 10 ∷ drop len bytes
  pub len_is : len ≡ length line + 2
  pub within : len ≤ length bytes

-- the bytes don't begin with a whole marked line
abbrev pub IsShut : List ℕ → Type 0
IsShut bytes = ((slice_index bytes 0 == 43) ≡ false) ⊎ (has_newline bytes ≡ false)

-- whole marked lines were read from the bytes, `end` bytes of them, and `rest` is left
pub record AreRead (bytes rest text : List ℕ) (end : ℕ) : Type 0 where
  pub lines : List (List ℕ)
  pub whole : HaveNoNewline lines
  pub split : bytes ≡ marked lines ++ rest
  pub end_is : end ≡ length (marked lines)
  pub text_is : text ≡ text_of lines

-- the bytes are these whole marked lines up to `end`, and no whole marked line comes next
pub record EndsAt (bytes : List ℕ) (end : ℕ) (lines : List (List ℕ)) : Type 0 where
  pub split : bytes ≡ marked lines ++ drop end bytes
  pub end_is : end ≡ length (marked lines)
  pub whole : HaveNoNewline lines
  pub shut : IsShut (drop end bytes)

-- the file is the first line and these lines up to `end`, and no whole marked line comes next
pub record FileLinesEndAt (file : List ℕ) (end : ℕ) (lines : List (List ℕ)) : Type 0 where
  pub split : file ≡ bytes_on_disk lines ++ drop end file
  pub end_is : end ≡ length (bytes_on_disk lines)
  pub whole : HaveNoNewline lines
  pub shut : IsShut (drop end file)
  pub short : length file ≤ most_file_bytes

-- the bytes don't begin with a whole marked line
abbrev pub is_shut : List ℕ → Bool
is_shut bytes = not (slice_index bytes 0 == 43) || not (has_newline bytes)

-- the lines that the file holds end at `end`, and it has room for one more byte there
pub record IsEndedAt (file : List ℕ) (end : ℕ) : Type 0 where
  pub split : file ≡ bytes_on_disk (lines_in file) ++ drop end file
  pub end_is : end ≡ length (bytes_on_disk (lines_in file))
  pub shut : is_shut (drop end file) ≡ true
  pub short : length file ≤ most_file_bytes
  pub room : end < most_file_bytes

-- where the lines of a file end; it was never made whole if they end nowhere
abbrev pub IsEnd : List ℕ → Option ℕ → Type 0
IsEnd file end = MatchOption end (is_unmade file ≡ true) (IsEndedAt file)

-- the bytes of the file from the end of its lines on; all, if they end nowhere
abbrev pub rest_of : List ℕ → Option ℕ → List ℕ
rest_of file None = file
rest_of file (Some end) = drop end file

-- the file is the first line and these lines up to `end`, and then one line that doesn't count yet
pub record IsAtRest (file : List ℕ) (end : ℕ) (lines : List (List ℕ)) : Type 0 where
  pub split : file ≡ bytes_on_disk lines ++ 45 ∷ drop (end + 1) file
  pub end_is : end ≡ length (bytes_on_disk lines)
  pub whole : HaveNoNewline lines
  pub last : has_newline (drop (end + 1) file) ≡ false
  pub short : length file ≤ most_file_bytes

-- the same for the lines that the file holds
pub record IsFileAtRest (file : List ℕ) (end : ℕ) : Type 0 where
  pub split : file ≡ bytes_on_disk (lines_in file) ++ 45 ∷ drop (end + 1) file
  pub end_is : end ≡ length (bytes_on_disk (lines_in file))
  pub last : has_newline (drop (end + 1) file) ≡ false
  pub short : length file ≤ most_file_bytes

-- the bytes of a batch: whole marked lines, and then the mark of a line that doesn't count yet
pub record IsBatch (bytes : List ℕ) : Type 0 where
  pub split : bytes ≡ marked (marked_lines bytes) ++ 45 ∷ []
  pub whole : HaveNoNewline (marked_lines bytes)
