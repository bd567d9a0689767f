use Rattle.std.proofs.Common.{◌≡◌, List, ℕ, [], ◌+◌, ◌-◌, ◌<◌, ◌≤◌, ◌++◌, inr, true, length, take, drop, refl, sym, ap, ◌∙◌, subst, arith}
use Rattle.std.proofs.lemmas.List.{take_rest}
use Rattle.std.proofs.lemmas.Slice.Eq.{starts_is}
use Rattle.std.proofs.lemmas.Bool.Decides.{Decides-eqb}
use Rattle.std.specs.Str.{bytes_eq}
use Rattle.dam_store.specs.Limits.{most_file_bytes}
use Rattle.dam_store.specs.FileLines.{head_line, lines_in, marked_lines, text_of}
use Rattle.dam_store.specs.inside.Shape.{EndsAt, FileLinesEndAt}
use Rattle.dam_store.proofs.Rest.{ended_of, journal_from, journal_stands, no_room}
use Rattle.dam_store.proofs.Unmade.{unmade_stands}
use Rattle.dam_store.proofs.file_lines.lines_of_file_bytes.Goals as goal

pub returns-then-is_unmade-clause-text : goal.returns-then-is_unmade-clause-text
returns-then-is_unmade-clause-text c = (
  [],
  unmade_stands c.args.file.now (sym c.is_unmade.ensures ∙ c.if-is_unmade.true),
  c.new-text.ensures.items,
)

-- the lines that were read
journal : (file : List ℕ) (end : ℕ) → length file ≤ most_file_bytes → file ≡ head_line ++ drop 12 file
    → EndsAt (take (length file - 12) (drop 12 file)) end (marked_lines (take (length file - 12) (drop 12 file)))
    → FileLinesEndAt file (12 + end) (lines_in file)
journal file end short head ends =
    journal_from file end (lines_in file) head short
    (subst (λ (l : List ℕ). EndsAt l end (marked_lines l)) (take_rest file 12) ends)

pub returns-then-end-ge-MOST_FILE_BYTES-clause-fault : goal.returns-then-end-ge-MOST_FILE_BYTES-clause-fault
returns-then-end-ge-MOST_FILE_BYTES-clause-fault c =
    let file = c.args.file.now in
    let head : file ≡ head_line ++ drop 12 file = (starts_is Decides-eqb file head_line c.starts_with.result c.starts_with.ensures.value).0 c.if-not-starts_with.false in
    let end = c.in_ok-found.found.end in
    let full : most_file_bytes ≤ 12 + end = c.if-end-ge-MOST_FILE_BYTES.true in
    let all : FileLinesEndAt file (12 + end) (lines_in file) = journal file end c.requires head c.in_ok-found.ensures.end in
    inr (record {
      none = no_room file (12 + end) (lines_in file) all full;
      cause = (
        c.requires,
        subst (λ (f : List ℕ). bytes_eq (take 12 f) head_line ≡ true) (sym head) refl,
        omega (arith, all.end_is, full),
      );
    })

pub returns-clause-text : goal.returns-clause-text
returns-clause-text c =
    let file = c.args.file.now in
    let head : file ≡ head_line ++ drop 12 file = (starts_is Decides-eqb file head_line c.starts_with.result c.starts_with.ensures.value).0 c.if-not-starts_with.false in
    let end = c.in_ok-found.found.end in
    let room : 12 + end < most_file_bytes = c.if-end-ge-MOST_FILE_BYTES.false in
    let all : FileLinesEndAt file (12 + end) (lines_in file) = journal file end c.requires head c.in_ok-found.ensures.end in (
      lines_in file,
      journal_stands file (12 + end) (lines_in file) all room,
      c.in_ok-found.ensures.text ∙ ap (λ (l : List ℕ). text_of (marked_lines l)) (take_rest file 12),
    )

pub returns-clause-end : goal.returns-clause-end
returns-clause-end c =
    let file = c.args.file.now in
    let head : file ≡ head_line ++ drop 12 file = (starts_is Decides-eqb file head_line c.starts_with.result c.starts_with.ensures.value).0 c.if-not-starts_with.false in
    ended_of file (12 + c.in_ok-found.found.end) (journal file c.in_ok-found.found.end c.requires head c.in_ok-found.ensures.end) c.if-end-ge-MOST_FILE_BYTES.false
