-- The lines that the writer of comma-separated values writes for fields with no mark of the format.
use Rattle.std.proofs.Common.{◌≡◌, ◌<◌, ◌≤◌, ◌+◌, ℕ, List, [], ◌∷◌, ◌++◌, length, take, get_or, false, refl, ap, subst, ◌∙◌}
use Rattle.std.proofs.Common.{append-nil}
use Rattle.std.specs.Prelude.{Result, Ok, Err, OnOk, Option, Some}
use Rattle.std.specs.Io.KnownBytes.{Keeps}
use Rattle.std.specs.List.{AllByRecursion, join_with_byte}
use Rattle.std.specs.declared.vec.Vec.{Vec}
use Rattle.std.proofs.lemmas.List.{take_more, take_all, map-append}
use Rattle.csv.specs.Writing.{default_writer, field_text, fields_text, is_blank, row_text, fields_written, has_written, writer_setup}
use Rattle.csv.specs.Writing.{writer_under, writer_pending, text_written}
use Rattle.csv.specs.declared.writer.Writer.{Writer}
use Rattle.dam_book.specs.declared.command.Command.{Command}
use Rattle.dam_book.specs.declared.command.Entry.{Entry}
use Rattle.dam_book.specs.Book.{commands_of}
use Rattle.dam_results.specs.Records.{Fields, record_of_command}
use Rattle.dam_results.specs.Journal.{IsCommand}
use Rattle.dam_results.specs.Written.{record_line, written, journal_text}
use Rattle.dam_results.specs.Writer.{HasWritten}
use Rattle.dam_results.specs.declared.journal_writing.JournalWriter.{JournalWriter}
use Rattle.dam_results.specs.inside.Writer.{Wrote, WritesCommand}
use Rattle.dam_results.proofs.FieldBytes.{AreFields, limits, command_fields}
use Rattle.dam_results.proofs.SpelledRecords.{IsPlain, ArePlain}
use Rattle.dam_results.proofs.ReadBack.{plain_fields}

bare : (x : List ℕ) → IsPlain x → field_text default_writer x ≡ x
bare x h = rw h refl

bare_fields : (x : List ℕ) (xs : Fields) → ArePlain xs → x ++ fields_text default_writer xs ≡ join_with_byte 44 (x ∷ xs)
unfolding fields_text
bare_fields x [] h = append-nil x
bare_fields x (y ∷ ys) h = rw (bare y h.0) (ap (λ (bytes : List ℕ). x ++ 44 ∷ bytes) (bare_fields y ys h.1))

bare_row : (x y : List ℕ) (ys : Fields) → ArePlain (x ∷ y ∷ ys) → row_text default_writer (x ∷ y ∷ ys) ≡ record_line (x ∷ y ∷ ys)
unfolding is_blank
bare_row x y ys h = rw (bare x h.0) (ap (λ (bytes : List ℕ). bytes ++ 10 ∷ []) (bare_fields x (y ∷ ys) h.1))

pub row_text-line : (row : Fields) → AreFields limits row → row_text default_writer row ≡ record_line row
unfolding limits
row_text-line [] h = absurd h
row_text-line (x ∷ []) h = absurd h.1
row_text-line (x ∷ y ∷ ys) h = bare_row x y ys (plain_fields limits (x ∷ y ∷ ys) h)

pub wrote_line : {A T E : Type 0} (before after : Writer (Vec ℕ A)) (result : Result T E) (row : Fields) → AreFields limits row
    → OnOk result ((text : List ℕ) → Wrote before text → Wrote after (text ++ row_text default_writer row)) → OnOk result
    ((text : List ℕ) → Wrote before text → Wrote after (text ++ record_line row))
wrote_line before after (Ok x) row h w = λ text at. subst (λ (line : List ℕ). Wrote after (text ++ line)) (row_text-line row h) (w text at)
wrote_line before after (Err e) row h w = tt

pub writes_command : {A T E : Type 0} (before after : Writer (Vec ℕ A)) (result : Result T E) (row : Fields) (command : Command)
    → IsCommand command → row ≡ record_of_command command
    → OnOk result ((text : List ℕ) → Wrote before text → Wrote after (text ++ row_text default_writer row)) → OnOk result
    (WritesCommand before after command)
writes_command before after (Ok x) row command h e w =
    record {
      valid = h;
      line = λ text at. subst (λ (line : List ℕ). Wrote after (text ++ line))
          (ap (row_text default_writer) e ∙ row_text-line (record_of_command command) (command_fields command h)) (w text at);
    }
writes_command before after (Err x) row command h e w = tt

-- a writer that has written nothing
pub wrote_none : {A : Type 0} (out : Writer (Vec ℕ A)) → fields_written out ≡ 0 → has_written out ≡ false
    → writer_setup out ≡ default_writer → (writer_under out).items ≡ [] → writer_pending out ≡ [] → Wrote out []
wrote_none out between clean setup under pending =
    record { between = between; clean = clean; setup = setup; bytes = rw (under, pending) refl }

-- the entries before this place are written, and their commands are within their limits
pub record WroteEntries (writer : JournalWriter) (periods : ℕ) (entries : List Entry) (i : ℕ) : Type 0 where
  pub valid : AllByRecursion IsCommand (commands_of (take i entries))
  pub lines : HasWritten writer (written periods (commands_of (take i entries)))

valid_more : (cs : List Command) (c : Command) → AllByRecursion IsCommand cs → IsCommand c → AllByRecursion IsCommand (cs ++ c ∷ [])
valid_more [] c h k = (k, tt)
valid_more (d ∷ cs) c h k = (h.0, valid_more cs c h.1 k)

commands_more : (entries : List Entry) (i : ℕ) (e : Entry) → i < length entries → get_or entries i e ≡ e → commands_of
    (take (i + 1) entries) ≡ commands_of (take i entries) ++ e.command ∷ []
commands_more entries i e within here = rw (take_more entries i e, here, map-append) refl

pub wrote_more : (before after : JournalWriter) (periods : ℕ) (entries : List Entry) (i : ℕ) (e : Entry) → i < length entries
    → get_or entries i e ≡ e → WroteEntries before periods entries i → IsCommand e.command
    → ((commands : List Command) → HasWritten before (written periods commands)
    → HasWritten after (written periods (commands ++ e.command ∷ []))) → WroteEntries after periods entries (i + 1)
wrote_more before after periods entries i e within here h valid adds =
    let cs = commands_of (take i entries) in
    let more : commands_of (take (i + 1) entries) ≡ cs ++ e.command ∷ [] = commands_more entries i e within here in
    record { valid = rw more (valid_more cs e.command h.valid valid); lines = rw more (adds cs h.lines) }

pub wrote_all : (writer : JournalWriter) (periods : ℕ) (entries : List Entry) (i : ℕ) → length entries ≤ i
    → WroteEntries writer periods entries i
    → AllByRecursion IsCommand (commands_of entries) × HasWritten writer (journal_text periods entries)
wrote_all writer periods entries i over h = (rw (take_all i entries over) at h.valid, rw (take_all i entries over) at h.lines)

-- the text that the writer gives at the end is the text that it has written
pub wrote_text : {A : Type 0} (out : Writer (Vec ℕ A)) (text : Vec ℕ A) (written : List ℕ) → Wrote out written → Keeps
    (text_written (λ (v : Vec ℕ A). Some v.items) out) (Some text.items) → text.items ≡ written
wrote_text out text written h keeps = subst (λ (known : Option (List ℕ)). Keeps known (Some text.items)) h.bytes keeps
