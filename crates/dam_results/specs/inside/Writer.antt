-- A writer of records into a list of bytes, between two records.
use Rattle.std.specs.Prelude.{◌≡◌, ℕ, false, List, ◌++◌, Some}
use Rattle.std.specs.declared.vec.Vec.{Vec}
use Rattle.csv.specs.Writing.{default_writer, fields_written, has_written, writer_setup, text_written}
use Rattle.csv.specs.declared.writer.Writer.{Writer}
use Rattle.dam_book.specs.declared.command.Command.{Command}
use Rattle.dam_results.specs.Journal.{IsCommand}
use Rattle.dam_results.specs.Written.{command_line}

-- it has written this text, as the defaults say, and no part of a next record
pub record Wrote {A : Type 0} (out : Writer (Vec ℕ A)) (text : List ℕ) : Type 0 where
  pub between : fields_written out ≡ 0
  pub clean : has_written out ≡ false
  pub setup : writer_setup out ≡ default_writer
  pub bytes : text_written (λ (v : Vec ℕ A). Some v.items) out ≡ Some text

-- it has written one more command, which is within its limits
pub record WritesCommand {A : Type 0} (before after : Writer (Vec ℕ A)) (command : Command)
    : Type 0 where
  pub valid : IsCommand command
  pub line : (text : List ℕ) → Wrote before text → Wrote after (text ++ command_line command)
