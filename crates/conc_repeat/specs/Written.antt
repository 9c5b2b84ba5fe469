-- What lines of a script have been written.
use Rattle.std.specs.Prelude.{◌≡◌, ◌++◌, ℕ, false, List}
use Rattle.csv.specs.Writing.{default_writer, fields_written, has_written, writer_pending, writer_setup, writer_under}
use Rattle.conc_repeat.specs.declared.lines.Lines.{Lines}

-- the bytes that have reached the vector, and those that are still to
abbrev pub bytes_of : Lines → List ℕ
bytes_of lines = (writer_under lines.writer).items ++ writer_pending lines.writer

-- they are written with the defaults, and no record is open
pub record IsReady (lines : Lines) : Type 0 where
  pub setup : writer_setup lines.writer ≡ default_writer
  pub fields : fields_written lines.writer ≡ 0
  pub none : has_written lines.writer ≡ false
