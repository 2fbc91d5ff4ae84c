-- What holds at any moment while an input is read and answered, whatever comes next.
-- Assumes nothing.
use Rattle.std.specs.Prelude.{ℕ, ◌≡◌, List, ◌++◌}
use Rattle.commands.specs.declared.Entry.{Entry}
use Rattle.desk.specs.declared.Desk.{Desk}
use Rattle.desk.specs.Desk.{world_in, desk_of}
use Rattle.lines.specs.Lines.{whole_lines}
use Rattle.served.specs.Served.{end_of, last_run, said_to}
use Rattle.spoken.specs.Spoken.{entries_of, text_of}

-- Some bytes of an input were read, and some of them are still held. A text was put out, and from the first desk this one was reached. Then some entries were answered.
-- Whatever more is read, they are the first entries of the input, and those of the lines in what is held come next. The text is what the runs among them say, and the
-- desk is that of the last of these runs.
pub record SoFar (first : Desk) (bytes held text : List ℕ) (d : Desk) : Type 0 where
  pub answered : List Entry
  pub lines : (more : List ℕ) → entries_of (whole_lines (bytes ++ more)) ≡ answered ++ entries_of (whole_lines (held ++ more))
  pub said : text ≡ text_of (said_to answered (world_in first))
  pub reached : d ≡ desk_of (end_of (last_run answered (world_in first)))
