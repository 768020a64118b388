-- Dumps as a format of files. (This project's own.)
use Rattle.std.specs.Prelude.{true}
use Rattle.model_formats.specs.Format.{Format}
use Rattle.model_dump.specs.Adds.{Adds}
use Rattle.model_dump.specs.Dump.{Reads, IsBadAt}
use Rattle.model_dump.specs.Text.{text}

-- a dump holds every key
abbrev pub dump : Format
dump =
    record {
      Reads = Reads Adds;
      IsBadAt = IsBadAt Adds;
      text = text;
      Holds = λ keys name entry. Unit {0};
      is_keywise = true;
    }
