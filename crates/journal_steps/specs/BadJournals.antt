-- What an opening finds in a journal of one entry: it takes the gate as open where it is 1. This project's own.
use Rattle.std.specs.Prelude.{ℕ, List, [], Option, Some, None, Result, Ok, Err, ◌==◌}
use Rattle.kdb_outside.specs.Images.{Image}
use Rattle.journal_codec.specs.declared.files.FileText.{FileText}
use Rattle.journal_codec.specs.Entry.{journal_name}
use Rattle.journal_steps.specs.JournalBytes.{gate, first_entry}
use Rattle.journal_steps.specs.Readings.{reading}

-- the reading of the opening
abbrev pub opened_reading : Image → Result (List (List FileText)) ℕ
opened_reading seen = reading (gate (seen journal_name) == 1) seen

-- the entries that were read, and none where one isn't whole
abbrev pub entries_read : Result (List (List FileText)) ℕ → List (List FileText)
entries_read (Ok entries) = entries
entries_read (Err at) = []

-- the place where an entry isn't whole
abbrev pub place_read : Result (List (List FileText)) ℕ → Option ℕ
place_read (Ok entries) = None
place_read (Err at) = Some at

-- the entry that the gate is open on, if it is open
abbrev pub open_entry : Image → Option (List FileText)
open_entry seen = first_entry (opened_reading seen)
