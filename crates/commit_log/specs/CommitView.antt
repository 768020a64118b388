-- Commits as the code has them, seen as the definitions have them.
use Rattle.std.specs.Prelude.{map}
use Rattle.std.specs.Option.{option_map}
use Rattle.key_set.specs.EntryView.{entry_of}
use Rattle.model_history.specs.Changes as changes
use Rattle.model_history.specs.History as history
use Rattle.commit_log.specs.declared.commits.Change.{Change}
use Rattle.commit_log.specs.declared.commits.Commit.{Commit}

abbrev pub change_of : Change → changes.Change
change_of change = (change.name, option_map entry_of change.entry)

abbrev pub commit_of : Commit → history.Commit
commit_of commit = record { handle = commit.handle; touched = commit.touched; changes = map change_of commit.changes }
