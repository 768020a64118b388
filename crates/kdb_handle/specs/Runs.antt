-- How the run on a disk goes on by a story, so that the story says which sets were begun, and behind which commits.
-- (This project's own.)
use Rattle.std.specs.Prelude.{◌≡◌, ◌⊎◌, ℕ, ◌+◌, List, [], ◌∷◌, ◌++◌, length, Contains, Option, Some}
use Rattle.journal_codec.specs.declared.files.FileText.{FileText}
use Rattle.model_crashes.specs.Runs.{Run, IsOneOf, after_begun, after_commit}
use Rattle.model_files.specs.Texts.{entry_of, entries_from}
use Rattle.model_history.specs.Changes.{changed_by}
use Rattle.model_history.specs.History.{Commit, replay}
use Rattle.model_maps.specs.KeyMap.{KeyMap}
use Rattle.model_store.specs.Store.{Store, Formats}
use Rattle.kdb_handle.specs.Story.{Told, Opened, Committed, Failed, Refused, commits_of}

-- from some keys on: the texts of a commit are acknowledged; those of a set that failed are begun, and then none is in
-- doubt, or what was, or these; a refused pattern begins nothing
abbrev pub RunsBy : Formats → Store → KeyMap → Run → List Told → Run → Type 0
RunsBy formats store keys run [] last = last ≡ run
RunsBy formats store keys run (Committed commit ∷ log) last =
    RunsBy formats store (changed_by commit.changes keys) (after_commit run (entry_of formats store keys commit)) log last
RunsBy formats store keys run (Failed commit ∷ log) last =
    (doubt : Option (List FileText)) × IsOneOf doubt run.doubt (entry_of formats store keys commit)
    × RunsBy formats store keys (after_begun run (entry_of formats store keys commit) doubt) log last
RunsBy formats store keys run (Refused handle ∷ log) last = RunsBy formats store keys run log last
RunsBy formats store keys run (Opened opening ∷ log) last = ⊥

-- an entry is that of a set of a story, a commit or one that failed, which was begun behind so many commits
pub record IsBegunBy (formats : Formats) (store : Store) (keys : KeyMap) (before_it : ℕ) (log : List Told) (number : ℕ) (entry : List FileText) : Type 0 where
  pub before : List Told
  pub commit : Commit
  pub behind : List Told
  pub story : (log ≡ before ++ Committed commit ∷ behind) ⊎ (log ≡ before ++ Failed commit ∷ behind)
  pub number_is : number ≡ before_it + length (commits_of before)
  pub entry_is : entry ≡ entry_of formats store (replay keys (commits_of before)) commit

-- an entry is that of a set of a story that failed behind all of its commits
pub record IsLeftBy (formats : Formats) (store : Store) (keys : KeyMap) (log : List Told) (entry : List FileText) : Type 0 where
  pub before : List Told
  pub commit : Commit
  pub behind : List Told
  pub story : log ≡ before ++ Failed commit ∷ behind
  pub last : commits_of behind ≡ []
  pub entry_is : entry ≡ entry_of formats store (replay keys (commits_of before)) commit

-- What a run comes to by a story, from some keys on. The names of the journal's head, its files and its count of faults
-- at the beginning stay. Its commits gain those of the story. What was begun had been, or is a set of the story behind
-- just the commits before it. What is in doubt had been and no commit came, or is a set that failed behind all commits
pub record ComesTo (formats : Formats) (store : Store) (keys : KeyMap) (first : Run) (log : List Told) (last : Run) : Type 0 where
  pub names : last.names ≡ first.names
  pub files : last.files ≡ first.files
  pub faults : last.faults ≡ first.faults
  pub commits : last.commits ≡ first.commits ++ entries_from formats store keys (commits_of log)
  pub begun : (number : ℕ) (entry : List FileText) → Contains last.begun (number, entry)
      → Contains first.begun (number, entry) ⊎ IsBegunBy formats store keys (length first.commits) log number entry
  pub doubt : (entry : List FileText) → last.doubt ≡ Some entry
      → ((first.doubt ≡ Some entry) × (commits_of log ≡ [])) ⊎ IsLeftBy formats store keys log entry
