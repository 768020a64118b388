-- What becomes of the keys that a command sets: the verdict of a store on the one set of a handle that got its parent
-- before anything was committed. (This project's own.)
use Rattle.std.specs.Prelude.{◌≡◌, ℕ, T, List, [], Some, None, IsSomeAnd}
use Rattle.std.specs.FinMap as map
use Rattle.all_formats.specs.Meanings as all
use Rattle.model_files.specs.Texts.{texts_at}
use Rattle.model_history.specs.Changes.{changed_by}
use Rattle.model_history.specs.History.{Commit}
use Rattle.model_maps.specs.KeyMap.{KeyMap}
use Rattle.model_names.specs.Name.{Name}
use Rattle.model_store.specs.First.{first_set}
use Rattle.model_store.specs.Fitting.{Early}
use Rattle.model_store.specs.Sets.{Prepared}
use Rattle.model_store.specs.Store.{Store, Formats}
use Rattle.model_store.specs.Verdicts.{Late, Same, Conflict, TooLarge, Invalid, DatabaseFull, HistoryFull, Commits, IsEarly, IsLate}
use Rattle.mounted_files.specs.declared.files.MountedFile.{MountedFile}
use Rattle.store_verdict.specs.Preparing.{fault_of}
use Rattle.store_verdict.specs.declared.faults.PrepareFault.{PrepareFault}
use Rattle.store_verdict.specs.declared.faults.PrepareFault.TheVariants as fault
use Rattle.store_lines.specs.Lines.{bad_table, value_too_long, file_too_large, not_storable, invalid, database_full, history_full}
use Rattle.tool_single.specs.Alone.{store_alone, the_handle}
use Rattle.tool_single.specs.Answer.{Answer, Texts, done, stores, refused}

-- the formats of all files
abbrev pub formats : Formats
formats = record { text = all.text; IsStorable = all.IsStorable; BreaksAt = all.BreaksAt }

-- the set of some keys at a parent that it got first of all
abbrev pub set_alone : Store → Name → KeyMap → Prepared
set_alone store parent keys = first_set store the_handle parent keys

-- the texts that a commit on a map stores, by the names of their files
abbrev pub stored_by : Store → KeyMap → Commit → Texts
stored_by store keys commit = map.entries (texts_at formats store (changed_by commit.changes keys) commit.touched)

-- what refuses a set before the history is asked, in a line; each mount was fetched
abbrev pub IsRefusal : PrepareFault → Answer → Type 0
IsRefusal (fault.NotFetched mount) answer = ⊥
IsRefusal (fault.ValueTooLong key bytes) answer = answer ≡ refused 5 (value_too_long key bytes)
IsRefusal (fault.FileTooLarge mount amount) answer = answer ≡ refused 5 (file_too_large mount amount)
IsRefusal (fault.NotStorable mount key) answer = answer ≡ refused 5 (not_storable mount key)
IsRefusal (fault.BadTable why) answer = answer ≡ refused 5 (bad_table why)
IsRefusal fault.Memory answer = ⊥

-- what the history and the rules make of a set, where nothing was committed before: nothing blocks it, and its files
-- were found small enough. A violation that goes by a refused pattern is told only of a text that may be refused as one
abbrev pub IsJudgement : (List ℕ → Type 0) → Store → KeyMap → List ℕ → Late → Answer → Type 0
IsJudgement MayRefuse store keys out (Same aside) answer = answer ≡ done out
IsJudgement MayRefuse store keys out (Conflict mount by) answer = ⊥
IsJudgement MayRefuse store keys out (TooLarge mount size) answer = ⊥
IsJudgement MayRefuse store keys out (Invalid violation risen) answer =
    (T risen → MayRefuse violation.given) × (answer ≡ refused 5 (invalid violation))
IsJudgement MayRefuse store keys out (DatabaseFull weight) answer = answer ≡ refused 5 (database_full weight)
IsJudgement MayRefuse store keys out (HistoryFull weight) answer = answer ≡ refused 5 (history_full weight)
IsJudgement MayRefuse store keys out (Commits commit aside) answer = answer ≡ stores (stored_by store keys commit) out

-- the answer where keys are set at a parent whose keys were got
pub data AnswersSet (MayRefuse : List ℕ → Type 0) (files : List MountedFile) (parent : Name) (keys : KeyMap) (out : List ℕ) (answer : Answer) : Type 0 where
  Refused : (why : Early) → IsEarly formats (store_alone files) (set_alone (store_alone files) parent keys) (Some why)
      → IsSomeAnd (fault_of (store_alone files).mounts why) (λ fault. IsRefusal fault answer)
      → AnswersSet MayRefuse files parent keys out answer
  Judged : IsEarly formats (store_alone files) (set_alone (store_alone files) parent keys) None → (late : Late)
      → IsLate formats (store_alone files) [] (store_alone files).start (set_alone (store_alone files) parent keys) late
      → IsJudgement MayRefuse (store_alone files) (store_alone files).start out late answer
      → AnswersSet MayRefuse files parent keys out answer
