-- What a run of commits promises of a crash: the files of a prefix of its commits, or these with one entry that was
-- begun on just that prefix. (This project's own. After crash refinement of journaling file systems: a crash leaves a
-- prefix of the acknowledged steps.)
use Rattle.std.specs.Prelude.{◌≡◌, ◌⊎◌, ℕ, ◌≤◌, List, [], ◌∷◌, ◌++◌, length, take, Option, Some, None, Contains}
use Rattle.kdb_outside.specs.Images.{Image}
use Rattle.journal_codec.specs.declared.files.FileText.{FileText}
use Rattle.intent_journal.specs.Outcomes.{HasOnly}
use Rattle.journal_steps.specs.Outcomes.{with_entries, IsEither}

-- an entry that was begun, with the number of commits before it
abbrev pub Begun : Type 0
Begun = ℕ × List FileText

-- a run on a disk: the names that the head of its journal has, or will have; the files and the count of faults when it
-- began, the commits since then, what was begun, and the entry that may yet come into the files
pub record Run : Type 0 where
  pub names : List (List ℕ)
  pub files : Image
  pub faults : ℕ
  pub commits : List (List FileText)
  pub begun : List Begun
  pub doubt : Option (List FileText)

-- the files of a run: those of its beginning, with each commit
abbrev pub files_of : Run → Image
files_of run = with_entries run.files run.commits

-- an entry, if there is one, was begun behind so many commits
abbrev pub IsBegun : List Begun → ℕ → Option (List FileText) → Type 0
IsBegun begun number None = Unit {0}
IsBegun begun number (Some entry) = Contains begun (number, entry)

-- an image stands for the files of one prefix of the commits, and for these with one entry that was begun on just that
-- prefix
pub record IsReached (files : Image) (commits : List (List FileText)) (begun : List Begun) (image : Image) : Type 0 where
  pub number : ℕ
  pub within : number ≤ length commits
  pub doubt : Option (List FileText)
  pub was_begun : IsBegun begun number doubt
  pub is : HasOnly (IsEither (with_entries files (take number commits)) doubt) image

-- amid a commit an image stands for the files and these with the former doubt, or for the files and these with the
-- commit
abbrev pub IsAmid : Image → Option (List FileText) → List FileText → Image → Type 0
IsAmid files doubt entry image = HasOnly (IsEither files doubt) image ⊎ HasOnly (IsEither files (Some entry)) image

-- behind a commit that failed none is in doubt, or the former one, or this entry
abbrev pub IsOneOf : Option (List FileText) → Option (List FileText) → List FileText → Type 0
IsOneOf later former entry = (later ≡ None) ⊎ (later ≡ former) ⊎ (later ≡ Some entry)

-- the entry in doubt at the beginning was begun before the first commit
abbrev pub begun_before : Option (List FileText) → List Begun
begun_before None = []
begun_before (Some entry) = (0, entry) ∷ []

-- a run that begins
abbrev pub new_run : List (List ℕ) → Image → ℕ → Option (List FileText) → Run
new_run names files faults doubt =
    record { names = names; files = files; faults = faults; commits = []; begun = begun_before doubt; doubt = doubt }

-- an entry was begun and not acknowledged
abbrev pub after_begun : Run → List FileText → Option (List FileText) → Run
after_begun run entry later = record run { begun = run.begun ++ (length run.commits, entry) ∷ []; doubt = later }

-- an entry was acknowledged
abbrev pub after_commit : Run → List FileText → Run
after_commit run entry =
    record run { commits = run.commits ++ entry ∷ []; begun = run.begun ++ (length run.commits, entry) ∷ []; doubt = None }
