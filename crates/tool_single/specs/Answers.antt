-- The answer to a command line, over its input and the files of a store. (This project's own.)
use Rattle.std.specs.Prelude.{◌≡◌, ◌≢◌, ℕ, List, ◌∷◌, ◌++◌, [], Option, IsSomeAnd, option_and_then, slice_get, Result, Ok, Err}
use Rattle.std.specs.List.{flat_map}
use Rattle.all_formats.specs.Meanings as all
use Rattle.key_name.specs.Joining.{joined}
use Rattle.key_name.specs.Owner.{owner_of}
use Rattle.kdb_outside.specs.declared.kinds.Kind.{Kind}
use Rattle.model_names.specs.Name.{Name}
use Rattle.model_maps.specs.KeyMap.{KeyMap}
use Rattle.model_specified.specs.Violations.{AreViolationsBy, is_within}
use Rattle.model_specified.specs.declared.violations.Violation.{Violation}
use Rattle.mount_table.specs.Points.{own_point}
use Rattle.mounted_files.specs.Files.{points_of, Holds, IsCause}
use Rattle.mounted_files.specs.Faults.{fault_of}
use Rattle.mounted_files.specs.Opening.{Opens}
use Rattle.mounted_files.specs.declared.causes.Cause.{Cause}
use Rattle.mounted_files.specs.declared.files.MountedFile.{MountedFile}
use Rattle.mounted_files.specs.declared.refusals.GetFault.{GetFault}
use Rattle.mounted_files.specs.declared.refusals.GetFault.TheVariants as faults
use Rattle.mounted_files.specs.declared.refusals.OpenRefusal.{OpenRefusal}
use Rattle.mounted_files.specs.declared.refusals.OpenRefusal.TheVariants as refusals
use Rattle.mounted_files.specs.Whole.{relative}
use Rattle.tool_commands.specs.Lines.{line_of_mount}
use Rattle.store_lines.specs.Lines.{too_long, bad_file, too_heavy, bad_table, not_storable, out_of_memory}
use Rattle.tool_words.specs.Lines.{not_writable}
use Rattle.tool_single.specs.Alone.{got_alone}
use Rattle.tool_single.specs.Answer.{Answer, tells, done, refused}
use Rattle.tool_single.specs.Input.{taken}
use Rattle.tool_single.specs.Sets.{AnswersSet}
use Rattle.tool_words.specs.Request.{Action, Replace, Question, Mounts, FileOf, TextOf, ViolationsOf, On, Request, Refuses, Bars, Asks, Imports}
use Rattle.tool_words.specs.Rows.{request}
use Rattle.tool_commands.specs.Step.{Step, Tells, Sets}
use Rattle.tool_commands.specs.Commands.{every_key, parent_of, step_of}
use Rattle.tool_commands.specs.Report.{checked}

-- the answer by what a command makes of the keys that it got
abbrev pub AnswersStep : (List ℕ → Type 0) → List MountedFile → Name → Step → Answer → Type 0
AnswersStep MayRefuse files parent (Tells report) answer = answer ≡ tells report
AnswersStep MayRefuse files parent (Sets keys out) answer = AnswersSet MayRefuse files parent keys out answer

-- the line of what refuses a get
abbrev pub line_of_get : GetFault → List ℕ
line_of_get (faults.TooLong mount bytes) = too_long mount bytes
line_of_get (faults.BadFile mount number) = bad_file mount number
line_of_get (faults.TooHeavy mount weight) = too_heavy mount weight
line_of_get faults.Memory = out_of_memory

-- the answer to an action, by what it got
abbrev pub AnswersGot : (List ℕ → Type 0) → List MountedFile → Name → Action → Result KeyMap GetFault → Answer → Type 0
AnswersGot MayRefuse files name action (Ok keys) answer =
    AnswersStep MayRefuse files (parent_of name action) (step_of keys name action) answer
AnswersGot MayRefuse files name action (Err fault) answer = answer ≡ refused 5 (line_of_get fault)

-- `export` of keys under the names that lead to them from a name: their text in a format, or the whole name of the
-- first that the format can't hold
pub data AnswersText (name : Name) (kind : Kind) (keys : KeyMap) (answer : Answer) : Type 0 where
  Written : all.IsStorable kind keys → answer ≡ done (all.text kind keys) → AnswersText name kind keys answer
  NotHeld : (key : Name) → all.BreaksAt kind keys key → answer ≡ refused 5 (not_storable name (joined name key))
      → AnswersText name kind keys answer

-- `export`, by what it got: what a file at the name would hold of that
abbrev pub AnswersBelow : Name → Kind → Result KeyMap GetFault → Answer → Type 0
AnswersBelow name kind (Ok keys) answer = AnswersText name kind (relative name keys) answer
AnswersBelow name kind (Err fault) answer = answer ≡ refused 5 (line_of_get fault)

-- the mounted file that holds a key
abbrev pub owner_in : List MountedFile → Name → Option MountedFile
owner_in files name = option_and_then (λ i. slice_get files i) (owner_of (points_of files) name)

-- `file`: the name of a file, with a line feed
abbrev pub file_told : MountedFile → Answer
file_told file = done (file.mount.file ++ 10 ∷ [])

-- `mounts`: a line for each mount, in the order of the table
abbrev pub mounts_told : List MountedFile → Answer
mounts_told files = done (flat_map (λ file. line_of_mount file.mount) files)

-- `validate`, by all keys: the lines of the violations at or below a name
abbrev pub AnswersChecked : (List ℕ → Type 0) → Name → Result KeyMap GetFault → Answer → Type 0
AnswersChecked MayRefuse name (Ok keys) answer =
    (violations : List Violation) × AreViolationsBy MayRefuse (is_within name) keys violations × (answer ≡ tells (checked violations))
AnswersChecked MayRefuse name (Err fault) answer = answer ≡ refused 5 (line_of_get fault)

-- the answer to a question over mounted files
abbrev pub AnswersIn : (List ℕ → Type 0) → List MountedFile → Question → Answer → Type 0
AnswersIn MayRefuse files Mounts answer = answer ≡ mounts_told files
AnswersIn MayRefuse files (FileOf name) answer = IsSomeAnd (owner_in files name) (λ file. answer ≡ file_told file)
AnswersIn MayRefuse files (TextOf name kind) answer = AnswersBelow name kind (got_alone files name) answer
AnswersIn MayRefuse files (ViolationsOf name) answer = AnswersChecked MayRefuse name (got_alone files every_key) answer
AnswersIn MayRefuse files (On name action) answer =
    AnswersGot MayRefuse files name action (got_alone files (parent_of name action)) answer

-- the line of what refuses an opening
abbrev pub line_of_opening : OpenRefusal → List ℕ
line_of_opening (refusals.TooLong bytes) = too_long own_point bytes
line_of_opening (refusals.BadFile number) = bad_file own_point number
line_of_opening (refusals.BadTable fault) = bad_table fault
line_of_opening refusals.Memory = out_of_memory

-- the answer where a store isn't opened; want of memory gives none
abbrev pub IsRefusedBy : OpenRefusal → Answer → Type 0
IsRefusedBy refusal answer = (refusal ≢ refusals.Memory) × (answer ≡ refused 5 (line_of_opening refusal))

-- the answer to a question by what came of the opening
abbrev pub AnswersOpened : (List ℕ → Type 0) → Result (List MountedFile) OpenRefusal → Question → Answer → Type 0
AnswersOpened MayRefuse (Ok files) question answer = AnswersIn MayRefuse files question answer
AnswersOpened MayRefuse (Err refusal) question answer = IsRefusedBy refusal answer

-- the answer to a question over what the files mean
pub record AnswersOver (MayRefuse : List ℕ → Type 0) (question : Question) (bytes_of : List ℕ → List ℕ) (answer : Answer) : Type 0 where
  pub opened : Result (List MountedFile) OpenRefusal
  pub opens : Opens all.Reads all.IsBadAt bytes_of opened
  pub answers : AnswersOpened MayRefuse opened question answer

-- `import`: the keys that some bytes hold as a file at a name would, take the place of all at or below it. Bytes that
-- hold none are refused as such a file is, before the files are looked at
pub data AnswersImport (MayRefuse : List ℕ → Type 0) (name : Name) (kind : Kind) (bytes : List ℕ) (bytes_of : List ℕ → List ℕ) (answer : Answer) : Type 0 where
  Held : (keys : KeyMap) → Holds all.Reads name kind bytes keys
      → AnswersOver MayRefuse (On name (Replace keys)) bytes_of answer
      → AnswersImport MayRefuse name kind bytes bytes_of answer
  Bad : (cause : Cause) → IsCause all.Reads all.IsBadAt name kind bytes cause
      → answer ≡ refused 5 (line_of_get (fault_of name cause)) → AnswersImport MayRefuse name kind bytes bytes_of answer

-- the answer to a request
abbrev pub AnswersRequest : (List ℕ → Type 0) → Request → List ℕ → (List ℕ → List ℕ) → Answer → Type 0
AnswersRequest MayRefuse (Refuses status text) input bytes_of answer = answer ≡ refused status text
AnswersRequest MayRefuse (Bars name) input bytes_of answer = answer ≡ refused 2 (not_writable name)
AnswersRequest MayRefuse (Asks question) input bytes_of answer = AnswersOver MayRefuse question bytes_of answer
AnswersRequest MayRefuse (Imports name kind) input bytes_of answer =
    AnswersImport MayRefuse name kind (taken input) bytes_of answer

-- the answer to a command line with some input, where files gives each file name its bytes. It is one and the same but
-- for the texts that may be refused as patterns (`MayRefuse`): a value that such a text is to check breaks the rule on
-- patterns then. Where each text that is no pattern is among them there is always an answer, and where no other text
-- is, one alone
abbrev pub Answers : (List ℕ → Type 0) → List (List ℕ) → List ℕ → (List ℕ → List ℕ) → Answer → Type 0
Answers MayRefuse words input files answer = AnswersRequest MayRefuse (request words) input files answer
