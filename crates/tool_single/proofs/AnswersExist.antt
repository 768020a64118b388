-- Every command line has an answer over all files, where each text that is no pattern may be refused.
use Rattle.std.specs.Prelude.{◌≡◌, ◌⊎◌, ℕ, List, map as over, IsSomeAnd, Result, Ok, Err}
use Rattle.std.proofs.Common.{refl, sym, subst, inl, inr}
use Rattle.all_formats.specs.Meanings as all
use Rattle.all_formats.specs.Laws as laws
use Rattle.model_names.specs.Name.{Name}
use Rattle.model_maps.specs.KeyMap.{KeyMap}
use Rattle.mounted_files.specs.declared.files.MountedFile.{MountedFile}
use Rattle.mounted_files.specs.declared.refusals.GetFault.{GetFault}
use Rattle.mounted_files.specs.declared.refusals.OpenRefusal.{OpenRefusal}
use Rattle.tool_words.specs.Request.{Action, Replace, Question, Mounts, FileOf, TextOf, ViolationsOf, On, NamesFiles, Request, Refuses, Bars, Asks, Imports}
use Rattle.tool_words.specs.Rows.{request}
use Rattle.tool_words.specs.Lines.{not_writable}
use Rattle.tool_commands.specs.Commands.{every_key, parent_of, step_of}
use Rattle.tool_commands.specs.Report.{checked}
use Rattle.model_specified.specs.Violations.{checked_keys, is_within}
use Rattle.model_specified.proofs.Refusals.{RefusesEach, some_by_keys}
use Rattle.tool_commands.specs.Step.{Step, Tells, Sets}
use Rattle.kdb_outside.specs.declared.kinds.Kind.{Kind}
use Rattle.key_name.specs.Joining.{joined}
use Rattle.store_lines.specs.Lines.{not_storable}
use Rattle.tool_single.specs.Alone.{got_alone}
use Rattle.tool_single.specs.Answer.{Answer, tells, done, refused}
use Rattle.tool_single.specs.Input.{taken}
use Rattle.mounted_files.specs.Files.{Holds, IsCause}
use Rattle.mounted_files.specs.Whole.{relative}
use Rattle.mounted_files.specs.Faults.{fault_of}
use Rattle.mounted_files.specs.declared.causes.Cause.{Cause}
use Rattle.tool_single.specs.Answers.{AnswersBelow, AnswersChecked, AnswersImport, AnswersText, Written, NotHeld, Held, Bad, AnswersStep, AnswersGot, AnswersIn, AnswersOpened, AnswersOver, AnswersRequest, Answers, file_told, mounts_told, line_of_get, line_of_opening}
use Rattle.mounted_files.specs.Opening.{IsMade, IsMadeByKeys, Opens}
use Rattle.mounted_files.proofs.SomeOpening.{Opens-some, Holds-or_bad, opened-made}
use Rattle.tool_words.proofs.RowLemmas.{request-names_files}
use Rattle.tool_single.proofs.AnswerLemmas.{owner_in-there}
use Rattle.tool_single.proofs.SetLemmas.{Set-some}

-- some answer is one of these: it can't be that none is. Which one it is may hang on what a matcher refuses, and on
-- whether a text is a pattern, a number or in a range, which no proof here decides
abbrev pub Some : (Answer → Type 0) → Type 0
Some Answered = ¬ ((answer : Answer) → ¬ Answered answer)

this : (Answered : Answer → Type 0) (answer : Answer) → Answered answer → Some Answered
this Answered answer answers = λ none. none answer answers

some_weaker : (P Q : Answer → Type 0) → ((answer : Answer) → P answer → Q answer) → Some P → Some Q
some_weaker P Q follows some = λ none. some (λ answer p. none answer (follows answer p))

step_exists : (MayRefuse : List ℕ → Type 0) → RefusesEach MayRefuse
    → (files : List MountedFile) (parent : Name) (step : Step) → Some (AnswersStep MayRefuse files parent step)
step_exists MayRefuse each files parent (Tells report) =
    this (AnswersStep MayRefuse files parent (Tells report)) (tells report) refl
step_exists MayRefuse each files parent (Sets keys out) = Set-some MayRefuse each files parent keys out

got_exists : (MayRefuse : List ℕ → Type 0) → RefusesEach MayRefuse
    → (files : List MountedFile) (name : Name) (action : Action) (keys : Result KeyMap GetFault)
    → Some (AnswersGot MayRefuse files name action keys)
got_exists MayRefuse each files name action (Ok keys) =
    step_exists MayRefuse each files (parent_of name action) (step_of keys name action)
got_exists MayRefuse each files name action (Err fault) =
    this (AnswersGot MayRefuse files name action (Err fault)) (refused 5 (line_of_get fault)) refl

text_exists : (name : Name) (kind : Kind) (keys : KeyMap) → Some (AnswersText name kind keys)
text_exists name kind keys = by (laws.storable-or_breaks kind keys)
  where
    by : (all.IsStorable kind keys ⊎ ((key : Name) × all.BreaksAt kind keys key)) → Some (AnswersText name kind keys)
    by (inl storable) = this (AnswersText name kind keys) (done (all.text kind keys)) (Written storable refl)
    by (inr breaks) =
        this (AnswersText name kind keys) (refused 5 (not_storable name (joined name breaks.0))) (NotHeld breaks.0 breaks.1 refl)

below_exists : (name : Name) (kind : Kind) (keys : Result KeyMap GetFault) → Some (AnswersBelow name kind keys)
below_exists name kind (Ok keys) = text_exists name kind (relative name keys)
below_exists name kind (Err fault) = this (AnswersBelow name kind (Err fault)) (refused 5 (line_of_get fault)) refl

checked_exists : (MayRefuse : List ℕ → Type 0) → RefusesEach MayRefuse → (name : Name) (keys : Result KeyMap GetFault)
    → Some (AnswersChecked MayRefuse name keys)
checked_exists MayRefuse each name (Ok keys) =
    λ none. some_by_keys MayRefuse each (checked_keys (is_within name) keys) (λ violations are. none (tells (checked violations)) (violations, are, refl))
checked_exists MayRefuse each name (Err fault) =
    this (AnswersChecked MayRefuse name (Err fault)) (refused 5 (line_of_get fault)) refl

in_exists : (MayRefuse : List ℕ → Type 0) → RefusesEach MayRefuse → (files : List MountedFile) (question : Question)
    → IsMadeByKeys (over (λ (file : MountedFile). file.mount) files) → NamesFiles question
    → Some (AnswersIn MayRefuse files question)
in_exists MayRefuse each files Mounts made names = this (AnswersIn MayRefuse files Mounts) (mounts_told files) refl
in_exists MayRefuse each files (FileOf name) made names =
    let owner = owner_in-there files name made names in
    this (AnswersIn MayRefuse files (FileOf name)) (file_told owner.0) (subst (λ o. IsSomeAnd o (λ file. file_told owner.0 ≡ file_told file)) (sym owner.1) refl)
in_exists MayRefuse each files (TextOf name kind) made names = below_exists name kind (got_alone files name)
in_exists MayRefuse each files (ViolationsOf name) made names =
    checked_exists MayRefuse each name (got_alone files every_key)
in_exists MayRefuse each files (On name action) made names =
    got_exists MayRefuse each files name action (got_alone files (parent_of name action))

opened_exists : (MayRefuse : List ℕ → Type 0) → RefusesEach MayRefuse
    → (bytes_of : List ℕ → List ℕ) (opened : Result (List MountedFile) OpenRefusal) (question : Question)
    → Opens all.Reads all.IsBadAt bytes_of opened → NamesFiles question → IsMade opened
    → Some (AnswersOpened MayRefuse opened question)
opened_exists MayRefuse each bytes_of (Ok files) question opens names made =
    in_exists MayRefuse each files question (opened-made all.Reads all.IsBadAt bytes_of files opens) names
opened_exists MayRefuse each bytes_of (Err refusal) question opens names made =
    this (AnswersOpened MayRefuse (Err refusal) question) (refused 5 (line_of_opening refusal)) (made, refl)

over_exists : (MayRefuse : List ℕ → Type 0) → RefusesEach MayRefuse → (question : Question) (bytes_of : List ℕ → List ℕ)
    → NamesFiles question → Some (AnswersOver MayRefuse question bytes_of)
over_exists MayRefuse each question bytes_of names =
    let found = Opens-some all.Reads all.IsBadAt laws.Reads-or_bad bytes_of in
    some_weaker (AnswersOpened MayRefuse found.0 question) (AnswersOver MayRefuse question bytes_of) (λ answer answers. record { opened = found.0; opens = found.1; answers = answers }) (opened_exists MayRefuse each bytes_of found.0 question found.1 names found.2)

import_exists : (MayRefuse : List ℕ → Type 0) → RefusesEach MayRefuse
    → (name : Name) (kind : Kind) (bytes : List ℕ) (bytes_of : List ℕ → List ℕ)
    → Some (AnswersImport MayRefuse name kind bytes bytes_of)
import_exists MayRefuse each name kind bytes bytes_of =
    by (Holds-or_bad all.Reads all.IsBadAt laws.Reads-or_bad name kind bytes)
  where
    by : (((keys : KeyMap) × Holds all.Reads name kind bytes keys) ⊎ ((cause : Cause) × IsCause all.Reads all.IsBadAt name kind bytes cause))
        → Some (AnswersImport MayRefuse name kind bytes bytes_of)
    by (inl held) =
        some_weaker (AnswersOver MayRefuse (On name (Replace held.0)) bytes_of) (AnswersImport MayRefuse name kind bytes bytes_of) (λ answer over. Held held.0 held.1 over) (over_exists MayRefuse each (On name (Replace held.0)) bytes_of tt)
    by (inr bad) =
        this (AnswersImport MayRefuse name kind bytes bytes_of) (refused 5 (line_of_get (fault_of name bad.0))) (Bad bad.0 bad.1 refl)

request_exists : (MayRefuse : List ℕ → Type 0) → RefusesEach MayRefuse
    → (asked : Request) (input : List ℕ) (bytes_of : List ℕ → List ℕ)
    → ((question : Question) → asked ≡ Asks question → NamesFiles question)
    → Some (AnswersRequest MayRefuse asked input bytes_of)
request_exists MayRefuse each (Refuses status text) input bytes_of names =
    this (AnswersRequest MayRefuse (Refuses status text) input bytes_of) (refused status text) refl
request_exists MayRefuse each (Bars name) input bytes_of names =
    this (AnswersRequest MayRefuse (Bars name) input bytes_of) (refused 2 (not_writable name)) refl
request_exists MayRefuse each (Asks question) input bytes_of names =
    over_exists MayRefuse each question bytes_of (names question refl)
request_exists MayRefuse each (Imports name kind) input bytes_of names =
    import_exists MayRefuse each name kind (taken input) bytes_of

pub Answers-exists : (MayRefuse : List ℕ → Type 0) → RefusesEach MayRefuse
    → (words : List (List ℕ)) (input : List ℕ) (files : List ℕ → List ℕ) → Some (Answers MayRefuse words input files)
Answers-exists MayRefuse each words input files =
    request_exists MayRefuse each (request words) input files (request-names_files words)
