-- What answers where some refusals are allowed does so where more are, and what stores something does whatever is
-- allowed.
use Rattle.std.specs.Prelude.{◌≡◌, ℕ, List, [], ◌∷◌, Result, Ok, Err}
use Rattle.std.proofs.Common.{refl, sym, ap, ◌∙◌}
use Rattle.model_maps.specs.KeyMap.{KeyMap}
use Rattle.model_names.specs.Name.{Name}
use Rattle.mounted_files.specs.declared.files.MountedFile.{MountedFile}
use Rattle.mounted_files.specs.declared.refusals.GetFault.{GetFault}
use Rattle.mounted_files.specs.declared.refusals.OpenRefusal.{OpenRefusal}
use Rattle.tool_commands.specs.Commands.{every_key, parent_of, step_of}
use Rattle.model_specified.specs.Violations.{checked_keys, is_within}
use Rattle.model_specified.proofs.ViolationLemmas.{AreOfKeysBy-still, RefusesMore}
use Rattle.tool_commands.specs.Step.{Step, Tells, Sets}
use Rattle.tool_words.specs.Request.{Action, Replace, Question, Mounts, FileOf, TextOf, ViolationsOf, On, Request, Refuses, Bars, Asks, Imports}
use Rattle.tool_words.specs.Rows.{request}
use Rattle.kdb_outside.specs.declared.kinds.Kind.{Kind}
use Rattle.tool_single.specs.Alone.{got_alone}
use Rattle.tool_single.specs.Answer.{Answer, Texts}
use Rattle.tool_single.specs.Answers.{Answers, AnswersChecked, AnswersGot, AnswersImport, AnswersIn, AnswersOpened, AnswersOver, AnswersRequest, AnswersStep, Bad, Held}
use Rattle.tool_single.specs.Input.{taken}
use Rattle.tool_single.specs.Serving.{StoresNothing}
use Rattle.tool_single.proofs.SetLemmas.{Set-more}

module _ (Fewer More : List ℕ → Type 0) (a : Answer) (follows : a.stored ≡ [] → RefusesMore Fewer More) where
  step_more : (files : List MountedFile) (parent : Name) (step : Step) → AnswersStep Fewer files parent step a
      → AnswersStep More files parent step a
  step_more files parent (Tells report) p = p
  step_more files parent (Sets keys out) p = Set-more Fewer More a follows files parent keys out p

  got_more : (files : List MountedFile) (name : Name) (action : Action) (keys : Result KeyMap GetFault)
      → AnswersGot Fewer files name action keys a → AnswersGot More files name action keys a
  got_more files name action (Ok keys) p = step_more files (parent_of name action) (step_of keys name action) p
  got_more files name action (Err fault) p = p

  checked_more : (name : Name) (keys : Result KeyMap GetFault) → AnswersChecked Fewer name keys a
      → AnswersChecked More name keys a
  checked_more name (Ok keys) p =
      (p.0, AreOfKeysBy-still Fewer More (checked_keys (is_within name) keys) p.0 (follows (ap (λ (x : Answer). x.stored) p.2)) p.1, p.2)
  checked_more name (Err fault) p = p

  in_more : (files : List MountedFile) (question : Question) → AnswersIn Fewer files question a
      → AnswersIn More files question a
  in_more files Mounts p = p
  in_more files (FileOf name) p = p
  in_more files (TextOf name kind) p = p
  in_more files (ViolationsOf name) p = checked_more name (got_alone files every_key) p
  in_more files (On name action) p = got_more files name action (got_alone files (parent_of name action)) p

  opened_more : (opened : Result (List MountedFile) OpenRefusal) (question : Question)
      → AnswersOpened Fewer opened question a → AnswersOpened More opened question a
  opened_more (Ok files) question p = in_more files question p
  opened_more (Err refusal) question p = p

  over_more : (question : Question) (bytes_of : List ℕ → List ℕ) → AnswersOver Fewer question bytes_of a
      → AnswersOver More question bytes_of a
  over_more question bytes_of p =
      record { opened = p.opened; opens = p.opens; answers = opened_more p.opened question p.answers }

  import_more : (name : Name) (kind : Kind) (bytes : List ℕ) (bytes_of : List ℕ → List ℕ)
      → AnswersImport Fewer name kind bytes bytes_of a → AnswersImport More name kind bytes bytes_of a
  import_more name kind bytes bytes_of (Held keys holds p) =
      Held keys holds (over_more (On name (Replace keys)) bytes_of p)
  import_more name kind bytes bytes_of (Bad cause bad p) = Bad cause bad p

  request_more : (asked : Request) (input : List ℕ) (bytes_of : List ℕ → List ℕ)
      → AnswersRequest Fewer asked input bytes_of a → AnswersRequest More asked input bytes_of a
  request_more (Refuses status text) input bytes_of p = p
  request_more (Bars name) input bytes_of p = p
  request_more (Asks question) input bytes_of p = over_more question bytes_of p
  request_more (Imports name kind) input bytes_of p = import_more name kind (taken input) bytes_of p

  pub Answers-more : (words : List (List ℕ)) (input : List ℕ) (files : List ℕ → List ℕ)
      → Answers Fewer words input files a → Answers More words input files a
  Answers-more words input files p = request_more (request words) input files p

-- where none of some answers stores anything, none does whatever pattern may be refused
pub stores_nothing : (M N : List ℕ → Type 0) (words : List (List ℕ)) (input : List ℕ) (files : List ℕ → List ℕ)
    → StoresNothing (Answers N words input files) → StoresNothing (Answers M words input files)
stores_nothing M N words input files nothing answer answers = by answer.stored refl
  where
    by : (stored : Texts) → answer.stored ≡ stored → answer.stored ≡ []
    by [] is = is
    by (text ∷ texts) is =
        nothing answer (Answers-more M N answer (λ none. absurd (let both : [] ≡ text ∷ texts = sym none ∙ is in cc)) words input files answers)
