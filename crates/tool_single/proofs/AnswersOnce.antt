-- A command line has one answer, where no text that is a pattern may be refused.
use Rattle.std.specs.Prelude.{◌≡◌, ℕ, List, Option, Some, None, IsSomeAnd, Result, Ok, Err}
use Rattle.std.proofs.Common.{sym, ap, subst, ◌∙◌}
use Rattle.model_names.specs.Name.{Name}
use Rattle.model_maps.specs.KeyMap.{KeyMap}
use Rattle.mounted_files.specs.declared.files.MountedFile.{MountedFile}
use Rattle.mounted_files.specs.declared.refusals.GetFault.{GetFault}
use Rattle.mounted_files.specs.declared.refusals.OpenRefusal.{OpenRefusal}
use Rattle.tool_words.specs.Request.{Action, Replace, Question, Mounts, FileOf, TextOf, ViolationsOf, On, Request, Refuses, Bars, Asks, Imports}
use Rattle.tool_words.specs.Rows.{request}
use Rattle.mounted_files.specs.Whole.{relative}
use Rattle.tool_single.specs.Alone.{got_alone}
use Rattle.tool_single.specs.Answer.{Answer}
use Rattle.tool_commands.specs.Step.{Step, Tells, Sets}
use Rattle.tool_commands.specs.Commands.{every_key, parent_of, step_of}
use Rattle.tool_commands.specs.Report.{checked}
use Rattle.model_specified.specs.Violations.{checked_keys, is_within}
use Rattle.model_specified.specs.declared.violations.Violation.{Violation}
use Rattle.model_specified.proofs.ViolationsOnce.{AreOfKeysBy-once, RefusesNoPattern}
use Rattle.kdb_outside.specs.declared.kinds.Kind.{Kind}
use Rattle.key_name.specs.Joining.{joined}
use Rattle.store_lines.specs.Lines.{not_storable}
use Rattle.tool_single.specs.Answer.{refused, tells}
use Rattle.tool_single.specs.Input.{taken}
use Rattle.mounted_files.specs.Faults.{fault_of}
use Rattle.tool_single.specs.Answers.{AnswersBelow, AnswersImport, AnswersText, Written, NotHeld, Held, Bad, line_of_get, AnswersChecked, AnswersStep, AnswersGot, AnswersIn, AnswersOpened, AnswersOver, AnswersRequest, Answers, file_told, owner_in}
use Rattle.all_formats.specs.Meanings as all
use Rattle.all_formats.specs.Laws as laws
use Rattle.mounted_files.specs.Opening.{IsMade}
use Rattle.mounted_files.proofs.OneOpening.{Opens-once, Holds-once, Holds-not_bad, Cause-once}
use Rattle.tool_single.proofs.SetLemmas.{Set-once}

step_once : (MayRefuse : List ℕ → Type 0) → RefusesNoPattern MayRefuse
    → (files : List MountedFile) (parent : Name) (step : Step) (a b : Answer)
    → AnswersStep MayRefuse files parent step a → AnswersStep MayRefuse files parent step b → a ≡ b
step_once MayRefuse off files parent (Tells report) a b p q = p ∙ sym q
step_once MayRefuse off files parent (Sets keys out) a b p q = Set-once MayRefuse off files parent keys out a b p q

got_once : (MayRefuse : List ℕ → Type 0) → RefusesNoPattern MayRefuse
    → (files : List MountedFile) (name : Name) (action : Action) (keys : Result KeyMap GetFault) (a b : Answer)
    → AnswersGot MayRefuse files name action keys a → AnswersGot MayRefuse files name action keys b → a ≡ b
got_once MayRefuse off files name action (Ok keys) a b p q =
    step_once MayRefuse off files (parent_of name action) (step_of keys name action) a b p q
got_once MayRefuse off files name action (Err fault) a b p q = p ∙ sym q

text_once : (name : Name) (kind : Kind) (keys : KeyMap) (a b : Answer) → AnswersText name kind keys a
    → AnswersText name kind keys b → a ≡ b
text_once name kind keys a b (Written storable p) (Written again q) = p ∙ sym q
text_once name kind keys a b (Written storable p) (NotHeld key breaks q) =
    absurd (laws.storable-breaks_nowhere kind keys key storable breaks)
text_once name kind keys a b (NotHeld key breaks p) (Written storable q) =
    absurd (laws.storable-breaks_nowhere kind keys key storable breaks)
text_once name kind keys a b (NotHeld key breaks p) (NotHeld other again q) =
    p
    ∙ (ap (λ k. refused 5 (not_storable name (joined name k))) (laws.BreaksAt-once kind keys key other breaks again) ∙ sym q)

below_once : (name : Name) (kind : Kind) (keys : Result KeyMap GetFault) (a b : Answer) → AnswersBelow name kind keys a
    → AnswersBelow name kind keys b → a ≡ b
below_once name kind (Ok keys) a b p q = text_once name kind (relative name keys) a b p q
below_once name kind (Err fault) a b p q = p ∙ sym q

file_once : (found : Option MountedFile) (a b : Answer) → IsSomeAnd found (λ file. a ≡ file_told file)
    → IsSomeAnd found (λ file. b ≡ file_told file) → a ≡ b
file_once None a b p q = absurd p
file_once (Some file) a b p q = p ∙ sym q

checked_once : (MayRefuse : List ℕ → Type 0) → RefusesNoPattern MayRefuse
    → (name : Name) (keys : Result KeyMap GetFault) (a b : Answer) → AnswersChecked MayRefuse name keys a
    → AnswersChecked MayRefuse name keys b → a ≡ b
checked_once MayRefuse off name (Ok keys) a b p q =
    p.2
    ∙ ap (λ (vs : List Violation). tells (checked vs)) (AreOfKeysBy-once MayRefuse off (checked_keys (is_within name) keys) p.0 q.0 p.1 q.1)
    ∙ sym q.2
checked_once MayRefuse off name (Err fault) a b p q = p ∙ sym q

in_once : (MayRefuse : List ℕ → Type 0) → RefusesNoPattern MayRefuse
    → (files : List MountedFile) (question : Question) (a b : Answer) → AnswersIn MayRefuse files question a
    → AnswersIn MayRefuse files question b → a ≡ b
in_once MayRefuse off files Mounts a b p q = p ∙ sym q
in_once MayRefuse off files (FileOf name) a b p q = file_once (owner_in files name) a b p q
in_once MayRefuse off files (TextOf name kind) a b p q = below_once name kind (got_alone files name) a b p q
in_once MayRefuse off files (ViolationsOf name) a b p q =
    checked_once MayRefuse off name (got_alone files every_key) a b p q
in_once MayRefuse off files (On name action) a b p q =
    got_once MayRefuse off files name action (got_alone files (parent_of name action)) a b p q

opened_once : (MayRefuse : List ℕ → Type 0) → RefusesNoPattern MayRefuse
    → (opened : Result (List MountedFile) OpenRefusal) (question : Question) (a b : Answer)
    → AnswersOpened MayRefuse opened question a → AnswersOpened MayRefuse opened question b → a ≡ b
opened_once MayRefuse off (Ok files) question a b p q = in_once MayRefuse off files question a b p q
opened_once MayRefuse off (Err refusal) question a b p q = p.1 ∙ sym q.1

is_made : (MayRefuse : List ℕ → Type 0) (opened : Result (List MountedFile) OpenRefusal) (question : Question)
    (answer : Answer) → AnswersOpened MayRefuse opened question answer → IsMade opened
is_made MayRefuse (Ok files) question answer answers = tt
is_made MayRefuse (Err refusal) question answer answers = answers.0

over_once : (MayRefuse : List ℕ → Type 0) → RefusesNoPattern MayRefuse
    → (question : Question) (bytes_of : List ℕ → List ℕ) (a b : Answer) → AnswersOver MayRefuse question bytes_of a
    → AnswersOver MayRefuse question bytes_of b → a ≡ b
over_once MayRefuse off question bytes_of a b p q =
    let same = Opens-once all.Reads all.IsBadAt laws.Reads-once laws.Reads-not_bad laws.IsBadAt-once bytes_of p.opened q.opened p.opens q.opens (is_made MayRefuse p.opened question a p.answers) (is_made MayRefuse q.opened question b q.answers) in
    opened_once MayRefuse off p.opened question a b p.answers (subst (λ opened. AnswersOpened MayRefuse opened question b) (sym same) q.answers)

import_once : (MayRefuse : List ℕ → Type 0) → RefusesNoPattern MayRefuse
    → (name : Name) (kind : Kind) (bytes : List ℕ) (bytes_of : List ℕ → List ℕ) (a b : Answer)
    → AnswersImport MayRefuse name kind bytes bytes_of a → AnswersImport MayRefuse name kind bytes bytes_of b → a ≡ b
import_once MayRefuse off name kind bytes bytes_of a b (Held keys holds p) (Held other again q) =
    let same = Holds-once all.Reads all.IsBadAt laws.Reads-once laws.Reads-not_bad laws.IsBadAt-once name kind bytes keys other holds again in
    over_once MayRefuse off (On name (Replace keys)) bytes_of a b p (subst (λ (k : KeyMap). AnswersOver MayRefuse (On name (Replace k)) bytes_of b) (sym same) q)
import_once MayRefuse off name kind bytes bytes_of a b (Held keys holds p) (Bad cause bad q) =
    absurd (Holds-not_bad all.Reads all.IsBadAt laws.Reads-once laws.Reads-not_bad laws.IsBadAt-once name kind bytes keys cause holds bad)
import_once MayRefuse off name kind bytes bytes_of a b (Bad cause bad p) (Held keys holds q) =
    absurd (Holds-not_bad all.Reads all.IsBadAt laws.Reads-once laws.Reads-not_bad laws.IsBadAt-once name kind bytes keys cause holds bad)
import_once MayRefuse off name kind bytes bytes_of a b (Bad cause bad p) (Bad other again q) =
    p
    ∙ (ap (λ c. refused 5 (line_of_get (fault_of name c))) (Cause-once all.Reads all.IsBadAt laws.Reads-once laws.Reads-not_bad laws.IsBadAt-once name kind bytes cause other bad again) ∙ sym q)

request_once : (MayRefuse : List ℕ → Type 0) → RefusesNoPattern MayRefuse
    → (asked : Request) (input : List ℕ) (bytes_of : List ℕ → List ℕ) (a b : Answer)
    → AnswersRequest MayRefuse asked input bytes_of a → AnswersRequest MayRefuse asked input bytes_of b → a ≡ b
request_once MayRefuse off (Refuses status text) input bytes_of a b p q = p ∙ sym q
request_once MayRefuse off (Bars name) input bytes_of a b p q = p ∙ sym q
request_once MayRefuse off (Asks question) input bytes_of a b p q = over_once MayRefuse off question bytes_of a b p q
request_once MayRefuse off (Imports name kind) input bytes_of a b p q =
    import_once MayRefuse off name kind (taken input) bytes_of a b p q

pub Answers-once : (MayRefuse : List ℕ → Type 0) → RefusesNoPattern MayRefuse
    → (words : List (List ℕ)) (input : List ℕ) (files : List ℕ → List ℕ) (a b : Answer)
    → Answers MayRefuse words input files a → Answers MayRefuse words input files b → a ≡ b
Answers-once MayRefuse off words input files a b = request_once MayRefuse off (request words) input files a b
