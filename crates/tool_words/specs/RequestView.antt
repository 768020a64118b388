-- A request as the code has it, seen as what it asks for. (This project's own.)
use Rattle.std.specs.Prelude.{◌≡◌, ℕ, List, map}
use Rattle.std.specs.Borrow.{Bor}
use Rattle.model_names.specs.Name.{Name}
use Rattle.model_names.specs.Refuses as table
use Rattle.key_name.specs.declared.faults.NameFault.{NameFault}
use Rattle.key_name.specs.declared.faults.NameFault.TheVariants as faults
use Rattle.tool_words.specs.declared.requests.Request as code
use Rattle.tool_words.specs.declared.requests.Request.TheVariants as code_requests
use Rattle.tool_words.specs.declared.requests.Action as code_action
use Rattle.tool_words.specs.declared.requests.Action.TheVariants as code_actions
use Rattle.tool_words.specs.declared.requests.Question as code_question
use Rattle.tool_words.specs.declared.requests.Question.TheVariants as code_questions
use Rattle.tool_words.specs.declared.requests.Named as code_named
use Rattle.tool_words.specs.declared.requests.Named.TheVariants as code_names
use Rattle.tool_words.specs.declared.requests.Refusal.{Refusal}
use Rattle.tool_words.specs.declared.requests.Refusal.TheVariants as refusals
use Rattle.tool_words.specs.Lines.{argument, no_command, unknown_command, options_refused, no_name}
use Rattle.store_lines.specs.Lines.{out_of_memory}
use Rattle.tool_words.specs.Request.{Action, Get, Set, Remove, Names, GetMeta, SetMeta, MetaNames, Bring, MountFile, Unmount, Replace, Merge, Question, Mounts, FileOf, TextOf, ViolationsOf, On, Request, Refuses, Bars, Asks, Imports}

-- the status of a refusal
abbrev pub status_of : Refusal → ℕ
status_of refusals.NoCommand = 4
status_of (refusals.UnknownCommand word) = 4
status_of refusals.OptionsRefused = 1
status_of (refusals.NoName fault) = 2
status_of (refusals.NoArgument word) = 2

-- the text of a fault of a name; want of memory has its own
abbrev pub text_of_fault : NameFault → List ℕ
text_of_fault faults.NoNamespace = no_name table.NoNamespace
text_of_fault faults.UnknownNamespace = no_name table.UnknownNamespace
text_of_fault faults.NoSlash = no_name table.NoSlash
text_of_fault (faults.BadEscape at) = no_name (table.BadEscape at)
text_of_fault (faults.BadArray at) = no_name (table.BadArray at)
text_of_fault (faults.Nul at) = no_name (table.Nul at)
text_of_fault (faults.TooLong bytes) = no_name (table.TooLong bytes)
text_of_fault faults.Memory = out_of_memory

-- the text of a refusal's line
abbrev pub text_of : Refusal → List ℕ
text_of refusals.NoCommand = no_command
text_of (refusals.UnknownCommand word) = unknown_command word.now
text_of refusals.OptionsRefused = options_refused
text_of (refusals.NoName fault) = text_of_fault fault
text_of (refusals.NoArgument word) = argument word.now

abbrev pub action_of : code_action.Action → Action
action_of code_actions.Get = Get
action_of (code_actions.Set value) = Set value.now
action_of (code_actions.Remove extent) = Remove extent
action_of code_actions.Names = Names
action_of (code_actions.GetMeta meta) = GetMeta meta
action_of (code_actions.SetMeta meta text) = SetMeta meta text.now
action_of code_actions.MetaNames = MetaNames
action_of (code_actions.Bring way extent to) = Bring way extent to
action_of (code_actions.MountFile file kind by_key) = MountFile file.now kind by_key
action_of code_actions.Unmount = Unmount
action_of (code_actions.Replace keys) = Replace keys
action_of (code_actions.Merge strategy our their base) = Merge strategy our their base

abbrev pub question_of : code_question.Question → Question
question_of code_questions.Mounts = Mounts
question_of (code_questions.FileOf name) = FileOf name
question_of (code_questions.TextOf name kind) = TextOf name kind
question_of (code_questions.ViolationsOf name) = ViolationsOf name
question_of (code_questions.On name action) = On name (action_of action)

-- words that are lent
abbrev pub texts_of : List (Bor (List ℕ)) → List (List ℕ)
texts_of words = map (λ word. word.now) words

-- a request as the code has it is this one
abbrev pub IsSeenAs : code.Request → Request → Type 0
IsSeenAs (code_requests.Refuses refusal) asked = asked ≡ Refuses (status_of refusal) (text_of refusal)
IsSeenAs (code_requests.Bars name) asked = asked ≡ Bars name
IsSeenAs (code_requests.Asks question) asked = asked ≡ Asks (question_of question)
IsSeenAs (code_requests.Imports name kind) asked = asked ≡ Imports name kind

-- a word that was read as a name: whatever is asked for by a name is asked for by this one, or the word is refused
abbrev pub IsRead : ((Name → Request) → Request) → code_named.Named → Type 0
IsRead given (code_names.Is name) = (asked : Name → Request) → given asked ≡ asked name
IsRead given (code_names.IsNone request) = (asked : Name → Request) → IsSeenAs request (given asked)
