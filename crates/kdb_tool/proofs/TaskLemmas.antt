-- What is told of words and an input that ask for no script, and what is asked for by those that do.
use Rattle.std.specs.Prelude.{◌≡◌, ℕ, Bool, true, false, List, [], Option, Some}
use Rattle.std.proofs.Common.{refl, ap, arith}
use Rattle.batch_script.specs.Scripts.{Adds}
use Rattle.batch_script.specs.declared.steps.Script.{Script}
use Rattle.batch_script.proofs.LineLemmas.{Adds-once}
use Rattle.kdb_outside.specs.declared.sources.Source.{Ghosts}
use Rattle.kdb_tool.specs.Ends.{TellsOfJournal}
use Rattle.kdb_tool.specs.Ends as ends
use Rattle.kdb_tool.specs.Scripts.{AsksFor, AsksStore, IsGiven, IsScript, LeavesInput, most_taken, taken}
use Rattle.kdb_tool.specs.Tasks.{IsTask, IsTaskOf, OfInput, OfWords, warning_of}
use Rattle.kdb_tool.specs.Unplayed.{AnswersUnplayed, RefusesScript, ScriptRefused, WordsRefused}
use Rattle.kdb_tool.specs.Unplayed as unplayed
use Rattle.kdb_tool.specs.declared.tasks.NoScript.{NoScript}
use Rattle.kdb_tool.specs.declared.tasks.NoScript.TheVariants.{OptionsRefused, TooLong, BadLine}
use Rattle.kdb_tool.specs.declared.tasks.Task.{Task}
use Rattle.kdb_tool.specs.declared.tasks.Task.TheVariants.{Play, Refuse}
use Rattle.model_lines.specs.Lines.{lines}
use Rattle.model_lines.proofs.Leading.{Leads-stops_nowhere}
use Rattle.tool_single.specs.Answer.{tells}
use Rattle.tool_single.specs.Input.{TakesAll, TakesFront}

-- why there is no script
abbrev pub why_in : Task → NoScript
why_in (Play script) = OptionsRefused
why_in (Refuse why) = why

pub no_play : (script : Script) (why : NoScript) → Play script ≡ Refuse why → ⊥
no_play script why same = absurd cc

refuses-script : (input : List ℕ) (why : NoScript) → IsTaskOf (taken input) (Refuse why)
    → RefusesScript input (tells (warning_of why))
refuses-script input OptionsRefused is = absurd is
refuses-script input TooLong is = unplayed.TooLong is refl
refuses-script input (BadLine line) is = unplayed.BadLine is.0 line is.1 refl

-- the answer
pub refused-answers : (words : List (List ℕ)) (input : List ℕ) (bytes_of : List ℕ → List ℕ) (why : NoScript)
    → IsTask words input (Refuse why) → AnswersUnplayed words input bytes_of (tells (warning_of why))
refused-answers words input bytes_of why (OfWords refused same) =
    WordsRefused refused (ap (λ (t : Task). tells (warning_of (why_in t))) same)
refused-answers words input bytes_of why (OfInput takes is) = ScriptRefused takes (refuses-script input why is)

-- what is told where the journal is refused
pub refused-journal : (words : List (List ℕ)) (input line : List ℕ) (why : NoScript) → IsTask words input (Refuse why)
    → TellsOfJournal words input line (warning_of why)
refused-journal words input line why (OfWords refused same) =
    ends.WordsRefused refused (ap (λ (t : Task). warning_of (why_in t)) same)
refused-journal words input line why (OfInput takes is) = ends.ScriptRefused takes (refuses-script input why is)

-- the store isn't asked then
script-none : (input : List ℕ) (why : NoScript) (script : Script) → IsTaskOf (taken input) (Refuse why)
    → IsScript input script → ⊥
script-none input OptionsRefused script is reads = is
script-none input TooLong script is reads = let short = reads.short in absurd cc
script-none input (BadLine line) script is reads =
    Leads-stops_nowhere Adds Adds-once [] (lines (taken input)) reads.reads.items line reads.reads.leads is.1

pub refused-asks : (words : List (List ℕ)) (input : List ℕ) (why : NoScript) → IsTask words input (Refuse why)
    → AsksStore words input → ⊥
refused-asks words input why (OfWords refused same) asks = let takes = asks.1.takes in absurd cc
refused-asks words input why (OfInput takes is) asks = script-none input why asks.0 is asks.1.is_script

-- and what is asked for
pub play-asks : (words : List (List ℕ)) (input : List ℕ) (script : Script) → IsTask words input (Play script)
    → AsksFor words input script
play-asks words input script (OfWords refused same) = absurd cc
play-asks words input script (OfInput takes is) = record { takes = takes; is_script = is }

-- ---- the input

-- how a call leaves the input that takes nothing more
pub leaves-more : {S : Type 0} (g : Ghosts S) (takes : Bool) (now_done done : Type 0) (before now : S)
    → (now_done → done) → LeavesInput g takes done before now → LeavesInput g takes now_done before now
leaves-more g false now_done done before now weaker leaves = leaves
leaves-more g true now_done done before now weaker leaves =
    record { front = leaves.front; all = λ answered. leaves.all (weaker answered) }
