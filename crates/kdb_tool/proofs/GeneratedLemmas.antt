-- A generated run, from the story of its store to its end on out and err.
use Rattle.std.specs.Prelude.{◌≡◌, ℕ, List, Result, Ok, Err}
use Rattle.std.proofs.Common.{inl, inr, subst}
use Rattle.all_formats.specs.Meanings as all
use Rattle.batch_run.specs.Played.{IsPlayed}
use Rattle.batch_run.specs.declared.playing.Played.{Played}
use Rattle.batch_script.specs.declared.steps.Script.{Script}
use Rattle.kdb_gen.specs.Generated.{gen_script}
use Rattle.kdb_gen.specs.Tallies.{summary, tally_of}
use Rattle.kdb_handle.specs.Story.{commits_of}
use Rattle.kdb_outside.specs.SinkChange.{SinkChange as Change}
use Rattle.kdb_outside.specs.declared.disks.Disk.{Ghosts}
use Rattle.kdb_tool.proofs.EndLemmas.{front-none}
use Rattle.kdb_tool.proofs.PlayLemmas.{at_some}
use Rattle.kdb_tool.specs.Generated.{ComesTo, PlaysRounds, no_files}
use Rattle.kdb_tool.specs.Generating.{ComesOut, TellsGenerated, TellsIf}
use Rattle.kdb_tool.specs.Rounds.{Plays, Refuses, Rounds}
use Rattle.kdb_tool.specs.RunsGenerated.{EndsGenerated, Summed, Without, summed}
use Rattle.model_batch.specs.Scripts.{IsFairScript}
use Rattle.model_history.specs.History.{Commit}
use Rattle.mounted_files.specs.Opening.{IsOpened}
use Rattle.mounted_files.specs.declared.files.MountedFile.{MountedFile}
use Rattle.store_core.specs.declared.cores.Core.{Core}
use Rattle.store_lines.specs.Lines.{out_of_memory}
use Rattle.tool_commands.specs.Report.{Report, warned}
use Rattle.tool_commands.specs.declared.reports.Report as code
use Rattle.tool_single.proofs.EndLemmas.{put_front}
use Rattle.tool_single.specs.Ending.{ending, stopped}
use Rattle.tool_single.specs.Outcome.{Delivers}
use Rattle.tool_single.specs.Sets.{formats}
use Rattle.tool_single.specs.declared.answers.Stop.{Stop}
use Rattle.tool_single.specs.declared.answers.Stop.TheVariants as stops

-- ---- from what came of the script on an open store

module _ {D P : Type 0} (g : Ghosts D) (refused : P → ℕ) (rounds : ℕ) (mounted : List MountedFile) (script : Script) (core : Core D P) (played : Played D P) where
  plays : IsOpened all.Reads all.IsBadAt no_files mounted → script ≡ gen_script rounds
      → IsPlayed formats g refused mounted script core played
      → ComesOut rounds played.transcripts played.closed.history.commits → PlaysRounds rounds
  plays opened same is out =
      let fair = at_some (IsFairScript formats mounted (commits_of is.story) script) played.transcripts out.replies out.is is.fair in
      record {
        mounted = mounted;
        opened = opened;
        history = commits_of is.story;
        legal = is.legal;
        transcripts = out.replies;
        fair = subst (λ (s : Script). IsFairScript formats mounted (commits_of is.story) s out.replies) same fair;
        well = out.well;
        comes_to = subst (λ (history : List Commit). ComesTo history (tally_of rounds)) is.history out.comes_to;
      }

-- ---- to out and err

module _ (status : ℕ) (out err : Change) where
  pub generated-ends : (rounds : Rounds) (answer : Result code.Report Stop) → TellsGenerated rounds answer
      → Delivers (ending answer) status out err → EndsGenerated rounds status out err
  generated-ends (Refuses number text) (Ok report) told delivers =
      inl (subst (λ (r : Report). Delivers r status out err) told delivers)
  generated-ends (Refuses number text) (Err stop) told delivers =
      inr (subst (λ (s : Stop). Delivers (stopped s) status out err) told delivers)
  generated-ends (Plays rounds) (Ok report) told delivers =
      let given = subst (λ (r : Report). Delivers r status out err) told.0 delivers in
      record { told = Summed told.1 given; prefix = put_front (summed rounds) status out err given }
  generated-ends (Plays rounds) (Err stop) told delivers =
      let given = subst (λ (s : Stop). Delivers (stopped s) status out err) told delivers in
      record {
        told = Without given;
        prefix = front-none out.held_before out.held_now (summary rounds (tally_of rounds)) (put_front (warned 70 out_of_memory) status out err given);
      }

-- only want of memory leaves it without an answer
pub generated-stops : (rounds : Rounds) (answer : Result code.Report Stop) (stop : Stop) → TellsGenerated rounds answer
    → answer ≡ Err stop → stop ≡ stops.Memory
generated-stops (Plays rounds) (Ok report) stop told is = absurd cc
generated-stops (Plays rounds) (Err why) stop told is =
    subst (λ (r : Result code.Report Stop). TellsIf rounds (PlaysRounds rounds) r) is told
generated-stops (Refuses status text) (Ok report) stop told is = absurd cc
generated-stops (Refuses status text) (Err why) stop told is =
    subst (λ (r : Result code.Report Stop). TellsGenerated (Refuses status text) r) is told
