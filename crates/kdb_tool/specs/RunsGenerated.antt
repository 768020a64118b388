-- What the run of a generated script promises, in one record. (This project's own.)
use Rattle.std.specs.Prelude.{◌≢◌, ◌⊎◌, ◌≤◌, ℕ, List}
use Rattle.kdb_gen.specs.Tallies.{summary, tally_of}
use Rattle.kdb_outside.specs.Faults.{HasRisen}
use Rattle.kdb_outside.specs.SinkChange.{SinkChange as Change, change_of}
use Rattle.kdb_outside.specs.declared.sinks.Sink as sinks
use Rattle.kdb_tool.specs.Generated.{PlaysRounds}
use Rattle.kdb_tool.specs.Rounds.{Plays, Refuses, Rounds, rounds_in}
use Rattle.regex_check.specs.declared.patterns.Patterns as matchers
use Rattle.store_lines.specs.Lines.{out_of_memory}
use Rattle.tool_commands.specs.Report.{Report, told, warned}
use Rattle.tool_single.specs.Ends.{EndsInFault, EndsWithoutMemory}
use Rattle.tool_single.specs.Outcome.{Delivers, GainsFront}

-- the summary of so many rounds, with status 0: it is one function of their number
abbrev pub summed : ℕ → Report
summed rounds = told (summary rounds (tally_of rounds))

-- the script was played and its summary told; or the run ended in want of memory, which a fault of the memory disk
-- counts as
pub data TellsRounds (rounds : ℕ) (status : ℕ) (out err : Change) : Type 0 where
  Summed : PlaysRounds rounds → Delivers (summed rounds) status out err → TellsRounds rounds status out err
  Without : Delivers (warned 70 out_of_memory) status out err → TellsRounds rounds status out err

-- so only the summary is put on out, or a front of it
pub record EndsRounds (rounds : ℕ) (status : ℕ) (out err : Change) : Type 0 where
  pub told : TellsRounds rounds status out err
  pub prefix : GainsFront out.held_before out.held_now (summary rounds (tally_of rounds))

-- words that are refused decide alone: their line is told, or memory was wanting for it
abbrev pub EndsGenerated : Rounds → ℕ → Change → Change → Type 0
EndsGenerated (Plays rounds) status out err = EndsRounds rounds status out err
EndsGenerated (Refuses code text) status out err =
    Delivers (warned code text) status out err ⊎ Delivers (warned 70 out_of_memory) status out err

-- the run of a generated script, on a disk of its own: it has none that was handed in, and no input
pub record RunsGenerated {K E P : Type 0} (k : sinks.Ghosts K) (e : sinks.Ghosts E) (p : matchers.Ghosts P) (words : List (List ℕ)) (out out_now : K) (err err_now : E) (patterns patterns_now : P) (status : ℕ) : Type 0 where
  -- the whole of it
  pub ran : EndsGenerated (rounds_in words) status (change_of k out out_now) (change_of e err err_now)
  -- what 70 and 74 tell: a fault is one of out or of err
  pub memory : EndsWithoutMemory status (change_of k out out_now) (change_of e err err_now)
  pub fault : EndsInFault ⊥ ⊥ status (change_of k out out_now) (change_of e err err_now)
  -- so without a fault the status isn't that of one
  pub complete : (HasRisen (k.faults out) (k.faults out_now) → ⊥) → (HasRisen (e.faults err) (e.faults err_now) → ⊥)
      → status ≢ 74
  -- no count falls
  pub later_out : k.faults out ≤ k.faults out_now
  pub later_err : e.faults err ≤ e.faults err_now
  pub later_patterns : p.refusals patterns ≤ p.refusals patterns_now
