-- Verdicts as the code has them, seen as the definitions have them.
use Rattle.std.specs.Prelude.{ℕ, nat_lt, Bool, if◌then◌else◌, List, Option}
use Rattle.std.specs.Option.{option_map}
use Rattle.general_words.specs.Saturated.{saturated}
use Rattle.commit_log.specs.CommitView.{commit_of}
use Rattle.commit_log.specs.declared.commits.Commit.{Commit}
use Rattle.journal_codec.specs.declared.files.FileText.{FileText}
use Rattle.model_history.specs.History.{heaviest_history}
use Rattle.model_store.specs.Verdicts as model
use Rattle.store_verdict.specs.declared.judging.Block.{Block}
use Rattle.store_verdict.specs.declared.judging.Late.{Late}
use Rattle.store_verdict.specs.declared.judging.Late.TheVariants.{Same, Conflict, TooLarge, Invalid, DatabaseFull, HistoryFull, Commits}

-- with whether the matcher's count of refusals rose
abbrev pub late_of : Bool → Late → model.Late
late_of risen (Same aside) = model.Same aside
late_of risen (Conflict mount by) = model.Conflict mount by
late_of risen (TooLarge mount bytes) = model.TooLarge mount bytes
late_of risen (Invalid violation) = model.Invalid violation risen
late_of risen (DatabaseFull weight) = model.DatabaseFull weight
late_of risen (HistoryFull weight) = model.HistoryFull weight
late_of risen (Commits commit aside renewed) = model.Commits (commit_of commit) aside

-- a blocked mount is a conflict
abbrev pub conflict_of : Option Block → Option model.Late
conflict_of block = option_map (λ b. model.Conflict b.mount b.by) block

-- a commit, unless the history with it weighs too much
abbrev pub unless_full : ℕ → Commit → ℕ → Option (List FileText) → Late
unless_full weight commit aside renewed =
    if nat_lt heaviest_history weight then HistoryFull (saturated weight) else Commits commit aside renewed
