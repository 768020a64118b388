-- A set that was judged: the history goes on behind it, and what it tells is no less than what the session knew.
use Rattle.std.proofs.Common.{ℕ, ◌≤◌, List, [], ◌∷◌, ◌++◌, length, Result, Ok, Err, arith}
use mathlib.Core.List.{IsPrefix}
use Rattle.model_batch.specs.Replies.{set_reply}
use Rattle.model_batch.specs.Sets.{StandsNext, told_then}
use Rattle.model_batch.specs.Told.{IsAtLeast}
use Rattle.model_history.specs.History.{Commit}
use Rattle.model_maps.specs.KeyMap.{KeyMap}
use Rattle.model_store.specs.Sets.{Prepared}
use Rattle.model_store.specs.Store.{Formats, Store}
use Rattle.model_store.specs.Verdicts.{commit_of}
use Rattle.seat_lock.proofs.Prefixes.{prefix-trans}
use Rattle.std.specs.Prelude.{Bool}
use Rattle.store_core.specs.Answers.{IsJudged}
use Rattle.store_core.specs.declared.committing.CommitFault.{CommitFault}
use Rattle.store_core.specs.declared.committing.CommitFault.TheVariants.{Conflict, FileTooLarge, Invalid, DatabaseFull, HistoryFull, DiskFault, Memory}
use Rattle.store_core.specs.declared.committing.Done.{Done}
use Rattle.store_core.specs.declared.committing.Done.TheVariants.{Committed, Same}

pub stands-more : (history longer past : List Commit) (set : Prepared) (result : Result Done CommitFault)
    → IsPrefix history longer → StandsNext history past set result → StandsNext longer past set result
stands-more history longer past set (Ok (Committed number aside)) p stands =
    prefix-trans (past ++ commit_of set ∷ []) history longer stands p
stands-more history longer past set (Ok (Same front aside)) p stands = prefix-trans past history longer stands p
stands-more history longer past set (Err why) p stands = prefix-trans past history longer stands p

-- a judged set tells of the commits by which it was judged
pub judged-front : (formats : Formats) (store : Store) (risen : Bool) (past : List Commit) (keys : KeyMap)
    (set : Prepared) (floor : ℕ) (result : Result Done CommitFault) → floor ≤ length past
    → IsJudged formats store risen past keys set result
    → (floor ≤ told_then result floor) × IsAtLeast floor (set_reply result)
judged-front formats store risen past keys set floor (Ok (Committed number aside)) le h =
    (omega (arith, h.0), (omega (arith, h.0), tt))
judged-front formats store risen past keys set floor (Ok (Same front aside)) le h =
    (omega (arith, h.0), (omega (arith, h.0), tt))
judged-front formats store risen past keys set floor (Err (Conflict mount by front)) le h =
    (omega (arith, h.2), (omega (arith, h.2), tt))
judged-front formats store risen past keys set floor (Err (FileTooLarge mount bytes front)) le h =
    (omega (arith, h.2), (omega (arith, h.2), tt))
judged-front formats store risen past keys set floor (Err (Invalid violation front)) le h =
    (omega (arith, h.0), (omega (arith, h.0), tt))
judged-front formats store risen past keys set floor (Err (DatabaseFull weight front)) le h =
    (omega (arith, h.0), (omega (arith, h.0), tt))
judged-front formats store risen past keys set floor (Err (HistoryFull weight front)) le h =
    (omega (arith, h.0), (omega (arith, h.0), tt))
judged-front formats store risen past keys set floor (Err (DiskFault front)) le h =
    (omega (arith, h.1), (omega (arith, h.1), tt))
judged-front formats store risen past keys set floor (Err Memory) le h = (omega arith, tt)
