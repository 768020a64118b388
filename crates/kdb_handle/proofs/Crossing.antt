-- That threads may share a store, where its disk and its matcher may go to another thread and its formats may be
-- shared. No such fact is made for a struct that has a snapshot, as the value under the lock does, and a search which
-- goes down through all that a core has runs out of steps: so each part is a fact of its own. A function above that has
-- threads share a store cites `store_sync` (see `batch_run`).
use denote.RattleType.{RattleType}
use denote.Param.Send.{IsSend, IsSync, sendable}
use Rattle.std.proofs.Crossing.{crosses}
use Rattle.std.proofs.MapsCrossing.{BTreeMap-send}
use Rattle.kdb_outside.specs.declared.disks.Disk as Disk
use Rattle.commit_log.specs.contracts.histories.History as History
use Rattle.intent_journal.specs.contracts.journal.Journal as Journal
use Rattle.kdb_handle.specs.contracts.entries.StoryEntry as StoryEntry
use Rattle.kdb_handle.specs.contracts.shared.Shared as Shared
use Rattle.kdb_handle.specs.contracts.shared.SharedStoried.TheImpl.{ghosts, no_dict}
use Rattle.kdb_handle.specs.contracts.stores.Locked as Locked
use Rattle.kdb_handle.proofs.stores.Locked.TheSendSync as locked
use Rattle.key_name.specs.contracts.names.KeyName as KeyName
use Rattle.key_set.specs.contracts.key_sets.KeySet as KeySet
use Rattle.regex_check.specs.declared.patterns.Patterns as Patterns
use Rattle.seat_lock.specs.declared.story.Storied as Storied
use Rattle.storage_api.specs.declared.formats.Formats as Formats
use Rattle.store_core.specs.contracts.cores.Core as Core

keys_send : IsSend KeySet.the_row
keys_send = search (sendable, crosses) depth 60 fits 20000

name_send : IsSend KeyName.the_row
name_send = search (sendable, crosses) depth 60

-- its index by names is a map
history_send : IsSend History.the_row
history_send = let n = name_send in search (BTreeMap-send, sendable, crosses) depth 60 fits 20000

module _ (D : RattleType) (disk : Disk.Ghosts D.Denot) where
  module _ (d : IsSend D) where
    journal_send : IsSend (Journal.the_row D disk)
    journal_send = search (sendable, crosses) depth 60

    module _ (P : RattleType) (p : IsSend P) where
      core_send : IsSend (Core.the_field D P disk).row
      core_send =
          let j = journal_send in let h = history_send in let k = keys_send in search (sendable, crosses) depth 60

      module _ (F : RattleType) where
        field_send : IsSend (Shared.the_field D F P disk).row
        field_send = let c = core_send in search (sendable, crosses) depth 60

        shared_send : IsSend (Shared.the_row D F P disk)
        shared_send = let f = field_send in search sendable depth 20

  module _ (F P : RattleType) (formats : Formats.Ghosts F.Denot) (patterns : Patterns.Ghosts P.Denot) where
    abbrev stories : Storied.Ghosts (Shared.the_row D F P disk).Denot StoryEntry.the_row.Denot
    stories = ghosts D F P disk no_dict formats no_dict patterns no_dict no_dict no_dict

    -- the store that threads share
    abbrev pub store_row : RattleType
    store_row = Locked.the_row (Shared.the_row D F P disk) F StoryEntry.the_row stories

    pub store_sync : IsSend D → IsSend P → IsSync F → IsSync store_row
    store_sync d p = locked.the_sync (Shared.the_row D F P disk) F StoryEntry.the_row stories (shared_send d P p F)
