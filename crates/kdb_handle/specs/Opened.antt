-- A story's opening, as the definitions of a store have it. (This project's own.)
use Rattle.std.specs.Prelude.{ℕ, Bool, false, List, [], ◌∷◌}
use base.Stored.{gnil}
use Rattle.std.specs.Coded.{Coded}
use Rattle.intent_journal.specs.Journal.{JournalValue}
use Rattle.kdb_handle.specs.Datums.{coded_journal}
use Rattle.kdb_handle.specs.Story.{Told, Opening, Opened, Committed, Failed, Refused}
use Rattle.model_maps.specs.KeyMap.{no_keys}
use Rattle.model_store.specs.Store.{Store, store_of}
use Rattle.mounted_files.specs.declared.files.MountedFile.{MountedFile}

-- the opening of some mounted files over a journal, with the matcher's count of refusals and whether it wrote to the
-- disk
abbrev pub opening_of : {D : Type 0} → Coded D → List MountedFile → JournalValue D → ℕ → Bool → Opening
opening_of code files journal refusals wrote =
    record { files = files; journal = (coded_journal code).code journal; refusals = refusals; wrote = wrote }

-- the store of some mounted files; whose keys are in `proc` matters to a get alone
abbrev pub store_at : List MountedFile → Store
store_at files = store_of files (λ r. no_keys)

-- with how a story begins; one that tells of no opening at first has none
abbrev pub no_opening : Opening
no_opening = record { files = []; journal = gnil; refusals = 0; wrote = false }

abbrev pub opening_in : List Told → Opening
opening_in (Opened opening ∷ log) = opening
opening_in (Committed commit ∷ log) = no_opening
opening_in (Failed commit ∷ log) = no_opening
opening_in (Refused handle ∷ log) = no_opening
opening_in [] = no_opening
