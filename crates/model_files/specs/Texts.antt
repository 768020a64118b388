-- The texts that commits store, as entries of a journal. (This project's own.)
use Rattle.std.specs.Prelude.{ℕ, List, [], ◌∷◌, map as over, slice_get, Option, Some, None}
use Rattle.std.specs.FinMap as map
use Rattle.std.specs.FinMap.{FinMap}
use Rattle.general_words.specs.Texts.{text_cmp}
use Rattle.journal_codec.specs.declared.files.FileText.{FileText}
use Rattle.model_maps.specs.KeyMap.{KeyMap}
use Rattle.model_history.specs.Changes.{changed_by}
use Rattle.model_history.specs.History.{Commit}
use Rattle.model_store.specs.Store.{Store, Formats}
use Rattle.model_files.specs.Files.{text_of}
use Rattle.mount_table.specs.declared.mounts.Mount.{Mount}

-- texts by the names of their files
abbrev pub Texts : Type 0
Texts = FinMap text_cmp (List ℕ)

-- texts with that of a mount, if there is one of that number
abbrev pub with_text : Formats → Store → KeyMap → ℕ → Option Mount → Texts → Texts
with_text formats store keys m None texts = texts
with_text formats store keys m (Some mount) texts = map.insert texts mount.file (text_of formats store keys m mount)

-- the texts of some mounts
abbrev pub texts_at : Formats → Store → KeyMap → List ℕ → Texts
texts_at formats store keys [] = map.empty
texts_at formats store keys (m ∷ mounts) =
    with_text formats store keys m (slice_get store.mounts m) (texts_at formats store keys mounts)

-- a text as a file of an entry
abbrev pub as_file : List ℕ × List ℕ → FileText
as_file text = record { file = text.0; bytes = text.1 }

-- the entry of some texts, in the order of the files' names
abbrev pub as_entry : Texts → List FileText
as_entry texts = over as_file (map.entries texts)

-- the entry of a commit on a map: the texts of the touched mounts, of the map after it
abbrev pub entry_of : Formats → Store → KeyMap → Commit → List FileText
entry_of formats store before commit =
    as_entry (texts_at formats store (changed_by commit.changes before) commit.touched)

-- the entries of commits on a map, one after the other
abbrev pub entries_from : Formats → Store → KeyMap → List Commit → List (List FileText)
entries_from formats store start [] = []
entries_from formats store start (commit ∷ commits) =
    entry_of formats store start commit ∷ entries_from formats store (changed_by commit.changes start) commits

-- the entries of a history
abbrev pub entries_of : Formats → Store → List Commit → List (List FileText)
entries_of formats store history = entries_from formats store store.start history
