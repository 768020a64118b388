-- The entries of a mount table. (After Elektra's page on mounting; the layout is this project's own.)
use Rattle.std.specs.Prelude.{◌≡◌, ℕ, Bool, if◌then◌else◌, List, Option, Some, None, filter_map}
use Rattle.std.specs.FinMap as map
use Rattle.std.specs.FinMap.{FinMap}
use Rattle.std.specs.List.{list_any, AllByRecursion}
use Rattle.std.specs.Option.{option_map, option_or}
use Rattle.model_names.specs.Below.{is_at_or_below}
use Rattle.model_names.specs.Name.{Name, Part}
use Rattle.model_names.specs.WellFormed.{IsName}
use Rattle.general_words.specs.Texts.{text_cmp}
use Rattle.model_maps.specs.Entry.{plain_entry}
use Rattle.model_maps.specs.KeyMap.{KeyMap}
use Rattle.kdb_outside.specs.Kind.{kind_word}
use Rattle.kdb_outside.specs.declared.kinds.Kind.{Kind}
use Rattle.mount_table.specs.Places.{entry_name, child_name, path_word, plugin_word, conflicts_word, text_of_entry}
use Rattle.mount_table.specs.Counting.{keys_word, word_added}
use Rattle.mount_table.specs.declared.entries.MountEntry.{MountEntry}

-- what each of some entries says, by the entries' texts
abbrev pub Entries : Type 0
Entries = FinMap text_cmp MountEntry

-- the value of a key
abbrev pub value_at : KeyMap → Name → Option (List ℕ)
value_at keys name = option_map (λ entry. entry.value) (map.get keys name)

-- what the entry of a text says: the values of its three children
abbrev pub said_by : KeyMap → Part → MountEntry
said_by keys text = record {
  path = value_at keys (child_name text path_word);
  plugin = value_at keys (child_name text plugin_word);
  conflicts = value_at keys (child_name text conflicts_word);
}

-- the entries: each distinct part directly below the mountpoints, with what it says
abbrev pub entries_of : KeyMap → Entries
entries_of keys =
    map.from_entries (filter_map (λ key. option_map (λ text. (text, said_by keys text)) (text_of_entry key.0)) (map.entries keys))

-- the entry of a text is there: some key is it or stands below it
abbrev pub has_entry : KeyMap → Part → Bool
has_entry keys text = list_any (λ key. is_at_or_below (entry_name text) key.0) (map.entries keys)

-- every key has a name. Each key tells so of its own when it is looked at, and a set of keys tells it of none
abbrev pub AreNames : KeyMap → Type 0
AreNames keys = AllByRecursion (λ key. IsName key.0) (map.entries keys)

-- some entries with that of a name noted among them: what was noted stays
abbrev pub Notes : KeyMap → Name → Entries → Entries → Type 0
Notes keys name before after =
    (text : Part) → map.get after text ≡ option_or (map.get before text) (if is_at_or_below (entry_name text) name then Some (said_by keys text) else None)

-- what an entry that is added says
abbrev pub said_added : List ℕ → Kind → Bool → MountEntry
said_added file kind by_key = record { path = Some file; plugin = Some (kind_word kind); conflicts = word_added by_key }

-- the keys with the file and the format of an entry
abbrev pub with_file : KeyMap → Part → List ℕ → Kind → KeyMap
with_file keys text file kind =
    map.insert (map.insert keys (child_name text path_word) (plain_entry file)) (child_name text plugin_word) (plain_entry (kind_word kind))

-- the keys with those of an entry added: its file, its format, and how its conflicts are counted where that is by key
abbrev pub with_entry : KeyMap → Part → List ℕ → Kind → Bool → KeyMap
with_entry keys text file kind by_key =
    let files = with_file keys text file kind in
    if by_key then map.insert files (child_name text conflicts_word) (plain_entry keys_word) else files
