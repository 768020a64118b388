-- The keys after an entry is added or removed, or why it isn't. (After Elektra's manual pages of kdb mount and kdb
-- umount.)
use Rattle.std.specs.Prelude.{◌≡◌, ℕ, Bool, if◌then◌else◌, List, None, Result, Ok, Err}
use Rattle.key_name.specs.Children.{child_refusal}
use Rattle.kdb_outside.specs.declared.kinds.Kind.{Kind}
use Rattle.model_names.specs.Name.{Part}
use Rattle.model_maps.specs.KeyMap.{KeyMap, not_below}
use Rattle.mount_table.specs.Entries.{has_entry, with_entry}
use Rattle.mount_table.specs.Places.{mountpoints, entry_name, path_word, plugin_word, conflicts_word}
use Rattle.mount_table.specs.Reading.{◌>>=◌}
use Rattle.mount_table.specs.Table.{table_of}
use Rattle.mount_table.specs.declared.faults.TableFault.{TableFault}
use Rattle.mount_table.specs.declared.faults.TableFault.TheVariants.{AlreadyMounted, NotMounted}

-- the keys with an entry added, which must not be there, and with which the keys must make a table
abbrev pub added : KeyMap → Part → List ℕ → Kind → Bool → Result KeyMap TableFault
added keys text file kind by_key =
    let after = with_entry keys text file kind by_key in
    if has_entry keys text then Err (AlreadyMounted text) else (table_of after >>= λ _. Ok after)

-- the keys without an entry, which must be there, and without all that is below it
abbrev pub removed : KeyMap → Part → Result KeyMap TableFault
removed keys text = if has_entry keys text then Ok (not_below (entry_name text) keys) else Err (NotMounted text)

-- the names of an entry and of its three children are names
pub record HasNames (text : Part) : Type 0 where
  pub entry : child_refusal mountpoints text ≡ None
  pub path : child_refusal (entry_name text) path_word ≡ None
  pub plugin : child_refusal (entry_name text) plugin_word ≡ None
  pub conflicts : child_refusal (entry_name text) conflicts_word ≡ None
