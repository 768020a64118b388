-- The store of a command with its one handle, and what the handle gets before anything was committed. (This project's
-- own.)
use Rattle.std.specs.Prelude.{ℕ, List, Option, Some, None, option_and_then, Result, Ok, Err}
use Rattle.model_maps.specs.KeyMap.{KeyMap, no_keys}
use Rattle.model_names.specs.Name.{Name}
use Rattle.model_store.specs.Events.{first_bad, got}
use Rattle.model_store.specs.Store.{Store, store_of}
use Rattle.mounted_files.specs.declared.files.MountedFile.{MountedFile}
use Rattle.mounted_files.specs.declared.refusals.GetFault.{GetFault}
use Rattle.store_core.specs.Gets.{fault_at}

-- the store of a command, whose handle has no keys in `proc`
abbrev pub store_alone : List MountedFile → Store
store_alone files = store_of files (λ handle. no_keys)

-- the number of its handle
abbrev pub the_handle : ℕ
the_handle = 0

-- some keys, unless there is a fault
abbrev pub unless_bad : Option GetFault → KeyMap → Result KeyMap GetFault
unless_bad None keys = Ok keys
unless_bad (Some why) keys = Err why

-- what a get of a parent gives the handle: the keys, or why the lowest bad mount is bad that the parent involves
abbrev pub got_alone : List MountedFile → Name → Result KeyMap GetFault
got_alone files parent =
    unless_bad (option_and_then (fault_at files) (first_bad (store_alone files) parent)) (got (store_alone files) (store_alone files).start the_handle parent)
