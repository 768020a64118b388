-- What a record has of each mount, as the definitions have it.
use Rattle.std.specs.Prelude.{ℕ, List, length, slice_get, Option, option_and_then}
use Rattle.std.specs.Option.{option_map}
use Rattle.model_maps.specs.KeyMap.{KeyMap}
use Rattle.model_store.specs.Records as model
use Rattle.store_verdict.specs.declared.records.Fetched.{Fetched}
use Rattle.store_verdict.specs.declared.records.Record.{Record}

abbrev pub fetched_of : Fetched → model.Fetched
fetched_of fetched = record { front = fetched.front; kept = fetched.kept }

-- what stands in the place of a mount
abbrev pub fetched_at : List (Option Fetched) → ℕ → Option model.Fetched
fetched_at places m = option_and_then (option_map fetched_of) (slice_get places m)

abbrev pub record_of : Record → model.Record
record_of rec = record { fetched = fetched_at rec.fetched.items; committed = rec.committed }

-- whose it is, how many mounts it has a place for, and the handle's own keys
abbrev pub handle_of : Record → ℕ
handle_of rec = rec.handle

abbrev pub places_of : Record → ℕ
places_of rec = length rec.fetched.items

abbrev pub proc_of : Record → KeyMap
proc_of rec = rec.proc
