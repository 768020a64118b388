-- The set of a handle that got a parent of a store to which nothing was committed yet. (This project's own.)
use Rattle.std.specs.Prelude.{ℕ}
use Rattle.model_names.specs.Name.{Name}
use Rattle.model_maps.specs.KeyMap.{KeyMap}
use Rattle.model_store.specs.Cores.{keeping}
use Rattle.model_store.specs.Records.{Record, no_record}
use Rattle.model_store.specs.Sets.{Prepared, prepared, wants}
use Rattle.model_store.specs.Store.{Store, points_of}
use Rattle.set_split.specs.Involved.{involved_in}

-- what a handle's record keeps after that get
abbrev pub first_record : Store → Name → Record
first_record store parent = keeping (involved_in (points_of store) parent) 0 (wants (points_of store) store.start) no_record

-- the set that it makes of some keys at this parent
abbrev pub first_set : Store → ℕ → Name → KeyMap → Prepared
first_set store handle parent keys = prepared (points_of store) handle (first_record store parent) parent keys
