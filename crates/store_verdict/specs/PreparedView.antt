-- A prepared set as the code has it, seen as the definitions have it.
use Rattle.std.specs.Prelude.{ℕ, nat_eq, if◌then◌else◌, List, map as over, Option, Some, None}
use Rattle.general_words.specs.Searches.{first_some}
use Rattle.model_store.specs.Sets as model
use Rattle.store_verdict.specs.declared.prepared.Prepared.{Prepared}
use Rattle.store_verdict.specs.declared.prepared.Seen.{Seen}

-- the front of a mount among those that were seen
abbrev pub if_mount : ℕ → Seen → Option ℕ
if_mount m seen = if nat_eq m seen.mount then Some seen.front else None

abbrev pub front_of : List Seen → ℕ → Option ℕ
front_of seen m = first_some (if_mount m) seen

abbrev pub prepared_of : Prepared → model.Prepared
prepared_of set = record {
  handle = set.handle;
  committed = set.committed;
  involved = over (λ seen. seen.mount) set.seen;
  fronts = front_of set.seen;
  keys = set.keys;
  touched = set.touched;
  changes = set.changes;
  aside = set.aside;
}
