-- What the entry of the present key is made of, as the code has it, and what becomes of it.
use Rattle.std.specs.Prelude.{◌≡◌, ◌≢◌, ℕ, ◌<◌, ◌≤◌, Bool, true, false, List, length, None}
use Rattle.std.specs.FinMap as map
use Rattle.std.specs.List.{AllByRecursion}
use Rattle.model_maps.specs.Entry.{Entry, longest_meta_name, with_meta}

-- a name and a text, of which the name isn't too short or too long for metadata
pub record HasMetaLength (item : List ℕ × List ℕ) : Type 0 where
  pub some : 0 < length item.0
  pub limit : length item.0 ≤ longest_meta_name

-- each of some items is such
abbrev pub HaveMetaLengths : List (List ℕ × List ℕ) → Type 0
HaveMetaLengths items = AllByRecursion HasMetaLength items

-- an entry got a text under a new name, or it has the name and is as it was
abbrev pub PutsNew : Entry → List ℕ → List ℕ → Entry → Bool → Type 0
PutsNew before name text after true = (map.get before.meta name ≡ None) × (after ≡ with_meta before name text)
PutsNew before name text after false = (map.get before.meta name ≢ None) × (after ≡ before)
