-- What each record of a dump adds to the map that the records before it made. (This project's own.)
use Rattle.std.specs.Prelude.{◌≡◌, ◌≢◌, ℕ, ◌≤◌, List, ◌∷◌, Option, None, Some}
use Rattle.std.specs.FinMap as map
use Rattle.model_names.specs.Name.{Name}
use Rattle.model_names.specs.Spells.{Spells}
use Rattle.model_maps.specs.Entry.{Entry, plain_entry, IsValue, IsMetaName, with_meta}
use Rattle.model_maps.specs.KeyMap.{KeyMap, no_keys, weight, heaviest_map}
use Rattle.model_dump.specs.Record.{RecordKind, KeyKind, MetaKind, CopyKind, Record}

-- how far a dump was read: its keys so far, and the key that metadata belongs to
pub record Progress : Type 0 where
  pub keys : KeyMap
  pub present : Option Name

-- nothing was read
abbrev pub start : Progress
start = record { keys = no_keys; present = None }

-- the relative name with a slash before it spells a name that is new
pub record AddsKey (before : Progress) (text value : List ℕ) (after : Progress) : Type 0 where
  pub name : Name
  pub spelled : Spells (47 ∷ text) name
  pub is_new : map.get before.keys name ≡ None
  pub is_value : IsValue value
  pub added : after ≡ record { keys = map.insert before.keys name (plain_entry value); present = Some name }

-- the present key gets a text under a metadata name that it hasn't
pub record PutsMeta (before : Progress) (name text : List ℕ) (after : Progress) : Type 0 where
  pub key : Name
  pub present : before.present ≡ Some key
  pub entry : Entry
  pub found : map.get before.keys key ≡ Some entry
  pub is_new : map.get entry.meta name ≡ None
  pub added : after ≡ record { keys = map.insert before.keys key (with_meta entry name text); present = before.present }

-- metadata of the present key
pub record AddsMeta (before : Progress) (name text : List ℕ) (after : Progress) : Type 0 where
  pub is_name : IsMetaName name
  pub is_value : IsValue text
  pub puts : PutsMeta before name text after

-- metadata of a key that stands earlier than the present key is given to the present key too
pub record CopiesMeta (before : Progress) (source_text name : List ℕ) (after : Progress) : Type 0 where
  pub source : Name
  pub spelled : Spells (47 ∷ source_text) source
  pub earlier : before.present ≢ Some source
  pub entry : Entry
  pub found : map.get before.keys source ≡ Some entry
  pub text : List ℕ
  pub has : map.get entry.meta name ≡ Some text
  pub puts : PutsMeta before name text after

-- what a record of each kind does
abbrev pub AddsBy : RecordKind → Progress → List ℕ → List ℕ → Progress → Type 0
AddsBy KeyKind = AddsKey
AddsBy MetaKind = AddsMeta
AddsBy CopyKind = CopiesMeta

-- a record has a reading behind the records before it, and the map doesn't get too heavy
pub record Adds (before : Progress) (r : Record) (after : Progress) : Type 0 where
  pub adds : AddsBy r.kind before r.first r.second after
  pub light : weight after.keys ≤ heaviest_map
