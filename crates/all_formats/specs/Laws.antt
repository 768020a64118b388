-- The laws of all formats: a kind is one more line of `lawful`, and all else follows for every kind.
use Rattle.std.specs.Prelude.{◌≡◌, ◌⊎◌, ℕ, List, true, Some}
use Rattle.std.specs.FinMap as map
use Rattle.model_names.specs.Name.{Name}
use Rattle.model_maps.specs.Entry.{Entry}
use Rattle.model_maps.specs.KeyMap.{KeyMap}
use Rattle.model_formats.specs.Format.{IsLawful}
use Rattle.model_formats.specs.Holding.{EachHas, LacksFirst, IsKeywise}
use Rattle.model_formats.proofs.HoldingLemmas.{EachHas-or_lacks, EachHas-lacks_nowhere, EachHas-keywise, LacksFirst-once, LacksFirst-key}
use Rattle.model_dump.proofs.Lawful.{dump-lawful}
use Rattle.model_ini.proofs.Lawful.{ini-lawful}
use Rattle.model_hosts.proofs.Lawful.{hosts-lawful}
use Rattle.model_json.proofs.Lawful.{json_files-lawful}
use Rattle.kdb_outside.specs.declared.kinds.Kind.{Kind}
use Rattle.kdb_outside.specs.declared.kinds.Kind.TheVariants.{Dump, SimpleIni, Hosts, Json}
use Rattle.all_formats.specs.Meanings.{format, Reads, IsBadAt, Holds, IsStorable, BreaksAt, is_keywise}

-- each format is lawful
pub lawful : (kind : Kind) → IsLawful (format kind)
lawful Dump = dump-lawful
lawful SimpleIni = ini-lawful
lawful Hosts = hosts-lawful
lawful Json = json_files-lawful

pub Reads-or_bad : (kind : Kind) (bytes : List ℕ)
    → ((keys : KeyMap) × Reads kind bytes keys) ⊎ ((line : ℕ) × IsBadAt kind bytes line)
Reads-or_bad kind bytes = (lawful kind).reads_or_bad bytes

pub Reads-once : (kind : Kind) (bytes : List ℕ) (keys other : KeyMap) → Reads kind bytes keys → Reads kind bytes other
    → keys ≡ other
Reads-once kind bytes keys other reads again = (lawful kind).one_reading bytes keys other reads again

pub Reads-not_bad : (kind : Kind) (bytes : List ℕ) (keys : KeyMap) (line : ℕ) → Reads kind bytes keys
    → IsBadAt kind bytes line → ⊥
Reads-not_bad kind bytes keys line reads bad = (lawful kind).read_is_not_bad bytes keys line reads bad

pub IsBadAt-once : (kind : Kind) (bytes : List ℕ) (line other : ℕ) → IsBadAt kind bytes line → IsBadAt kind bytes other
    → line ≡ other
IsBadAt-once kind bytes line other bad again = (lawful kind).one_line bytes line other bad again

pub held-storable : (kind : Kind) (keys : KeyMap) → EachHas (Holds kind keys) keys → IsStorable kind keys
held-storable kind keys held = held

pub storable-held : (kind : Kind) (keys : KeyMap) → IsStorable kind keys → EachHas (Holds kind keys) keys
storable-held kind keys storable = storable

pub storable-or_breaks : (kind : Kind) (keys : KeyMap)
    → IsStorable kind keys ⊎ ((name : Name) × BreaksAt kind keys name)
storable-or_breaks kind keys = EachHas-or_lacks (Holds kind keys) ((lawful kind).holds_or_not keys) keys

pub BreaksAt-first : (kind : Kind) (keys : KeyMap) (name : Name) → BreaksAt kind keys name
    → LacksFirst (Holds kind keys) keys name
BreaksAt-first kind keys name breaks = breaks

pub storable-breaks_nowhere : (kind : Kind) (keys : KeyMap) (name : Name) → IsStorable kind keys
    → BreaksAt kind keys name → ⊥
storable-breaks_nowhere kind keys name storable breaks =
    EachHas-lacks_nowhere (Holds kind keys) keys name storable breaks

pub BreaksAt-once : (kind : Kind) (keys : KeyMap) (name other : Name) → BreaksAt kind keys name
    → BreaksAt kind keys other → name ≡ other
BreaksAt-once kind keys name other breaks again = LacksFirst-once (Holds kind keys) keys name other breaks again

pub BreaksAt-key : (kind : Kind) (keys : KeyMap) (name : Name) → BreaksAt kind keys name
    → (entry : Entry) × (map.get keys name ≡ Some entry)
BreaksAt-key kind keys name breaks = LacksFirst-key (Holds kind keys) keys name breaks

pub held-alone : (kind : Kind) (keys other : KeyMap) (name : Name) (entry : Entry) → is_keywise kind ≡ true
    → Holds kind keys name entry → Holds kind other name entry
held-alone kind keys other name entry keywise held = (lawful kind).held_alone keys other name entry keywise held

pub by-keys : (kind : Kind) (keys : KeyMap) → is_keywise kind ≡ true → IsKeywise (IsStorable kind) keys
by-keys kind keys keywise =
    EachHas-keywise (Holds kind) (λ keys other name entry held. held-alone kind keys other name entry keywise held) keys
