-- What a file of each kind means: a kind is one more line. (This project's own.)
use Rattle.std.specs.Prelude.{ℕ, List, Bool}
use Rattle.model_names.specs.Name.{Name}
use Rattle.model_maps.specs.Entry.{Entry}
use Rattle.model_maps.specs.KeyMap.{KeyMap}
use Rattle.model_formats.specs.Format as formats
use Rattle.model_formats.specs.Format.{Format}
use Rattle.model_dump.specs.DumpFormat.{dump}
use Rattle.model_ini.specs.Text.{ini}
use Rattle.model_hosts.specs.Text.{hosts}
use Rattle.model_json.specs.Text.{json_files}
use Rattle.kdb_outside.specs.declared.kinds.Kind.{Kind}
use Rattle.kdb_outside.specs.declared.kinds.Kind.TheVariants.{Dump, SimpleIni, Hosts, Json}

-- the format of a kind
abbrev pub format : Kind → Format
format Dump = dump
format SimpleIni = ini
format Hosts = hosts
format Json = json_files

-- bytes read as a map
abbrev pub Reads : Kind → List ℕ → KeyMap → Type 0
Reads kind bytes keys = (format kind).Reads bytes keys

-- bytes read as no map, and the first thing without a reading begins with this line
abbrev pub IsBadAt : Kind → List ℕ → ℕ → Type 0
IsBadAt kind bytes line = (format kind).IsBadAt bytes line

-- the text of a map
abbrev pub text : Kind → KeyMap → List ℕ
text kind keys = (format kind).text keys

-- a file can hold a key of a map beside the others
abbrev pub Holds : Kind → KeyMap → Name → Entry → Type 0
Holds kind keys name entry = (format kind).Holds keys name entry

-- a file can hold the map
abbrev pub IsStorable : Kind → KeyMap → Type 0
IsStorable kind keys = formats.IsStorable (format kind) keys

-- the first key that a file can't hold
abbrev pub BreaksAt : Kind → KeyMap → Name → Type 0
BreaksAt kind keys name = formats.BreaksAt (format kind) keys name

-- a map is storable exactly where each of its keys alone is
abbrev pub is_keywise : Kind → Bool
is_keywise kind = (format kind).is_keywise
