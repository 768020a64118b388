-- The one text of a map as a dump. (This project's own, made after Elektra's dump storage.)
use Rattle.std.specs.Prelude.{ℕ, List, [], ◌∷◌, ◌++◌, map}
use Rattle.std.specs.FinMap as finite
use Rattle.std.specs.List.{flat_map}
use Rattle.model_names.specs.Name.{Name}
use Rattle.model_names.specs.Spelling.{relative_text}
use Rattle.model_maps.specs.Entry.{Entry}
use Rattle.model_maps.specs.KeyMap.{KeyMap}
use Rattle.model_dump.specs.Record.{Record, KeyKind, MetaKind, spelled_record, header, ending}

-- a metadata name and its text
abbrev pub record_of_meta : List ℕ × List ℕ → Record
record_of_meta item = record { kind = MetaKind; first = item.0; second = item.1 }

-- a key with its value, and then its metadata by names in order
abbrev pub records_of_key : Name × Entry → List Record
records_of_key key =
    record { kind = KeyKind; first = relative_text key.0; second = key.1.value } ∷ map record_of_meta (finite.entries key.1.meta)

-- the keys in name order
abbrev pub records_of : KeyMap → List Record
records_of keys = flat_map records_of_key (finite.entries keys)

-- the header, the records, and the ending with its line feed
abbrev pub text : KeyMap → List ℕ
text keys = header ++ (flat_map spelled_record (records_of keys) ++ (ending ++ 10 ∷ []))
