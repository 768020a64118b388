-- The words that tell formats of files. (After Elektra's page on mounting, where a plugin stores a mount's keys.)
use Rattle.std.specs.Prelude.{ℕ, nat_eq, List, Option, Some, None, if◌then◌else◌, codes}
use Rattle.std.specs.Cmp.Lexicographic.{pointwise}
use Rattle.kdb_outside.specs.declared.kinds.Kind.{Kind}
use Rattle.kdb_outside.specs.declared.kinds.Kind.TheVariants.{Dump, SimpleIni, Hosts, Json}

-- the word of a format
abbrev pub kind_word : Kind → List ℕ
kind_word Dump = codes "dump"
kind_word SimpleIni = codes "simpleini"
kind_word Hosts = codes "hosts"
kind_word Json = codes "json"

-- the format of a word
abbrev pub kind_of : List ℕ → Option Kind
kind_of word =
    if pointwise nat_eq word (kind_word Dump) then Some Dump else
    (if pointwise nat_eq word (kind_word SimpleIni) then Some SimpleIni else
    (if pointwise nat_eq word (kind_word Hosts) then Some Hosts else
    (if pointwise nat_eq word (kind_word Json) then Some Json else None)))
