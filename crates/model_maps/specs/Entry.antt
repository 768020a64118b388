-- What a key holds: a value, and metadata by name. (Elektra's API documentation: a key has a value and metadata.)
use Rattle.std.specs.Coded.{Coded, code_by, coded×, coded_list, coded_ℕ}
use Rattle.std.specs.Prelude.{refl, ℕ, zero, suc, ◌+◌, ◌^◌, ◌<◌, ◌≤◌, List, [], ◌∷◌, ◌++◌, length, sum_by, None, Some}
use Rattle.std.specs.FinMap as map
use Rattle.std.specs.FinMap.{FinMap}
use Rattle.std.specs.Str.{IsUtf8}
use Rattle.model_names.specs.ArrayPart.{array_part}
use Rattle.general_words.specs.Texts.{text_cmp}

-- metadata: a text for each of some names, by bytes
abbrev pub Meta : Type 0
Meta = FinMap text_cmp (List ℕ)

-- how a proof tells metadata apart
abbrev pub coded_meta : Coded Meta
coded_meta = map.code (coded_list coded_ℕ) (coded_list coded_ℕ)

-- a value and its metadata
pub record Entry : Type 0 where
  pub value : List ℕ
  pub meta : Meta

-- an entry with this value and no metadata
abbrev pub plain_entry : List ℕ → Entry
plain_entry value = record { value = value; meta = map.empty }

-- the entry with one more metadata
abbrev pub with_meta : Entry → List ℕ → List ℕ → Entry
with_meta entry name text = record { value = entry.value; meta = map.insert entry.meta name text }

-- the most bytes of a value and of a metadata text
abbrev pub longest_value : ℕ
longest_value = 65536

-- a text that may be stored as a value or as metadata
pub record IsValue (text : List ℕ) : Type 0 where
  pub utf8 : IsUtf8 text
  pub limit : length text ≤ longest_value

-- the most bytes of a metadata name
abbrev pub longest_meta_name : ℕ
longest_meta_name = 4096

-- a name that metadata may have: not empty, and not too long
pub record IsMetaName (name : List ℕ) : Type 0 where
  pub utf8 : IsUtf8 name
  pub some : 0 < length name
  pub limit : length name ≤ longest_meta_name

-- the bytes of metadata: its names and texts
abbrev pub meta_bytes : Meta → ℕ
meta_bytes meta = sum_by (λ m. length m.0 + length m.1) (map.entries meta)

-- the metadata name of an array's item: behind the array's name and a slash stands the part of its index
abbrev pub item_name : List ℕ → ℕ → List ℕ
item_name prefix index = prefix ++ (47 ∷ array_part index)

-- the texts of an array of metadata from an index on, at most so many: it ends at the first item that is missing
abbrev pub texts_from : ℕ → Meta → List ℕ → ℕ → List (List ℕ)
texts_from zero meta prefix index = []
texts_from (suc more) meta prefix index =
    elim (map.get meta (item_name prefix index)) [ None ↦ [] | Some text ↦ text ∷ texts_from more meta prefix (index + 1) ]

-- all texts of an array of metadata. No list in memory is longer than this count
unfoldable pub array_texts : Meta → List ℕ → List (List ℕ)
array_texts meta prefix = texts_from (2 ^ 64) meta prefix 0

-- how a proof tells entries apart
abbrev pub coded_entry : Coded Entry
coded_entry =
    code_by (List ℕ × Meta) (coded× (coded_list coded_ℕ) coded_meta) (λ e. (e.value, e.meta)) (λ p. record { value = p.0; meta = p.1 }) (λ _. refl)
