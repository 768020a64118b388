-- What metadata is made of, as the code has it.
use Rattle.std.specs.Prelude.{◌≡◌, ℕ, List, Some}
use Rattle.std.specs.FinMap as map
use Rattle.std.specs.List.{AllByRecursion}
use Rattle.std.specs.Str.{IsUtf8}
use Rattle.model_maps.specs.Entry.{Meta, IsMetaName}

-- a name that metadata may have, and a text
pub record IsItem (item : List ℕ × List ℕ) : Type 0 where
  pub is_name : IsMetaName item.0
  pub is_text : IsUtf8 item.1

-- each of some items is such
abbrev pub AreItems : List (List ℕ × List ℕ) → Type 0
AreItems items = AllByRecursion IsItem items

-- each name that has a text is such a name, and the text is a text
abbrev pub AreTexts : Meta → Type 0
AreTexts meta = (name text : List ℕ) → map.get meta name ≡ Some text → IsItem (name, text)
