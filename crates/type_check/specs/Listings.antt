-- The texts of an enumeration, by whether a text is among them.
use Rattle.std.specs.Prelude.{◌≡◌, ℕ, Bool, List, codes}
use Rattle.std.specs.BTreeSet.{contains_text}
use Rattle.std.specs.List.{list_any}
use Rattle.std.specs.Str.{bytes_eq}
use Rattle.model_maps.specs.Entry.{Meta, array_texts}
use Rattle.type_check.specs.declared.listings.Listing.{Listing}

-- whether a text is one of some
abbrev pub is_among : List (List ℕ) → List ℕ → Bool
is_among texts text = list_any (λ t. bytes_eq t text) texts

-- whether a listing has a text
abbrev pub has_text : Listing → List ℕ → Bool
has_text listing text = contains_text listing.texts text

-- a listing has the texts of the enumeration of some metadata, and no others
abbrev pub IsListingOf : Listing → Meta → Type 0
IsListingOf listing meta =
    (text : List ℕ) → has_text listing text ≡ is_among (array_texts meta (codes "check/enum")) text
