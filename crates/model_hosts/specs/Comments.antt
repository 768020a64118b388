-- The comments of a host as its metadata: the items of an array `comment`. (After Elektra's hosts plugin, in this
-- profile.)
use Rattle.std.specs.Prelude.{ℕ, ◌+◌, List, [], ◌∷◌, codes}
use Rattle.std.specs.FinMap as finite
use Rattle.model_maps.specs.Entry.{Meta, array_texts, item_name}

-- the metadata name of a comment
abbrev pub comment_name : ℕ → List ℕ
comment_name index = item_name (codes "comment") index

-- texts as the items from an index on, or from the first
abbrev pub comments_from : ℕ → List (List ℕ) → Meta
comments_from index [] = finite.empty
comments_from index (text ∷ texts) = finite.insert (comments_from (index + 1) texts) (comment_name index) text

abbrev pub comments : List (List ℕ) → Meta
comments texts = comments_from 0 texts

-- back: the texts of the array
abbrev pub texts_of : Meta → List (List ℕ)
texts_of meta = array_texts meta (codes "comment")
