-- The files that a list names, each once and by name, with the content of the last entry that names it. This project's
-- own.
use Rattle.std.specs.Prelude.{◌≡◌, ℕ, ◌<◌, Bool, true, ◌&&◌, List, [], ◌∷◌, slice_get, Option, Some, None, if◌then◌else◌}
use Rattle.std.specs.FinMap as map
use Rattle.std.specs.FinMap.{FinMap}
use Rattle.std.specs.Ordering.{nat_cmp, is_lt, is_le}
use Rattle.std.specs.Cmp.Lexicographic.{slice_cmp}
use Rattle.kdb_outside.specs.Images.{Only}
use Rattle.journal_codec.specs.declared.files.FileText.{FileText}
use Rattle.journal_lists.specs.Lists.{as_one}

-- a file's name and its content
abbrev pub Content : Type 0
Content = List ℕ × List ℕ

abbrev pub content_of : FileText → Content
content_of text = (text.file, text.bytes)

-- the first content that stands for each file
abbrev pub contents_of : List FileText → FinMap (slice_cmp nat_cmp) (List ℕ)
contents_of [] = map.empty
contents_of (text ∷ texts) = map.insert (contents_of texts) text.file text.bytes

-- what a list has to bring into its files, by name
abbrev pub pending_in : List (List FileText) → List Content
pending_in list = map.entries (contents_of (as_one list))

-- a name stands above another one, if there is one
abbrev pub is_above : Option (List ℕ) → List ℕ → Bool
is_above None name = true
is_above (Some last) name = is_lt (slice_cmp nat_cmp last name)

-- a content's name stands no later than that of another one, if there is one
abbrev pub is_no_later : Content → Option Content → Bool
is_no_later content None = true
is_no_later content (Some best) = is_le (slice_cmp nat_cmp content.0 best.0)

-- the better of two for the least above a name: the first of them where their names are one
abbrev pub better : Option (List ℕ) → Content → Option Content → Option Content
better after content best = if is_above after content.0 && is_no_later content best then Some content else best

-- the least above a name among some texts and one more content
abbrev pub least : Option (List ℕ) → List FileText → Option Content → Option Content
least after [] best = best
least after (text ∷ texts) best = better after (content_of text) (least after texts best)

-- the first content whose name is above another one
abbrev pub first_above : Option (List ℕ) → List Content → Option Content
first_above after [] = None
first_above after (content ∷ contents) = if is_above after content.0 then Some content else first_above after contents

-- the first n files that a list names have their contents
abbrev pub HasBroughtTo : (List ℕ → List ℕ → Type 0) → List (List FileText) → ℕ → Type 0
HasBroughtTo leaves list n =
    (i : ℕ) (content : Content) → i < n → slice_get (pending_in list) i ≡ Some content → Only content.1 (leaves content.0)
