-- Reading the body of an entry from left to right, up to the first field that is missing, cut or against a rule.
-- This project's own.
use Rattle.std.specs.Prelude.{ℕ, zero, suc, ◌-◌, Bool, ◌&&◌, not, List, [], ◌∷◌, length, take, drop, Result, Ok, Err, nat_le, ◌==◌, if◌then◌else◌}
use Rattle.std.specs.Ordering.{nat_cmp, is_lt}
use Rattle.std.specs.Cmp.Lexicographic.{slice_cmp}
use Rattle.kdb_outside.specs.FileName.{is_file_name}
use Rattle.journal_codec.specs.declared.files.FileText.{FileText}
use Rattle.journal_codec.specs.Entry.{number_of, most_files, longest_content, begins_with_journal}

-- what a body is read as: an entry's files, or the place of the first field that has no reading, counted from 0
pub data Reading : Type 0 where
  Reads : List FileText → Reading
  Fails : ℕ → Reading

-- a field gives its value and the bytes behind it; where it has no reading, it gives how many bytes stand from it to
-- the end
abbrev pub Field : Type 0 → Type 0
Field A = Result (A × List ℕ) ℕ

-- reading goes on behind what was read, and stops where a field has no reading
infixl 10 ◌>>=◌
abbrev pub ◌>>=◌ : {A B : Type 0} → Result A ℕ → (A → Result B ℕ) → Result B ℕ
(Ok x) >>= f = f x
(Err left) >>= f = Err left

-- a field at the front of these bytes that is there and keeps its rule, or not
abbrev pub checked : {A : Type 0} → Bool → List ℕ → A × List ℕ → Field A
checked is_good bytes field = if is_good then Ok field else Err (length bytes)

-- a byte
abbrev pub byte_at : List ℕ → Field ℕ
byte_at [] = Err 0
byte_at (b ∷ rest) = Ok (b, rest)

-- the four bytes of a length
abbrev pub number_at : List ℕ → Field ℕ
number_at bytes = checked (nat_le 4 (length bytes)) bytes (number_of (take 4 bytes), drop 4 bytes)

-- so many bytes that keep a rule
abbrev pub bytes_at : (List ℕ → Bool) → ℕ → List ℕ → Field (List ℕ)
bytes_at rule size bytes =
    checked (nat_le size (length bytes) && rule (take size bytes)) bytes (take size bytes, drop size bytes)

-- 1 to 64
abbrev pub is_count : ℕ → Bool
is_count n = nat_le 1 n && nat_le n most_files

-- how many files an entry has
unfoldable pub count_at : List ℕ → Field ℕ
count_at body = do
  count ← byte_at body
  checked (is_count count.0) body count

-- a file's name that isn't the journal's, and is above the name before it
abbrev pub is_next_name : List ℕ → List ℕ → Bool
is_next_name previous name =
    is_file_name name && (not (begins_with_journal name) && is_lt (slice_cmp nat_cmp previous name))

-- not too long
abbrev pub is_content : List ℕ → Bool
is_content bytes = nat_le (length bytes) longest_content

-- which names can stand behind a name, or behind none where it has no bytes
abbrev pub NameRule : Type 0
NameRule = List ℕ → List ℕ → Bool

-- a file behind one of this name, or behind none where the name has no bytes
unfoldable pub file_at : NameRule → List ℕ → List ℕ → Field FileText
file_at rule previous bytes = do
  name_size ← byte_at bytes
  name ← bytes_at (rule previous) name_size.0 name_size.1
  size ← number_at name.1
  content ← bytes_at is_content size.0 size.1
  Ok (record { file = name.0; bytes = content.0 }, content.1)

-- so many items, each behind the name of the one before it
abbrev pub items_at : {A : Type 0} → (List ℕ → List ℕ → Field A) → (A → List ℕ) → ℕ → List ℕ → List ℕ → Field (List A)
items_at item_at name_in zero previous bytes = Ok ([], bytes)
items_at item_at name_in (suc count) previous bytes = do
  first ← item_at previous bytes
  others ← items_at item_at name_in count (name_in first.0) first.1
  Ok (first.0 ∷ others.0, others.1)

-- so many files
unfoldable pub files_at : NameRule → ℕ → List ℕ → List ℕ → Field (List FileText)
files_at rule count previous bytes = items_at (file_at rule) (λ f. f.file) count previous bytes

-- how many items, the items, and no byte behind them
abbrev pub counted : {A : Type 0} → (ℕ → List ℕ → List ℕ → Field (List A)) → List ℕ → Result (List A) ℕ
counted items_of bytes = do
  count ← count_at bytes
  items ← items_of count.0 [] count.1
  if length items.1 == 0 then Ok items.0 else Err (length items.1)

-- a whole body
unfoldable pub all_of : NameRule → List ℕ → Result (List FileText) ℕ
all_of rule body = counted (files_at rule) body

-- the place of the field that has no reading, behind the bytes before it
abbrev pub reading_of : ℕ → Result (List FileText) ℕ → Reading
reading_of size (Ok files) = Reads files
reading_of size (Err left) = Fails (size - left)

-- what a body is read as
unfoldable pub read_body : List ℕ → Reading
read_body body = reading_of (length body) (all_of is_next_name body)
