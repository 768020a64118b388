-- The body of an entry behind the gate.
use Rattle.std.proofs.Common.{◌≡◌, ℕ, suc, ◌+◌, ◌*◌, ◌<◌, ◌≤◌, List, [], ◌∷◌, ◌++◌, length, slice_index_or, arith, length-append}
use Rattle.std.specs.List.{flat_map}
use Rattle.journal_codec.specs.declared.files.FileText.{FileText}
use Rattle.journal_codec.specs.Entry.{length_bytes, spelled, spelled_file, longest_file, IsEntry, IsEntryFile}

length-spelled_file : (f : FileText) → length (spelled_file f) ≡ 5 + length f.file + length f.bytes
length-spelled_file f = omega (arith, length-append f.file (length_bytes (length f.bytes) ++ f.bytes))

-- a spelled file has at most so many bytes
file_short : (f : FileText) → IsEntryFile f → length (spelled_file f) ≤ longest_file
file_short f is = omega (arith, length-spelled_file f, is.is_name.not_long, is.not_long)

files_short : (files : List FileText)
    → ((i : ℕ) (d : FileText) → i < length files → IsEntryFile (slice_index_or files i d))
    → length (flat_map spelled_file files) ≤ longest_file * length files
files_short [] each = omega arith
files_short (f ∷ files) each =
    let first = file_short f (each 0 f (omega arith)) in
    let others = files_short files (λ i d lt. each (suc i) d (omega arith)) in
    omega (arith, length-append (spelled_file f) (flat_map spelled_file files))

-- the body of an entry has few bytes
pub length-spelled : (entry : List FileText) → IsEntry entry → length (spelled entry) ≤ 67200000
length-spelled entry is =
    let short = files_short entry is.each in
    let few = is.not_many in
    omega arith
