-- What the files of an image stand for, given what its journal holds. This project's own.
use Rattle.std.specs.Prelude.{◌≡◌, ◌⊎◌, ℕ, List, [], ◌∷◌, Option, Some, None, if◌then◌else◌, bytes_eq}
use Rattle.std.specs.Option.{unwrap_or}
use Rattle.kdb_outside.specs.Images.{Image}
use Rattle.journal_codec.specs.declared.files.FileText.{FileText}
use Rattle.journal_steps.specs.JournalBytes.{IsOwnFile}
use Rattle.journal_steps.specs.Readings.{ReadsAs}

-- the content that an entry has for a file, if it names it
abbrev pub content_in : List FileText → List ℕ → Option (List ℕ)
content_in [] file = None
content_in (text ∷ texts) file = if bytes_eq text.file file then Some text.bytes else content_in texts file

-- each file that the entry names has its content, and the others are as they are
abbrev pub with_entry : Image → List FileText → Image
with_entry image entry file = unwrap_or (content_in entry file) (image file)

-- files with these entries, one after the other
abbrev pub with_entries : Image → List (List FileText) → Image
with_entries image [] = image
with_entries image (entry ∷ entries) = with_entries (with_entry image entry) entries

-- the same but for the journal's own files
abbrev pub SameFiles : Image → Image → Type 0
SameFiles files others = (file : List ℕ) → ¬ IsOwnFile file → files file ≡ others file

-- these are files that an image stands for: its own, with the entries that its journal reads as
abbrev pub HasOutcome : Image → Image → Type 0
HasOutcome image files =
    (entries : List (List FileText)) × ReadsAs image entries × (SameFiles files (with_entries image entries))

-- these files, but for the journal's own
abbrev pub IsOutcome : Image → Image → Type 0
IsOutcome files outcome = SameFiles outcome files

-- these files, or these with an entry, if there is one
abbrev pub IsEither : Image → Option (List FileText) → Image → Type 0
IsEither files doubt outcome = SameFiles outcome files
    ⊎ ((entry : List FileText) × (doubt ≡ Some entry) × (SameFiles outcome (with_entry files entry)))
