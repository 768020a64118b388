-- How an image read to a program whose journal held one entry: with its gate taken as open or as shut, as open entries
-- or not at all. This project's own.
use Rattle.std.specs.Prelude.{◌≡◌, ℕ, List, Bool, Result, Ok, Err}
use Rattle.kdb_outside.specs.Images.{Image}
use Rattle.journal_codec.specs.declared.files.FileText.{FileText}
use Rattle.journal_codec.specs.Entry.{journal_name}
use Rattle.journal_steps.specs.JournalBytes.{gate, reading_of, MayBeTaken}

-- the open entries of an image whose gate is taken so, or the place where one isn't whole
abbrev pub reading : Bool → Image → Result (List (List FileText)) ℕ
reading taken image = reading_of taken (image journal_name)

-- the gate of an image may be taken so
abbrev pub Admits : Image → Bool → Type 0
Admits image taken = MayBeTaken taken (gate (image journal_name))

-- the image reads as these open entries, in a way that it admits
pub record ReadsAs (image : Image) (entries : List (List FileText)) : Type 0 where
  pub taken : Bool
  pub admitted : Admits image taken
  pub reads : reading taken image ≡ Ok entries

-- in a way that it admits, an entry isn't whole
pub record IsBroken (image : Image) : Type 0 where
  pub taken : Bool
  pub admitted : Admits image taken
  pub at : ℕ
  pub fails : reading taken image ≡ Err at
