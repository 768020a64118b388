-- What an image reads as, and what its files stand for, given what its journals hold. This project's own.
use Rattle.std.specs.Prelude.{◌≡◌, ◌⊎◌, ◌++◌, ◌∷◌, List}
use Rattle.kdb_outside.specs.Images.{Image}
use Rattle.journal_codec.specs.declared.files.FileText.{FileText}
use Rattle.journal_codec.specs.Entry.{journal_name, journal2_name}
use Rattle.journal_lists.specs.Journals.{ReadsFormer, OpensFormer, BreaksFormer, ReadsJournal, OpensJournal, BreaksJournal}
use Rattle.journal_steps.specs.Outcomes.{with_entries, SameFiles}

-- some reading of the image has these open entries: those of `journal`, and behind them those of `journal2`
pub record ReadsAs (image : Image) (entries : List (List FileText)) : Type 0 where
  pub before : List (List FileText)
  pub behind : List (List FileText)
  pub are : entries ≡ before ++ behind
  pub former : ReadsFormer (image journal_name) before
  pub journal : ReadsJournal (image journal2_name) behind

-- the open entries of an image
pub record OpensAs (image : Image) (entries : List (List FileText)) : Type 0 where
  pub before : List (List FileText)
  pub behind : List (List FileText)
  pub are : entries ≡ before ++ behind
  pub former : OpensFormer (image journal_name) before
  pub journal : OpensJournal (image journal2_name) behind

-- some reading has an open entry in `journal`, and some reading has one in `journal2`
pub record ReadsInBoth (image : Image) : Type 0 where
  pub one : List FileText
  pub others : List (List FileText)
  pub former : ReadsFormer (image journal_name) (one ∷ others)
  pub first : List FileText
  pub more : List (List FileText)
  pub journal : ReadsJournal (image journal2_name) (first ∷ more)

-- in some reading of the image the head of `journal2` or an open entry isn't whole, or both journals have an open one
abbrev pub IsBroken : Image → Type 0
IsBroken image = BreaksFormer (image journal_name) ⊎ BreaksJournal (image journal2_name) ⊎ ReadsInBoth image

-- these are files that an image stands for: its own, with the entries that its journals read as
abbrev pub HasOutcome : Image → Image → Type 0
HasOutcome image files =
    (entries : List (List FileText)) × ReadsAs image entries × (SameFiles files (with_entries image entries))

-- the image isn't broken, and all files that it stands for have this property
pub record HasOnly (Property : Image → Type 0) (image : Image) : Type 0 where
  pub not_broken : ¬ IsBroken image
  pub each : (files : Image) → HasOutcome image files → Property files
