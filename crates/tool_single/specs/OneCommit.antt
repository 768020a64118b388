-- What a command stores is one commit. (This project's own.)
use Rattle.std.specs.Prelude.{◌≡◌, ℕ, List, [], ◌∷◌}
use Rattle.all_formats.specs.Meanings as all
use Rattle.model_history.specs.History.{Commit}
use Rattle.model_store.specs.Legal.{IsLegal}
use Rattle.mounted_files.specs.Opening.{IsOpened}
use Rattle.mounted_files.specs.declared.files.MountedFile.{MountedFile}
use Rattle.tool_single.specs.Answer.{Texts}
use Rattle.tool_single.specs.Alone.{store_alone}
use Rattle.tool_single.specs.Sets.{formats, stored_by}

-- some texts are those of one commit, which is legal on what the files mean
pub record IsOneCommit (bytes_of : List ℕ → List ℕ) (stored : Texts) : Type 0 where
  pub files : List MountedFile
  pub opened : IsOpened all.Reads all.IsBadAt bytes_of files
  pub commit : Commit
  pub legal : IsLegal formats (store_alone files) (commit ∷ [])
  pub texts : stored ≡ stored_by (store_alone files) (store_alone files).start commit
