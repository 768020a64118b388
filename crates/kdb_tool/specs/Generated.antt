-- A generated run: its script was played on a disk of its own that had no files, and what its history came to. (This
-- project's own.)
use Rattle.std.specs.Prelude.{◌≡◌, ℕ, List, [], ◌∷◌, length, sum_by, codes}
use Rattle.std.specs.FinMap as map
use Rattle.std.specs.List.{AllByRecursion}
use Rattle.std.specs.Str.Parse.{IsNumeral, digits_value, without_leading_plus}
use Rattle.all_formats.specs.Meanings as all
use Rattle.kdb_gen.specs.Generated.{gen_script}
use Rattle.kdb_gen.specs.Tallies.{tally_of}
use Rattle.kdb_gen.specs.declared.tallies.Tally.{Tally}
use Rattle.kdb_handle.specs.Opened.{store_at}
use Rattle.kdb_handle.specs.declared.replies.Transcripts.{Transcripts}
use Rattle.kdb_outside.specs.Images.{Image}
use Rattle.kdb_print.specs.Replies.{status_of}
use Rattle.model_batch.specs.Scripts.{IsFairScript}
use Rattle.model_history.specs.History.{Commit, replay}
use Rattle.model_maps.specs.KeyMap.{KeyMap, at_or_below, no_keys}
use Rattle.model_names.specs.Name.{Name}
use Rattle.model_names.specs.declared.namespaces.Namespace.TheVariants.{User}
use Rattle.model_store.specs.Legal.{IsLegal}
use Rattle.mounted_files.specs.Opening.{IsOpened}
use Rattle.mounted_files.specs.declared.files.MountedFile.{MountedFile}
use Rattle.tool_single.specs.Sets.{formats}

-- a disk without files
abbrev pub no_files : Image
no_files file = []

-- the name that all keys of generated scripts stand below
abbrev pub generated_name : Name
generated_name = record { namespace = User; parts = codes "gen" ∷ [] }

-- the keys there behind all commits of a history that began with none
abbrev pub generated_keys : List Commit → KeyMap
generated_keys history = at_or_below generated_name (replay no_keys history)

-- a value is a number in decimal, as the library reads one
abbrev pub IsNumber : List ℕ → Type 0
IsNumber value = IsNumeral 10 (without_leading_plus value)

abbrev pub number_of : List ℕ → ℕ
number_of value = digits_value 10 (without_leading_plus value)

-- the values of some keys are numbers, and come to this sum
pub record SumsTo (keys : KeyMap) (sum : ℕ) : Type 0 where
  pub numbers : AllByRecursion (λ key. IsNumber key.1.value) (map.entries keys)
  pub is : sum ≡ sum_by (λ key. number_of key.1.value) (map.entries keys)

-- what a history comes to: its commits, the keys that it leaves, and the sum of their values
pub record ComesTo (history : List Commit) (tally : Tally) : Type 0 where
  pub commits : tally.commits ≡ length history
  pub keys : tally.keys ≡ length (map.entries (generated_keys history))
  pub sum : SumsTo (generated_keys history) tally.sum

-- The sessions of the script of so many rounds took their steps on a store of no files. Their replies are fair by the
-- history of its commits; none of them is a want of memory or a fault of the disk; and the history comes to the tally
-- that is told of so many rounds
pub record PlaysRounds (rounds : ℕ) : Type 0 where
  pub mounted : List MountedFile
  pub opened : IsOpened all.Reads all.IsBadAt no_files mounted
  pub history : List Commit
  pub legal : IsLegal formats (store_at mounted) history
  pub transcripts : Transcripts
  pub fair : IsFairScript formats mounted history (gen_script rounds) transcripts
  pub well : status_of transcripts.phases ≡ 0
  pub comes_to : ComesTo history (tally_of rounds)
