-- What the bytes of a file hold for a mountpoint, as the code has it.
use Rattle.std.specs.Prelude.{◌≡◌, ℕ, List}
use Rattle.kdb_outside.specs.declared.kinds.Kind.{Kind}
use Rattle.model_names.specs.Name.{Name}
use Rattle.mounted_files.specs.Files.{Reading, Badness, Holds, IsCause}
use Rattle.mounted_files.specs.Short.{AreShort}
use Rattle.set_split.specs.Parts.{owned_by}
use Rattle.mounted_files.specs.Owned.{not_owned_by}
use Rattle.mounted_files.specs.declared.causes.Cause.{Cause}
use Rattle.mounted_files.specs.declared.causes.Cause.TheVariants.{TooLong, BadFile, TooHeavy}
use Rattle.mounted_files.specs.declared.files.FileState.{FileState}
use Rattle.mounted_files.specs.declared.files.FileState.TheVariants as state
use Rattle.mounted_files.specs.declared.holding.Holding.{Holding}
use Rattle.mounted_files.specs.declared.holding.Holding.TheVariants.{Keys, Bad}

-- the keys that it holds, or why it is bad
abbrev pub IsHolding : Reading → Badness → Name → Kind → List ℕ → Holding → Type 0
IsHolding Reads IsBad point kind bytes (Keys keys) = Holds Reads point kind bytes keys
IsHolding Reads IsBad point kind bytes (Bad cause) = IsCause Reads IsBad point kind bytes cause

-- the keys have no text that is too long
abbrev pub IsShortHolding : Holding → Type 0
IsShortHolding (Keys keys) = AreShort keys
IsShortHolding (Bad cause) = Unit {0}

-- a cause is one of a file by itself: what it weighs beside others is none
abbrev pub IsOfFile : Cause → Type 0
IsOfFile (TooLong bytes) = Unit {0}
IsOfFile (BadFile line) = Unit {0}
IsOfFile (TooHeavy weight) = ⊥

abbrev pub IsAlone : Holding → Type 0
IsAlone (Keys keys) = Unit {0}
IsAlone (Bad cause) = IsOfFile cause

-- the state of a file that holds these keys, or is bad
abbrev pub IsStateOf : List Name → ℕ → Holding → FileState → Type 0
IsStateOf points i (Keys keys) found = found ≡ state.Good (owned_by points i keys) (not_owned_by points i keys)
IsStateOf points i (Bad cause) found = found ≡ state.Bad cause
