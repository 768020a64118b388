-- What reading a dump gives. (This project's own.)
use Rattle.std.specs.Prelude.{◌≡◌, ◌≢◌, ◌⊎◌, ℕ, List, [], ◌∷◌, ◌++◌}
use Rattle.model_maps.specs.KeyMap.{KeyMap}
use Rattle.model_dump.specs.Record.{Record, ending}
use Rattle.model_dump.specs.Adds.{Progress, Adds}
use Rattle.model_dump.specs.Dump.{Begins}
use Rattle.dump_storage.specs.Pieces.{BeginsWith}

-- the bytes begin with a record that has a reading
pub record ReadsRecord (before : Progress) (bytes : List ℕ) (after : Progress) (rest : List ℕ) : Type 0 where
  pub r : Record
  pub begins : BeginsWith bytes r rest
  pub adds : Adds before r after

-- they begin with no such record
abbrev pub ReadsNoRecord : Progress → List ℕ → Type 0
ReadsNoRecord before bytes = (after : Progress) (rest : List ℕ) → ReadsRecord before bytes after rest → ⊥

-- the bytes begin with the header and some records, which lead to this progress; the rest follows
pub record HasRead (bytes : List ℕ) (progress : Progress) (rest : List ℕ) : Type 0 where
  pub records : List Record
  pub begins : Begins Adds bytes records progress rest

-- the same, with no further record behind them; these are the keys
pub record HasReadAll (bytes : List ℕ) (keys : KeyMap) (rest : List ℕ) : Type 0 where
  pub progress : Progress
  pub read : HasRead bytes progress rest
  pub no_more : ReadsNoRecord progress rest
  pub made : keys ≡ progress.keys

-- the ending stands at the front, and behind it a line feed and some more, or nothing
abbrev pub EndsBefore : List ℕ → List ℕ → Type 0
EndsBefore bytes more = ((bytes ≡ ending) × (more ≡ [])) ⊎ (bytes ≡ ending ++ (10 ∷ more))

-- it doesn't
pub record HasNoEnding (bytes : List ℕ) : Type 0 where
  pub no_end : bytes ≢ ending
  pub no_end_line : (more : List ℕ) → bytes ≢ ending ++ (10 ∷ more)
