-- Which bytes read as which map, and where reading stops in all others. A reader may know some records alone, so both
-- are stated over a relation Step between how far a dump was read, a record, and how far it was read then. (This
-- project's own.)
use Rattle.std.specs.Prelude.{◌≡◌, ◌≢◌, ◌⊎◌, ℕ, ◌+◌, ◌==◌, List, [], ◌∷◌, ◌++◌, length, take, count_by}
use Rattle.std.specs.List.{flat_map}
use Rattle.model_maps.specs.KeyMap.{KeyMap, no_keys}
use Rattle.model_dump.specs.Record.{Record, IsSized, spelled_record, header, ending}
use Rattle.model_dump.specs.Adds.{Progress, start}

-- records that have a reading one after the other lead from one progress to another
abbrev pub Leads : (Progress → Record → Progress → Type 0) → Progress → List Record → Progress → Type 0
Leads Step before [] after = before ≡ after
Leads Step before (r ∷ records) after =
    (middle : Progress) × IsSized r × Step before r middle × Leads Step middle records after

-- the bytes begin with the header and these records, which have a reading; the rest follows
pub record Begins (Step : Progress → Record → Progress → Type 0) (bytes : List ℕ) (records : List Record) (progress : Progress) (rest : List ℕ) : Type 0 where
  pub leads : Leads Step start records progress
  pub whole : bytes ≡ header ++ (flat_map spelled_record records ++ rest)

-- a whole dump: the header, records that have a reading, and the ending, whose line feed may be missing
pub record IsDump (Step : Progress → Record → Progress → Type 0) (bytes : List ℕ) (keys : KeyMap) : Type 0 where
  pub records : List Record
  pub progress : Progress
  pub rest : List ℕ
  pub begins : Begins Step bytes records progress rest
  pub ends : (rest ≡ ending) ⊎ (rest ≡ ending ++ 10 ∷ [])
  pub made : keys ≡ progress.keys

-- bytes read as a map: no bytes as the empty map, and a whole dump as what its records make
abbrev pub Reads : (Progress → Record → Progress → Type 0) → List ℕ → KeyMap → Type 0
Reads Step bytes keys = ((bytes ≡ []) × (keys ≡ no_keys)) ⊎ IsDump Step bytes keys

-- nothing that has a reading stands at the front: neither a record nor the ending
pub record HasNoNext (Step : Progress → Record → Progress → Type 0) (progress : Progress) (rest : List ℕ) : Type 0 where
  pub no_record : (r : Record) (after : Progress) (more : List ℕ) → IsSized r → Step progress r after
      → rest ≢ spelled_record r ++ more
  pub no_end : rest ≢ ending
  pub no_end_line : (more : List ℕ) → rest ≢ ending ++ 10 ∷ more

-- behind some records stands something that has no reading, or the file's end
pub record StopsInside (Step : Progress → Record → Progress → Type 0) (bytes : List ℕ) (place : ℕ) : Type 0 where
  pub records : List Record
  pub progress : Progress
  pub rest : List ℕ
  pub begins : Begins Step bytes records progress rest
  pub stops : HasNoNext Step progress rest
  pub at : place + length rest ≡ length bytes

-- something stands behind the ending's line
pub record StopsBehind (Step : Progress → Record → Progress → Type 0) (bytes : List ℕ) (place : ℕ) : Type 0 where
  pub records : List Record
  pub progress : Progress
  pub more : List ℕ
  pub begins : Begins Step bytes records progress (ending ++ 10 ∷ more)
  pub some_more : more ≢ []
  pub at : place + length more ≡ length bytes

-- the first line isn't the header
pub record StopsAtHeader (bytes : List ℕ) (place : ℕ) : Type 0 where
  pub some : bytes ≢ []
  pub no_header : (more : List ℕ) → bytes ≢ header ++ more
  pub at : place ≡ 0

-- bytes that read as no map stop at a place: there begins the first thing that has no reading
pub data Stops (Step : Progress → Record → Progress → Type 0) (bytes : List ℕ) (place : ℕ) : Type 0 where
  AtHeader : StopsAtHeader bytes place → Stops Step bytes place
  Inside : StopsInside Step bytes place → Stops Step bytes place
  Behind : StopsBehind Step bytes place → Stops Step bytes place

-- the line at a place, from 1
abbrev pub line_at : List ℕ → ℕ → ℕ
line_at bytes place = 1 + count_by (λ b. b == 10) (take place bytes)

-- bytes are bad at the line of the place at which they stop
pub record IsBadAt (Step : Progress → Record → Progress → Type 0) (bytes : List ℕ) (line : ℕ) : Type 0 where
  pub place : ℕ
  pub stops : Stops Step bytes place
  pub is : line ≡ line_at bytes place
