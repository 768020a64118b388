-- What the functions of the decoder answer, beside what the reading of lists gives. This project's own.
use Rattle.std.specs.Prelude.{◌≡◌, ℕ, ◌-◌, List, [], ◌∷◌, Result, Ok, Err}
use Rattle.journal_codec.specs.declared.faults.Stop.{Stop}
use Rattle.journal_codec.specs.declared.faults.Stop.TheVariants.{Before, Memory}
use Rattle.journal_codec.specs.declared.faults.DecodeFault.{DecodeFault}
use Rattle.journal_codec.specs.declared.faults.DecodeFault.TheVariants.{BadJournal, Memory as OutOfMemory}
use Rattle.general_words.specs.Memory.{UnlessMemory}

-- reading stops where so many bytes are left
abbrev pub StopsBefore : {Y : Type 0} → Result Y ℕ → Stop → Type 0
StopsBefore read (Before left) = read ≡ Err left
StopsBefore read Memory = ⊥

-- a stop is the one that reading gives, or want of memory
abbrev pub IsStopOf : {Y : Type 0} → Result Y ℕ → Stop → Type 0
IsStopOf read stop = UnlessMemory Memory (StopsBefore read stop) stop

-- what a function returned, seen by view, is what reading gives
abbrev pub Gives : {X Y : Type 0} → (X → Y) → Result X Stop → Result Y ℕ → Type 0
Gives view (Ok x) read = read ≡ Ok (view x)
Gives view (Err stop) read = IsStopOf read stop

-- the fault that a stop is of so many bytes
abbrev pub fault_at : ℕ → Stop → DecodeFault
fault_at size (Before left) = BadJournal (size - left)
fault_at size Memory = OutOfMemory

-- the last item's name, and no bytes where there is no item
abbrev pub last_name : {A : Type 0} → (A → List ℕ) → List A → List ℕ
last_name name_in [] = []
last_name name_in (x ∷ []) = name_in x
last_name name_in (x ∷ (y ∷ items)) = last_name name_in (y ∷ items)
