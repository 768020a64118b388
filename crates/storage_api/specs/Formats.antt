-- What the refusals of a reader and of a writer say. (This project's own.)
use Rattle.std.specs.Prelude.{ℕ}
use Rattle.general_words.specs.Memory.{UnlessMemory}
use Rattle.model_names.specs.Name.{Name}
use Rattle.storage_api.specs.declared.refusals.ReadRefusal.{ReadRefusal}
use Rattle.storage_api.specs.declared.refusals.ReadRefusal.TheVariants as read
use Rattle.storage_api.specs.declared.refusals.WriteRefusal.{WriteRefusal}
use Rattle.storage_api.specs.declared.refusals.WriteRefusal.TheVariants as write

-- the refusal tells a line, at which this holds
abbrev pub TellsLine : (ℕ → Type 0) → ReadRefusal → Type 0
TellsLine IsBadAt (read.BadFile line) = IsBadAt line
TellsLine IsBadAt read.Memory = ⊥

-- the refusal tells a key, of which this holds
abbrev pub TellsKey : (Name → Type 0) → WriteRefusal → Type 0
TellsKey Breaks (write.NotStorable key) = Breaks key
TellsKey Breaks write.Memory = ⊥

-- a bad file is refused with the line at which it is bad
abbrev pub RefusesToRead : (ℕ → Type 0) → ReadRefusal → Type 0
RefusesToRead IsBadAt refusal = UnlessMemory read.Memory (TellsLine IsBadAt refusal) refusal

-- a map that can't be stored is refused with the key at which it breaks
abbrev pub RefusesToWrite : (Name → Type 0) → WriteRefusal → Type 0
RefusesToWrite Breaks refusal = UnlessMemory write.Memory (TellsKey Breaks refusal) refusal
