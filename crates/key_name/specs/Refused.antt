-- What a fault tells: a refusal, with its place. Want of memory tells none.
use Rattle.std.specs.Prelude.{◌≡◌, ℕ, List, Option, Some, None}
use Rattle.general_words.specs.Memory.{UnlessMemory}
use Rattle.model_names.specs.Name.{Name, Part}
use Rattle.model_names.specs.Refuses as table
use Rattle.model_names.specs.Refuses.{Refusal, refusal_of}
use Rattle.key_name.specs.Children.{child_refusal}
use Rattle.key_name.specs.declared.faults.NameFault.{NameFault}
use Rattle.key_name.specs.declared.faults.NameFault.TheVariants.{NoNamespace, UnknownNamespace, NoSlash, BadEscape, BadArray, Nul, TooLong, Memory}

-- the refusal that a fault tells
abbrev pub refusal_told : NameFault → Option Refusal
refusal_told NoNamespace = Some table.NoNamespace
refusal_told UnknownNamespace = Some table.UnknownNamespace
refusal_told NoSlash = Some table.NoSlash
refusal_told (BadEscape at) = Some (table.BadEscape at)
refusal_told (BadArray at) = Some (table.BadArray at)
refusal_told (Nul at) = Some (table.Nul at)
refusal_told (TooLong bytes) = Some (table.TooLong bytes)
refusal_told Memory = None

-- a fault tells what is wrong, or is want of memory
abbrev pub Tells : Option Refusal → NameFault → Type 0
Tells wrong fault = UnlessMemory Memory (wrong ≡ refusal_told fault) fault

-- of a text: its first refusal
abbrev pub IsRefusal : List ℕ → NameFault → Type 0
IsRefusal text fault = Tells (refusal_of text) fault

-- of a part behind a name: its first refusal
abbrev pub IsChildRefusal : Name → Part → NameFault → Type 0
IsChildRefusal name part fault = Tells (child_refusal name part) fault
