-- A text at which reading stops has no name.
use Rattle.std.proofs.Common.{◌≡◌, ◌≢◌, ℕ, List, Option, Some, None, refl}
use Rattle.model_names.specs.NameOf.{name_of}
use Rattle.model_names.specs.Refuses.{Refusal}
use Rattle.model_names.proofs.NameOfLemmas.{name_of-refused}
use Rattle.key_name.specs.Refused.{IsRefusal, Tells}
use Rattle.key_name.specs.declared.faults.NameFault.{NameFault}
use Rattle.key_name.specs.declared.faults.NameFault.TheVariants.{NoNamespace, UnknownNamespace, NoSlash, BadEscape, BadArray, Nul, TooLong, Memory}

-- a fault other than want of memory tells a refusal
pub refusal_is : (wrong : Option Refusal) (fault : NameFault) → fault ≢ Memory → Tells wrong fault
    → (refusal : Refusal) × (wrong ≡ Some refusal)
refusal_is wrong NoNamespace other h = (_, h other)
refusal_is wrong UnknownNamespace other h = (_, h other)
refusal_is wrong NoSlash other h = (_, h other)
refusal_is wrong (BadEscape at) other h = (_, h other)
refusal_is wrong (BadArray at) other h = (_, h other)
refusal_is wrong (Nul at) other h = (_, h other)
refusal_is wrong (TooLong bytes) other h = (_, h other)
refusal_is wrong Memory other h = absurd (other refl)

pub name_of-fault : (text : List ℕ) (fault : NameFault) → fault ≢ Memory → IsRefusal text fault → name_of text ≡ None
name_of-fault text fault other h = let refused = refusal_is _ fault other h in name_of-refused text refused.0 refused.1
