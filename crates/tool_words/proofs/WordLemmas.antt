-- What words in a row ask for, and when `clap` refuses words.
use Rattle.std.specs.Prelude.{◌≡◌, ◌≢◌, ℕ, Bool, true, false, cond, List, [], ◌∷◌, Option, Some, None}
use Rattle.std.proofs.Common.{refl, ap, ◌∙◌}
use Rattle.clap.specs.Words.{IsAmong, Kinds}
use Rattle.clap.specs.declared.error.kind.ErrorKind.{ErrorKind}
use Rattle.tool_words.specs.CommandLines.{has_fault}
use Rattle.tool_words.specs.Lines.{argument, no_name}
use Rattle.tool_words.specs.Request.{Request, Refuses, Asks, On, MountFile, is_meta, on_meta, on_name, on_name_for, unnamed, asks, asks_to_mount, asks_to_pass, passing}
use Rattle.tool_words.specs.RequestView.{text_of_fault}
use Rattle.tool_words.specs.declared.flows.Flow.{Flow}
use Rattle.tool_words.specs.declared.uses.Use.{Use}
use Rattle.tool_words.specs.declared.uses.Use.TheVariants.{Writes}
use Rattle.kdb_outside.specs.Kind.{kind_of}
use Rattle.key_name.specs.Refused.{IsRefusal}
use Rattle.key_name.specs.declared.faults.NameFault.{NameFault}
use Rattle.key_name.specs.declared.faults.NameFault.TheVariants as faults
use Rattle.model_names.specs.Name.{Name}
use Rattle.model_names.specs.Refuses.{Refusal, refusal_of}
use Rattle.model_names.specs.Spells.{Spells}
use Rattle.model_names.proofs.NameOfLemmas.{name_of-spelled, name_of-refused}
use Rattle.kdb_outside.specs.declared.kinds.Kind.{Kind}
use Rattle.kdb_outside.specs.declared.kinds.Kind.TheVariants.{Dump}

-- an error's kind is one of those for which words are refused
pub among-some : (kind : ErrorKind) (kinds : Kinds) → IsAmong kind kinds → has_fault kinds ≡ true
among-some kind [] is = absurd is
among-some kind (k ∷ kinds) is = refl

-- a metadata name behind a name that is tested first
pub asks_of_meta : (by : Use) (text word : List ℕ) (asked : Name → Request) → is_meta word ≡ true
    → on_name_for by text (λ name. on_meta word (asked name)) ≡ on_name_for by text asked
asks_of_meta by text word asked is =
    ap (λ b. on_name_for by text (λ name. cond b (asked name) (Refuses 2 (argument word)))) is

pub refuses_meta : (by : Use) (text word : List ℕ) (asked : Name → Request) → is_meta word ≡ false
    → on_name_for by text (λ name. on_meta word (asked name)) ≡ on_name_for by text (λ _. Refuses 2 (argument word))
refuses_meta by text word asked is =
    ap (λ b. on_name_for by text (λ name. cond b (asked name) (Refuses 2 (argument word)))) is

-- what mounting asks for, by the word of a format that may be left out
module _ (by_key : Bool) (file name : List ℕ) (plugin : Option (List ℕ)) where
  pub mounts_as_dump : plugin ≡ None
      → asks_to_mount by_key file name plugin ≡ asks Writes (MountFile file Dump by_key) name
  mounts_as_dump is = ap (asks_to_mount by_key file name) is

  by_word : (word : List ℕ) (found : Option Kind) → plugin ≡ Some word → kind_of word ≡ found
      → asks_to_mount by_key file name plugin
      ≡ on_name_for Writes name (λ at. elim found [ None ↦ Refuses 2 (argument word) | Some format ↦ Asks (On at (MountFile file format by_key)) ])
  by_word word found is known =
      ap (asks_to_mount by_key file name) is
      ∙ ap (λ o. on_name_for Writes name (λ at. elim o [ None ↦ Refuses 2 (argument word) | Some format ↦ Asks (On at (MountFile file format by_key)) ])) known

  pub mounts_as : (word : List ℕ) (kind : Kind) → plugin ≡ Some word → kind_of word ≡ Some kind
      → asks_to_mount by_key file name plugin ≡ asks Writes (MountFile file kind by_key) name
  mounts_as word kind = by_word word (Some kind)

  pub refuses_kind : (word : List ℕ) → plugin ≡ Some word → kind_of word ≡ None
      → asks_to_mount by_key file name plugin ≡ on_name_for Writes name (λ _. Refuses 2 (argument word))
  refuses_kind word = by_word word None

-- what export and import ask for, by the word of a format
pub passes_as : (flow : Flow) (name word : List ℕ) (kind : Kind) → kind_of word ≡ Some kind
    → asks_to_pass flow name word ≡ on_name_for Writes name (λ at. passing flow at kind)
passes_as flow name word kind known =
    ap (λ found. on_name_for Writes name (λ at. elim found [ None ↦ Refuses 2 (argument word) | Some format ↦ passing flow at format ])) known

pub refuses_format : (flow : Flow) (name word : List ℕ) → kind_of word ≡ None
    → asks_to_pass flow name word ≡ on_name_for Writes name (λ _. Refuses 2 (argument word))
refuses_format flow name word unknown =
    ap (λ found. on_name_for Writes name (λ at. elim found [ None ↦ Refuses 2 (argument word) | Some format ↦ passing flow at format ])) unknown

-- ---- words that are to be names

pub on_name-named : (word : List ℕ) (name : Name) (asked : Name → Request) → Spells word name
    → on_name word asked ≡ asked name
on_name-named word name asked spells =
    ap (λ found. elim found [ Some n ↦ asked n | None ↦ unnamed word ]) (name_of-spelled word name spells)

refused_as : (word : List ℕ) (refusal : Refusal) (asked : Name → Request) → refusal_of word ≡ Some refusal
    → on_name word asked ≡ Refuses 2 (no_name refusal)
refused_as word refusal asked is =
    ap (λ found. elim found [ Some n ↦ asked n | None ↦ unnamed word ]) (name_of-refused word refusal is)
    ∙ ap (λ found. elim found [ Some r ↦ Refuses 2 (no_name r) | None ↦ Refuses 2 (argument word) ]) is

pub on_name-refused : (word : List ℕ) (fault : NameFault) (asked : Name → Request) → fault ≢ faults.Memory
    → IsRefusal word fault → on_name word asked ≡ Refuses 2 (text_of_fault fault)
on_name-refused word faults.NoNamespace asked other is = refused_as word _ asked (is other)
on_name-refused word faults.UnknownNamespace asked other is = refused_as word _ asked (is other)
on_name-refused word faults.NoSlash asked other is = refused_as word _ asked (is other)
on_name-refused word (faults.BadEscape at) asked other is = refused_as word _ asked (is other)
on_name-refused word (faults.BadArray at) asked other is = refused_as word _ asked (is other)
on_name-refused word (faults.Nul at) asked other is = refused_as word _ asked (is other)
on_name-refused word (faults.TooLong bytes) asked other is = refused_as word _ asked (is other)
on_name-refused word faults.Memory asked other is = absurd (other refl)
