-- Bytes that are no text spell nothing, nor does a text that is refused.
use Rattle.std.proofs.Common.{◌≡◌, ◌≢◌, ℕ, List, [], ◌∷◌, Some, subst, rules, lit<}
use Rattle.model_names.specs.Name.{Name}
use Rattle.model_names.specs.Refuses.{Refusal, refusal_of}
use Rattle.model_names.specs.Spells.{Spells}
use Rattle.model_names.proofs.RefusesLemmas.{refusal_of-spelled}
use Rattle.model_lines.proofs.Utf8Lemmas.{utf8-behind}
use Rattle.key_name.specs.Refused.{IsRefusal}
use Rattle.key_name.specs.declared.faults.NameFault.{NameFault}
use Rattle.key_name.specs.declared.faults.NameFault.TheVariants as faults
use Rattle.key_name.proofs.NameOfLemmas.{refusal_is}
use Rattle.file_lines.proofs.texts.name_of.Goals as goal

-- a text with a refusal spells nothing
refused_spells : (text : List ℕ) (refusal : Refusal) (name : Name) → refusal_of text ≡ Some refusal → Spells text name
    → ⊥
refused_spells text refusal name refused spells = let none = refusal_of-spelled text name spells in absurd cc

spells_nothing : (text : List ℕ) (fault : NameFault) → IsRefusal text fault → fault ≢ faults.Memory → (name : Name)
    → Spells text name → ⊥
spells_nothing text fault refused other name =
    let refusal = refusal_is _ fault other refused in refused_spells text refusal.0 name refusal.1

pub returns-in_default : goal.returns-in_default
returns-in_default c name spells =
    c.in_default.ensures.cases.0 (utf8-behind 47 [] c.args.text.now (lit< tt) spells.utf8)

pub returns-in_ok-hand_on_memory-in-Err : goal.returns-in_ok-hand_on_memory-in-Err
returns-in_ok-hand_on_memory-in-Err c =
    let same : c.in-Ok.text.now ≡ c.args.text.now = search rules in
    spells_nothing (47 ∷ c.args.text.now) c.in-Err.fault (subst (λ (text : List ℕ). IsRefusal (47 ∷ text) c.in-Err.fault) same c.in-Err.ensures.refused) c.in_ok-hand_on_memory-in-Err.ensures.others
