use Rattle.std.proofs.Common.{List, ℕ, ◌++◌, sym, ap₂, refl, subst, ◌∙◌, string_bytes}
use Rattle.model_names.specs.Name.{Name}
use Rattle.model_names.specs.Spelling.{path_of_parts}
use Rattle.model_names.specs.Spells.{Spells}
use Rattle.model_names.proofs.NameLemmas.{spelling_spells}
use Rattle.key_name.specs.KeyName.{name_of}
use Rattle.key_name.proofs.names.KeyName.text.Goals as goal

pub returns-clause-spells : goal.returns-clause-spells
returns-clause-spells c =
    let name = name_of c.self.inside in
    let bytes = c.in_ok-push_path.ensures ∙ ap₂ (λ word parts. word ++ path_of_parts parts) (c.in_ok-push_str.ensures.bytes ∙ ap₂ (λ a b. a ++ b) c.in_ok-text.ensures.bytes c.word.ensures) refl in
    subst (λ (n : Name). Spells (string_bytes c.push_path.new.text) n) c.self.view_is (subst (λ (text : List ℕ). Spells text name) (sym bytes) (spelling_spells name c.self.invariant.name))
