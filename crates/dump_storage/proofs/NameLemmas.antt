-- What names the texts of a dump spell, and what they weigh.
use Rattle.std.proofs.Common.{◌≡◌, ℕ, List, ◌∷◌, ◌++◌, sym, ap}
use Rattle.model_names.specs.declared.namespaces.Namespace.TheVariants.{Cascading}
use Rattle.model_names.specs.Name.{Name}
use Rattle.model_names.specs.Spelling.{path, spelling, word_of}
use Rattle.model_names.specs.Spells.{Spells}
use Rattle.model_names.proofs.SpellsLemmas.{same_cut}

-- a text with a slash before it spells a cascading name
pub Spells-cascading : (text : List ℕ) (name : Name) → Spells (47 ∷ text) name → name.namespace ≡ Cascading
Spells-cascading text name spells = sym (same_cut Cascading name.namespace text spells.rest spells.cut).0

-- whose spelling is its path
pub spelling-cascading : (name : Name) → name.namespace ≡ Cascading → spelling name ≡ path name
spelling-cascading name cascading = ap (λ namespace. word_of namespace ++ path name) cascading
