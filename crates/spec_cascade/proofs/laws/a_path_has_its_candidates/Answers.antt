use Rattle.std.specs.Prelude.{[], ◌∷◌, ◌++◌, codes}
use Rattle.std.proofs.Common.{refl, lit≤, ◌∙◌}
use Rattle.model_names.specs.declared.namespaces.Namespace.TheVariants.{Cascading, User}
use Rattle.model_names.specs.Refuses.{NoNamespace}
use Rattle.model_names.proofs.NameOfLemmas.{name_of-refused, name_of-spelled}
use Rattle.model_names.proofs.SpellsLemmas.{Spells-from_tests}
use Rattle.model_specified.specs.Specified.{default_name}
use Rattle.spec_cascade.specs.Candidates.{names_for, paths_by}
use Rattle.spec_cascade.proofs.CandidateLemmas.{candidates-by}
use Rattle.spec_cascade.proofs.laws.a_path_has_its_candidates.Goals as goal

pub returns-clause-all : goal.returns-clause-all
returns-clause-all c = λ said os ws fs.
    let user = name_of-spelled (codes "user:/b") (record { namespace = User; parts = codes "b" ∷ [] }) (Spells-from_tests _ _ (codes "b") refl refl refl (lit≤ tt)) in
    let cascading = name_of-spelled (codes "/c") (record { namespace = Cascading; parts = codes "c" ∷ [] }) (Spells-from_tests _ _ (codes "c") refl refl refl (lit≤ tt)) in
    let refused = name_of-refused (codes "b") NoNamespace refl in
    candidates-by (codes "a" ∷ []) said _ _ _ os ws fs
    ∙ (λ i. (names_for (user i) ++ []) ++ (paths_by (codes "a" ∷ []) (codes "system" ∷ []) ++ ((names_for (refused i) ++ (names_for (cascading i) ++ [])) ++ default_name (codes "a" ∷ []) ∷ [])))

pub returns-clause-bare : goal.returns-clause-bare
returns-clause-bare c = λ said os ws fs. candidates-by (codes "a" ∷ []) said [] [] [] os ws fs
