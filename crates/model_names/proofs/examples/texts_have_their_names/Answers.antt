use Rattle.std.specs.Prelude.{[], codes}
use Rattle.std.specs.Fmt.{digits}
use Rattle.std.proofs.Common.{refl, lit≤}
use Rattle.model_names.proofs.NameOfLemmas.{name_of-spelled}
use Rattle.model_names.proofs.SpellsLemmas.{Spells-from_tests}
use Rattle.model_names.proofs.examples.texts_have_their_names.Goals as goal

pub returns-clause-name : goal.returns-clause-name
unfolding digits
returns-clause-name c = name_of-spelled _ _ (Spells-from_tests _ _ (codes "a/../#10") refl refl refl (lit≤ tt))

pub returns-clause-cascading : goal.returns-clause-cascading
returns-clause-cascading c = name_of-spelled _ _ (Spells-from_tests _ _ [] refl refl refl (lit≤ tt))
