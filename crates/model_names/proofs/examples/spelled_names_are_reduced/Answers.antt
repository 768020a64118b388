use Rattle.std.specs.Prelude.{codes}
use Rattle.std.specs.Fmt.{digits}
use Rattle.std.proofs.Common.{refl, lit≤}
use Rattle.model_names.proofs.SpellsLemmas.{Spells-from_tests}
use Rattle.model_names.proofs.examples.spelled_names_are_reduced.Goals as goal

pub returns-clause-reduced : goal.returns-clause-reduced
returns-clause-reduced c = Spells-from_tests _ _ (codes "/a/./b/../c/") refl refl refl (lit≤ tt)

pub returns-clause-root : goal.returns-clause-root
returns-clause-root c = Spells-from_tests _ _ (codes "..") refl refl refl (lit≤ tt)

pub returns-clause-array : goal.returns-clause-array
unfolding digits
returns-clause-array c = Spells-from_tests _ _ (codes "#10") refl refl refl (lit≤ tt)

pub returns-clause-escaped : goal.returns-clause-escaped
returns-clause-escaped c = Spells-from_tests _ _ (codes "a\\/b/%") refl refl refl (lit≤ tt)

pub returns-clause-plain : goal.returns-clause-plain
returns-clause-plain c = Spells-from_tests _ _ (codes "#x") refl refl refl (lit≤ tt)
