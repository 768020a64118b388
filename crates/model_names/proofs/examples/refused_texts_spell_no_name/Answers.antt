use Rattle.std.specs.Prelude.{codes}
use Rattle.std.specs.Fmt.{digits}
use Rattle.std.proofs.Common.{refl}
use Rattle.model_names.specs.declared.namespaces.Namespace.TheVariants.{User}
use Rattle.model_names.proofs.SpellsLemmas.{spells_nothing}
use Rattle.model_names.proofs.examples.refused_texts_spell_no_name.Goals as goal

pub returns-clause-escape : goal.returns-clause-escape
returns-clause-escape c = spells_nothing User (codes "a\\b") refl

pub returns-clause-underscore : goal.returns-clause-underscore
unfolding digits
returns-clause-underscore c = spells_nothing User (codes "#_1") refl

pub returns-clause-zero : goal.returns-clause-zero
unfolding digits
returns-clause-zero c = spells_nothing User (codes "#00") refl
