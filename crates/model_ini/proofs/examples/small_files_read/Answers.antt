use Rattle.std.specs.Prelude.{[], codes}
use Rattle.std.proofs.Common.{refl, lit≤}
use Rattle.model_names.proofs.SpellsLemmas.{Spells-from_tests}
use Rattle.model_maps.specs.KeyMap.{no_keys}
use Rattle.model_maps.proofs.SmallMaps.{name_a, plain_a}
use Rattle.model_ini.proofs.SmallFiles.{adds_a, skips, enters}
use Rattle.model_ini.proofs.examples.small_files_read.Goals as goal

pub returns-clause-no_keys : goal.returns-clause-no_keys
returns-clause-no_keys c =
    (no_keys, skips (codes "# a = 1") no_keys refl refl, (no_keys, skips [] no_keys refl refl, refl))

pub returns-clause-one_key : goal.returns-clause-one_key
returns-clause-one_key c =
    let spelled = Spells-from_tests (codes "//a") name_a (codes "/a") refl refl refl (lit≤ tt) in (
      no_keys,
      skips (codes "# b = 2") no_keys refl refl,
      (no_keys, skips [] no_keys refl refl, (plain_a, enters (codes " /a= 1\r") (codes "/a") (codes "1") no_keys plain_a refl refl (adds_a (codes "/a") spelled), refl)),
    )
