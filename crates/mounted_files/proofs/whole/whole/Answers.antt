-- Each key of the file is cascading.
use Rattle.std.proofs.Common.{◌≡◌}
use Rattle.std.specs.FinMap as map
use Rattle.general_words.proofs.Lists.{all_from_places}
use Rattle.model_names.specs.Name.{Name}
use Rattle.model_names.specs.declared.namespaces.Namespace.TheVariants.{Cascading}
use Rattle.model_maps.specs.Entry.{Entry}
use Rattle.mounted_files.proofs.MapLemmas.{key-at}
use Rattle.mounted_files.proofs.whole.whole.Goals as goal

pub behind-requires : goal.behind-requires
behind-requires c =
    record {
      cascading = all_from_places (λ (key : Name × Entry). key.0.namespace ≡ Cascading) (map.entries c.args.keys) (λ i key there. c.requires key.0 key.1 (key-at c.args.keys i key there));
    }
