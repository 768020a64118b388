-- The keys of another set have their entries there.
use Rattle.std.proofs.Common.{ap, ◌∙◌}
use Rattle.std.specs.FinMap as map
use Rattle.std.proofs.lemmas.Result.{on_ok_weaker}
use Rattle.key_set.proofs.WithAllLemmas.{get-with_all}
use Rattle.set_split.proofs.uniting.add_all.Goals as goal

pub returns : goal.returns
returns c =
    on_ok_weaker c.append_all.result (λ done name. ap (λ m. map.get m name) done ∙ get-with_all c.args.others c.args.keys.now name) c.append_all.ensures.ok
