use Rattle.std.proofs.Common.{◌≡◌, drop}
use Rattle.general_words.specs.Searches.{first_some}
use Rattle.model_names.specs.Refuses.{bad_array}
use Rattle.key_name.specs.Raws.{with_places}
use Rattle.key_name.proofs.refusing.first_bad_array.Given as goal

abbrev pub invariant-loop-raw : goal.invariant-loop-raw
invariant-loop-raw l =
    first_some bad_array (with_places l.raws) ≡ first_some bad_array (with_places (drop l.raw-index l.raws))
