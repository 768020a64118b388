-- No candidate so far is present.
use Rattle.std.proofs.Common.{◌≡◌, None, take}
use Rattle.general_words.specs.Searches.{first_some}
use Rattle.model_specified.specs.Specified.{specified}
use Rattle.spec_cascade.specs.Found.{present}
use Rattle.spec_cascade.proofs.specified_lookups.first_present.Given as goal

abbrev pub invariant-loop-name : goal.invariant-loop-name
invariant-loop-name l = first_some (present (specified l.keys) l.said l.default) (take l.name-index l.names) ≡ None
