-- By what each touched mount owns after the set.
use Rattle.model_store.specs.Store.{formats_of}
use Rattle.model_store.proofs.Remade.{can_remake}
use Rattle.model_store.proofs.the_files_of_an_accepted_set_can_be_made_anew.Goals as goal

pub returns : goal.returns
returns g c =
    λ store world core st r p set is_set ok free. can_remake (formats_of g.F.Formats) store world core st r p set is_set ok free
