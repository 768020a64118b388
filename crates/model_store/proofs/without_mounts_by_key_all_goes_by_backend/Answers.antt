-- By what each step is where the count is by the backend.
use Rattle.model_store.specs.Store.{formats_of}
use Rattle.model_store.proofs.ByBackend.{all-backend, first-blocks, kept-front, none-large, stored-kept}
use Rattle.model_store.proofs.without_mounts_by_key_all_goes_by_backend.Goals as goal

pub returns-clause-blocking : goal.returns-clause-blocking
returns-clause-blocking g c = first-blocks

pub returns-clause-kept : goal.returns-clause-kept
returns-clause-kept g c = kept-front

pub returns-clause-fronts : goal.returns-clause-fronts
returns-clause-fronts g c = all-backend

pub returns-clause-stored : goal.returns-clause-stored
returns-clause-stored g c = stored-kept

pub returns-clause-small : goal.returns-clause-small
returns-clause-small g c store none keys set = none-large store none (formats_of g.F.Formats) keys set
