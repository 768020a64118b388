-- The first core stands for the first world of a sound store.
use Rattle.std.proofs.Common.{rules}
use Rattle.model_store.specs.Store.{formats_of, store_of}
use Rattle.store_core.proofs.OpeningLemmas.{first_core_in}
use Rattle.store_core.proofs.opening.open_files.Goals as goal

pub returns-in-Ok : goal.returns-in-Ok
returns-in-Ok g c = record {
  patterns = search rules;
  told = search rules;
  world = λ procs. first_core_in (formats_of g.F.Formats) (store_of c.in-Ok.field-0.mounted procs) _ c.in-Ok.ensures.files (c.in-Ok.ensures.sound procs) c.in-Ok.ensures.none c.in-Ok.ensures.start c.in-Ok.ensures.keys;
  keys = search rules;
  start = search rules;
  none = search rules;
  wrote = search rules;
  journal = search rules;
  reads = search rules;
  own = search rules;
  cause = search rules;
}

pub returns-in-Err : goal.returns-in-Err
returns-in-Err g c = record {
  patterns = search rules;
  told = search rules;
  world = search rules;
  keys = search rules;
  start = search rules;
  none = search rules;
  wrote = search rules;
  journal = search rules;
  reads = search rules;
  own = search rules;
  cause = search rules;
}
