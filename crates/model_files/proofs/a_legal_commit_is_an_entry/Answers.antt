use Rattle.model_store.specs.Store.{formats_of}
use Rattle.model_files.proofs.EntryLemmas.{is_entry}
use Rattle.model_files.proofs.a_legal_commit_is_an_entry.Goals as goal

pub returns : goal.returns
returns g c = λ store before commit have legal. is_entry (formats_of g.F.Formats) store have before commit legal
