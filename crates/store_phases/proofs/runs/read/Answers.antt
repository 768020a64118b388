use Rattle.std.proofs.Common.{List, ℕ, subst}
use Rattle.std.specs.Prelude.{IfOk}
use Rattle.backend_files.specs.WholeFile.{IsWhole}
use Rattle.store_phases.proofs.Stores.{IsStore-read, read_of_run, same_but_disk}
use Rattle.store_phases.proofs.runs.read.Goals as goal

pub returns-clause-told : goal.returns-clause-told
returns-clause-told g c opened run store none own =
    subst (λ (bytes : List ℕ). IfOk c.read_file.result (IsWhole bytes)) (read_of_run g.D.Disk opened c.args.journal.now run c.args.file.now store none own) (c.read_file.ensures.told store.rests.tells)

pub returns-clause-store : goal.returns-clause-store
returns-clause-store g c opened run store =
    let same = same_but_disk c.args.journal.now c.read_file.new.self c.read_file.ensures.journal in
    IsStore-read g.D.Disk opened c.args.journal.now c.read_file.new.self run c.read_file.ensures.reads same.0 same.1 store
