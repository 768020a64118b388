-- What was prepared may be committed.
use Rattle.kdb_handle.proofs.UndoLemmas.{may_set}
use Rattle.kdb_handle.proofs.shared.Shared.set_in.Goals as goal
use Rattle.model_maps.specs.KeyMap.{no_keys}
use Rattle.model_store.specs.Store.{Formats, formats_of}

pub commit-requires : goal.commit-requires
commit-requires g c =
    let formats : Formats = formats_of g.F.Formats in
    let old = c.args.self.now in
    let given = may_set formats g.D.Disk g.row.D.coded g.P.Patterns.refusals c.args.plan.now.mounted old.core old.entries c.requires.may.0 c.args.rec.now 0 c.requires.may.1
    c.in-Ok.prepared c.args.parent.now c.args.keys.now (c.in-Ok.ensures.made (λ r. no_keys)) in
    record { may = (c.requires.may.0, given) }

pub returns-in-Ok-commit : goal.returns-in-Ok-commit
returns-in-Ok-commit g c =
    record { set = c.in-Ok.prepared; made = c.in-Ok.ensures.made (λ r. no_keys); commits = c.in-Ok-commit.ensures }

pub returns-in-Err-commit : goal.returns-in-Err-commit
returns-in-Err-commit g c =
    record { set = c.in-Ok.prepared; made = c.in-Ok.ensures.made (λ r. no_keys); commits = c.in-Err-commit.ensures }
