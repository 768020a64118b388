-- Where memory is wanting the disk isn't touched; what the journal acknowledged stays where the record moves.
use Rattle.std.proofs.Common.{◌≡◌, ◌+◌, [], ◌∷◌, ◌++◌, length, map as over, Err, refl, sym, ap, ◌∙◌, rules, arith, length-append}
use Rattle.commit_log.specs.CommitView.{commit_of}
use Rattle.model_store.specs.Cores.{storing}
use Rattle.mounted_files.specs.declared.files.MountedFile.{MountedFile}
use Rattle.store_core.specs.Heads.{names_at}
use Rattle.store_core.specs.declared.committing.CommitFault.TheVariants as fault
use Rattle.store_core.specs.declared.committing.Done.TheVariants as done
use Rattle.store_core.proofs.CommitEnds.{enters_nothing, entry_under, header_under}
use Rattle.store_verdict.specs.RecordView.{record_of}
use Rattle.store_core.proofs.cores.Core.enter.Goals as goal

pub returns-in_err-encoded : goal.returns-in_err-encoded
returns-in_err-encoded g c =
    let memory : c.from_residual.result ≡ Err fault.Memory = search rules in
    enters_nothing g.D.Disk (over (λ (file : MountedFile). file.mount) c.args.plan.now.mounted) (commit_of c.args.entering) c.args.left_aside c.args.keys c.args.prepared c.args.self.now _ c.args.rec.now c.from_residual.result memory
    (record { journal = refl; history = refl; start = refl; keys = refl; wrote = refl }) refl

pub returns-in_err-reserve : goal.returns-in_err-reserve
returns-in_err-reserve g c =
    let memory : c.from_residual-in_err-reserve.result ≡ Err fault.Memory = search rules in
    enters_nothing g.D.Disk (over (λ (file : MountedFile). file.mount) c.args.plan.now.mounted) (commit_of c.args.entering) c.args.left_aside c.args.keys c.args.prepared c.args.self.now _ c.args.rec.now c.from_residual-in_err-reserve.result memory
    (record { journal = refl; history = c.in_err-reserve.ensures.same; start = refl; keys = refl; wrote = refl }) refl

pub commit-requires : goal.commit-requires
commit-requires g c = record {
  entry = c.requires.entry.entry;
  header = (names_at (over (λ (file : MountedFile). file.mount) c.args.plan.now.mounted), c.requires.entry.header, c.header.ensures);
  encoded = search rules;
}

pub returns : goal.returns
returns g c =
    let mounts = over (λ (file : MountedFile). file.mount) c.args.plan.now.mounted in
    let before = c.args.self.now.history.commits in
    let history : c.push.new.self.commits ≡ before ++ commit_of c.args.entering ∷ [] = search rules in
    let number : c.len-number.result ≡ length before + 1 = omega (arith, c.len-number.ensures, ap length history, length-append before (commit_of c.args.entering ∷ [])) in
    record {
      entered = (
        ap (λ n. done.Committed n c.args.left_aside) number,
        record {
          history = history;
          keys_are = refl;
          kept = λ store touched wanted same is. c.store.ensures.stored store touched wanted (same ∙ sym c.table.ensures) is ∙ ap (λ n. storing store touched n wanted (record_of c.args.rec.now)) number;
          wrote = refl;
          stored = λ opened run holds. c.in-Ok.ensures.committed opened run holds.store (header_under mounts run.names c.header.result.now c.header.ensures holds.names) (entry_under mounts run.names c.args.prepared.texts c.requires.entry holds.names);
        },
      );
      any_moment = λ opened run holds. c.commit.ensures.any_moment opened run holds.store (header_under mounts run.names c.header.result.now c.header.ensures holds.names) (entry_under mounts run.names c.args.prepared.texts c.requires.entry holds.names);
      start = refl;
      patterns = refl;
      goes = search rules;
      handle = search rules;
      places = search rules;
      proc = search rules;
    }

pub returns-in_default : goal.returns-in_default
returns-in_default g c =
    let mounts = over (λ (file : MountedFile). file.mount) c.args.plan.now.mounted in
    record {
      entered = (
        search rules,
        record {
          history = search rules;
          keys_are = refl;
          kept = refl;
          wrote = refl;
          begun = λ opened run holds.
              c.in_default.ensures.failed opened run holds.store (header_under mounts run.names c.header.result.now c.header.ensures holds.names)
              (entry_under mounts run.names c.args.prepared.texts c.requires.entry holds.names);
          cause = search rules;
        },
      );
      any_moment = λ opened run holds.
          c.commit.ensures.any_moment opened run holds.store (header_under mounts run.names c.header.result.now c.header.ensures holds.names)
          (entry_under mounts run.names c.args.prepared.texts c.requires.entry holds.names);
      start = refl;
      patterns = refl;
      goes = search rules;
      handle = refl;
      places = refl;
      proc = refl;
    }
