-- Each answer of the verdict is one of the definitions.
use Rattle.std.proofs.Common.{◌≡◌, ◌⊎◌, List, true, Some, refl, sym, subst, ◌∙◌}
use Rattle.model_store.specs.Store.{Store, formats_of, points_of, store_of}
use Rattle.mounted_files.specs.declared.files.MountedFile.{MountedFile}
use Rattle.mounted_files.specs.declared.refusals.GetFault.TheVariants as fault
use Rattle.set_split.specs.Involved.{involved_in}
use Rattle.store_core.specs.Gets.{fault_at, is_bad_mount}
use Rattle.store_core.proofs.GetLemmas.{bad_is, keys_got, nothing_got, refused}
use Rattle.store_verdict.specs.Gets.{IsBad, IsGetting}
use Rattle.store_verdict.specs.RecordView.{proc_of}
use Rattle.store_verdict.specs.declared.getting.Getting.{Getting}
use Rattle.store_core.proofs.cores.Core.get.Goals as goal

pub fault_at-requires : goal.fault_at-requires
fault_at-requires g c =
    let store : Store = store_of c.args.plan.now.mounted (λ r. proc_of c.args.rec.now) in
    let got = subst (λ (files : List MountedFile). IsGetting (store_of files store.procs) c.args.self.now.keys c.len-front.result c.args.parent.now c.args.rec.now c.get.new.rec c.in-Ok.got) c.mounted-mounted.ensures (c.in-Ok.ensures.got store.procs refl) in
    let bad : IsBad store c.args.parent.now c.args.rec.now c.get.new.rec c.in-Bad.mount = subst (λ (made : Getting). IsGetting store c.args.self.now.keys c.len-front.result c.args.parent.now c.args.rec.now c.get.new.rec made) c.in-Bad.is got in
    subst (λ (files : List MountedFile). is_bad_mount files c.in-Bad.mount ≡ true) (sym (c.files.ensures.files ∙ c.mounted-mounted.ensures)) (bad_is store c.in-Bad.mount (involved_in (points_of store) c.args.parent.now) bad.bad)

pub returns-in-Keys-clause-got : goal.returns-in-Keys-clause-got
returns-in-Keys-clause-got g c procs records prepared proc is =
    let store : Store = store_of c.args.plan.now.mounted procs in
    let got = subst (λ (files : List MountedFile). IsGetting (store_of files procs) c.args.self.now.keys c.len-front.result c.args.parent.now c.args.rec.now c.get.new.rec c.in-Ok.got) c.mounted-mounted.ensures (c.in-Ok.ensures.got procs proc) in
    keys_got (formats_of g.F.Formats) store c.args.plan.now.mounted c.args.self.now records prepared c.args.parent.now c.args.rec.now c.get.new.rec is c.len-front.result c.in-Keys.keys c.len-front.ensures
    (subst (λ (made : Getting). IsGetting store c.args.self.now.keys c.len-front.result c.args.parent.now c.args.rec.now c.get.new.rec made) c.in-Keys.is got)

pub returns-in-Bad-clause-got : goal.returns-in-Bad-clause-got
returns-in-Bad-clause-got g c procs records prepared proc is =
    let store : Store = store_of c.args.plan.now.mounted procs in
    let got = subst (λ (files : List MountedFile). IsGetting (store_of files procs) c.args.self.now.keys c.len-front.result c.args.parent.now c.args.rec.now c.get.new.rec c.in-Ok.got) c.mounted-mounted.ensures (c.in-Ok.ensures.got procs proc) in
    let bad : IsBad store c.args.parent.now c.args.rec.now c.get.new.rec c.in-Bad.mount = subst (λ (made : Getting). IsGetting store c.args.self.now.keys c.len-front.result c.args.parent.now c.args.rec.now c.get.new.rec made) c.in-Bad.is got in
    refused (formats_of g.F.Formats) store c.args.plan.now.mounted c.args.self.now records prepared c.args.parent.now c.args.rec.now c.get.new.rec is c.in-Bad.mount c.fault_at.result bad.same bad.bad
    (subst (λ (files : List MountedFile). (c.fault_at.result ≡ fault.Memory) ⊎ (fault_at files c.in-Bad.mount ≡ Some c.fault_at.result)) (c.files.ensures.files ∙ c.mounted-mounted.ensures) c.fault_at.ensures)

pub returns-in-Err-clause-got : goal.returns-in-Err-clause-got
returns-in-Err-clause-got g c procs records prepared proc is =
    nothing_got (formats_of g.F.Formats) (store_of c.args.plan.now.mounted procs) c.args.plan.now.mounted c.args.self.now records prepared c.args.parent.now c.args.rec.now c.get.new.rec is c.in-Err.ensures.err
