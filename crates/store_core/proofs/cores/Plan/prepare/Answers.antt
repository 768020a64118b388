-- The mounted files are those of the plan.
use Rattle.std.proofs.Common.{ℕ, IfErr, IfOk, List, subst}
use Rattle.general_words.specs.Memory.{UnlessMemory}
use Rattle.model_maps.specs.KeyMap.{KeyMap}
use Rattle.model_store.specs.Store.{formats_of, store_of}
use Rattle.mounted_files.specs.declared.files.MountedFile.{MountedFile}
use Rattle.store_verdict.specs.Preparing.{IsMade, IsRefused}
use Rattle.store_verdict.specs.RecordView.{handle_of, record_of}
use Rattle.store_verdict.specs.declared.faults.PrepareFault.TheVariants as fault
use Rattle.store_core.proofs.cores.Plan.prepare.Goals as goal

pub returns-clause-made : goal.returns-clause-made
returns-clause-made g c =
    subst (λ (files : List MountedFile). IfOk c.prepare.result (λ set. (procs : ℕ → KeyMap)
    → IsMade (formats_of g.F.Formats) (store_of files procs) (handle_of c.args.rec.now) (record_of c.args.rec.now) c.args.parent.now c.args.keys.now set)) c.mounted.ensures c.prepare.ensures.made

pub returns-clause-refused : goal.returns-clause-refused
returns-clause-refused g c =
    subst (λ (files : List MountedFile). IfErr c.prepare.result (λ why. UnlessMemory fault.Memory ((procs : ℕ → KeyMap)
    → IsRefused (formats_of g.F.Formats) (store_of files procs) (handle_of c.args.rec.now) (record_of c.args.rec.now) c.args.parent.now c.args.keys.now why) why)) c.mounted.ensures c.prepare.ensures.refused
