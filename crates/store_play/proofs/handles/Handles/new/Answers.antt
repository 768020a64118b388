-- There is a place for each mount.
use Rattle.std.proofs.Common.{length, ap, subst, ◌∙◌}
use Rattle.std.proofs.lemmas.List.{length-map}
use Rattle.mounted_files.specs.declared.files.MountedFile.{MountedFile}
use Rattle.store_play.specs.Handles.{AreHandlesOf, procs_at}
use Rattle.store_play.proofs.handles.Handles.new.Goals as goal

pub returns-clause-handles : goal.returns-clause-handles
returns-clause-handles g c =
    subst (λ n. AreHandlesOf n (procs_at c.args.procs.now) c.in_ok-records.records.items) (c.len.ensures.len ∙ ap length c.table.ensures ∙ length-map c.args.plan.now.mounted (λ (file : MountedFile). file.mount)) c.in_ok-records.ensures.made
