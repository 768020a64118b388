-- A script has 32 sessions at most, and what isn't shared comes back.
use Rattle.std.proofs.Common.{◌∙◌, ℕ, List, None, ap, arith, length, subst, sym}
use Rattle.batch_run.proofs.Opened.{few-sessions}
use Rattle.kdb_handle.specs.Views.{files_of}
use Rattle.model_store.specs.Records.{no_record}
use Rattle.model_store.specs.Store.{Formats, store_of, formats_of}
use Rattle.model_store.specs.Worlds.{first_world}
use Rattle.mounted_files.specs.declared.files.MountedFile.{MountedFile}
use Rattle.store_core.specs.Cores.{StandsIn}
use Rattle.store_core.specs.declared.cores.Core.{Core}
use Rattle.batch_run.proofs.playing.play_shared.Goals as goal

pub seats_for-requires : goal.seats_for-requires
seats_for-requires g c =
    omega (arith, ap (λ (ns : List ℕ). length ns) (c.deref.ensures.value ∙ c.requires.places.numbers), few-sessions c.args.script.now)

pub new-requires-clause-handles : goal.new-requires-clause-handles
new-requires-clause-handles g c =
    let few = few-sessions c.args.script.now in
    let many = ap (λ (ns : List ℕ). length ns) (c.deref.ensures.value ∙ c.requires.places.numbers) in
    let seats = c.seats_for.ensures in
    (omega arith, omega arith)

pub close_unplayed-requires : goal.close_unplayed-requires
close_unplayed-requires g c = λ procs.
    let formats : Formats = formats_of g.F.Formats in
    let none = c.in-Err.ensures.err in
    let Stands : List MountedFile → Core g.row.D.Denot g.row.P.Denot → Type 0 = λ files core. StandsIn formats (store_of files procs) core (λ r. no_record) (λ p. None) first_world in
    subst (Stands (files_of c.in-Err.unshared.plan)) (sym none.1) (subst (λ (files : List MountedFile). Stands files c.args.core) (sym (ap (λ p. files_of p) none.0)) (c.requires.world procs))
