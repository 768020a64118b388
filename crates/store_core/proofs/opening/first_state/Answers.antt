-- The mounts are those of a table, and their files can be written again.
use Rattle.std.proofs.Common.{List, map as over, subst, sym}
use Rattle.model_files.specs.Files.{HaveFiles}
use Rattle.model_store.specs.Sound.{IsSound}
use Rattle.model_store.specs.Store.{formats_of, store_of}
use Rattle.model_store.proofs.SoundLemmas.{sound_store}
use Rattle.mounted_files.specs.Opening.{IsMadeByKeys}
use Rattle.mounted_files.specs.declared.files.MountedFile.{MountedFile}
use Rattle.store_core.proofs.OpeningLemmas.{have_files}
use Rattle.store_core.proofs.opening.first_state.Goals as goal

pub returns-clause-files : goal.returns-clause-files
returns-clause-files g c =
    let made = c.table.ensures.made in
    subst (λ (files : List MountedFile). HaveFiles (over (λ (file : MountedFile). file.mount) files)) (sym c.in_ok-mounted-2.ensures)
    (subst HaveFiles c.table.ensures.mounts (have_files made.keys c.table.result.now made.is))

pub returns-clause-sound : goal.returns-clause-sound
returns-clause-sound g c = λ procs.
    subst (λ (files : List MountedFile). IsSound (formats_of g.F.Formats) (store_of files procs)) (sym c.in_ok-mounted-2.ensures)
    (sound_store g.F.Formats c.in_ok-mounted.mounted procs c.in_ok-mounted.ensures.storable c.files.ensures.short (subst IsMadeByKeys c.table.ensures.mounts c.table.ensures.made))
