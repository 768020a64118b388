-- What the file of a mount is to hold is sound behind its mountpoint.
use Rattle.std.proofs.Common.{◌≡◌, slice_get, Some, sym, ap, subst, ◌∙◌}
use Rattle.std.specs.Option.{option_map}
use Rattle.std.proofs.lemmas.Option.{slice_get-map}
use Rattle.general_words.proofs.Lists.{at_place, some_is}
use Rattle.model_maps.specs.KeyMap.{KeyMap}
use Rattle.mount_table.specs.declared.mounts.Mount.{Mount}
use Rattle.mounted_files.specs.Sound.{AreSound, IsSound}
use Rattle.mounted_files.specs.declared.files.MountedFile.{MountedFile}
use Rattle.mounted_files.proofs.MapLemmas.{each-none}
use Rattle.store_verdict.proofs.files.file_of.Goals as goal
use Rattle.store_verdict.proofs.files.file_of.Goals.{in-Some+in_ok-contents-in-Some, in-None}

pub returns-clause-sound : goal.returns-clause-sound
returns-clause-sound c = elim c.match-get.branch [
  | in-Some+in_ok-contents-in-Some w ↦ λ mount there.
      let files = c.args.files.now in
      let m = c.args.part.now.mount in
      let file = w.in-Some.file.now in
      let found : Some file ≡ slice_get files m = at_place files m file w.in-Some.ensures.lookup.3.0 w.in-Some.ensures.lookup.1 in
      let same : file.mount ≡ mount = some_is file.mount mount (ap (option_map (λ (f : MountedFile). f.mount)) found ∙ sym (slice_get-map (λ (f : MountedFile). f.mount) files m) ∙ there) in
      subst (λ (k : Mount). AreSound k.at c.match-get.contents) same (subst (λ (keys : KeyMap). AreSound file.mount.at keys) (sym w.contents-is) w.in_ok-contents-in-Some.ensures.sound)
  | in-None w ↦ λ mount there. subst (λ (keys : KeyMap). AreSound mount.at keys) (sym (w.contents-is ∙ w.new-contents.ensures)) (each-none (IsSound mount.at))
]
