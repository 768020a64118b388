-- The visible keys of the first files.
use Rattle.std.proofs.Common.{◌≡◌, take}
use Rattle.mounted_files.specs.Visible.{visible_keys}
use Rattle.store_core.proofs.visible.visible_keys.Given as goal

abbrev pub invariant-loop-file : goal.invariant-loop-file
invariant-loop-file l = record {
  made : l.keys ≡ visible_keys (take l.file-index l.initial.files);
}
