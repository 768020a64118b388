-- The files of the mounts so far are taken.
use Rattle.std.proofs.Common.{◌≡◌, ℕ, List, is_some, take}
use Rattle.std.specs.FinMap.{find}
use Rattle.general_words.specs.Texts.{text_cmp}
use Rattle.mount_table.specs.Reading.{is_taken}
use Rattle.mount_table.proofs.reading.files_of.Given as goal

abbrev pub invariant-loop-mount : goal.invariant-loop-mount
invariant-loop-mount l =
    (file : List ℕ) → is_some (find text_cmp file l.files) ≡ is_taken (take l.mount-index l.mounts) file
