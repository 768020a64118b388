-- The mounts so far and the entries that are left lead to what all lead to.
use Rattle.std.proofs.Common.{◌≡◌, ℕ, List, is_some, drop}
use Rattle.std.specs.FinMap.{find}
use Rattle.general_words.specs.Texts.{text_cmp}
use Rattle.mount_table.specs.Reading.{is_taken, mounts_from}
use Rattle.mount_table.proofs.reading.mounts_from.Given as goal

abbrev pub invariant-loop-entry : goal.invariant-loop-entry
invariant-loop-entry l = record {
  taken : (file : List ℕ) → is_some (find text_cmp file l.files) ≡ is_taken l.mounts.items file;
  rest : mounts_from l.mounts.items (drop l.entry-index l.entries) ≡ mounts_from l.fn.mounts.items l.entries;
}
