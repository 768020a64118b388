-- The texts so far are files, and the others are left.
use Rattle.std.proofs.Common.{◌≡◌, ◌+◌, ◌++◌, length, map as over}
use Rattle.model_files.specs.Texts.{as_file}
use Rattle.store_verdict.proofs.entries.files_from.Given as goal

abbrev pub invariant-loop : goal.invariant-loop
invariant-loop l =
    record {
      left : length l.texts + l.counter ≡ length l.initial.texts;
      are : l.files.items ++ over as_file l.texts ≡ over as_file l.initial.texts;
    }
