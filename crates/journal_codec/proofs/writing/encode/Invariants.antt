use Rattle.std.proofs.Common.{◌≡◌, ◌+◌, ◌∷◌, ◌++◌, length, take}
use Rattle.std.specs.List.{flat_map}
use Rattle.journal_codec.specs.Entry.{length_bytes, spelled_file}
use Rattle.journal_codec.specs.Forms.{over}
use Rattle.journal_codec.proofs.writing.encode.Given as goal

abbrev pub invariant-loop-file : goal.invariant-loop-file
invariant-loop-file l =
    l.out.items ≡ length_bytes l.size ++ ((over + length l.files) ∷ flat_map spelled_file (take l.file-index l.files))
