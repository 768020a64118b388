use Rattle.std.proofs.Common.{◌≡◌, ◌∷◌, ◌++◌, length, take}
use Rattle.std.specs.List.{flat_map}
use Rattle.journal_codec.specs.Entry.{length_bytes}
use Rattle.journal_codec.specs.Header.{version, sized_name}
use Rattle.journal_codec.proofs.headers.encode_header.Given as goal

abbrev pub invariant-loop-file : goal.invariant-loop-file
invariant-loop-file l =
    l.out.items ≡ version ∷ (length_bytes l.size ++ (length l.files ∷ flat_map sized_name (take l.file-index l.files)))
