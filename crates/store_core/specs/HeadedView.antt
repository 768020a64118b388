-- Mounted files with the header that names them, as the code has them.
use Rattle.std.specs.Prelude.{◌≡◌, map}
use Rattle.journal_codec.specs.Header.{header_bytes}
use Rattle.store_core.specs.Heads.{names_at}
use Rattle.store_core.specs.declared.headed.Headed.TheInside.{Inside}

-- the header is that of the files of the mounts
abbrev pub IsHeaded : Inside → Type 0
IsHeaded inside = inside.header.items ≡ header_bytes (names_at (map (λ file. file.mount) inside.mounted))
