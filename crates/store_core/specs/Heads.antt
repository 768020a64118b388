-- What the head of a store's journal names. (This project's own.)
use Rattle.std.specs.Prelude.{ℕ, List}
use Rattle.std.specs.FinMap as map
use Rattle.model_files.specs.Files.{file_names}
use Rattle.mount_table.specs.declared.mounts.Mount.{Mount}

-- the files of some mounts, each once and in the order of their bytes: those of a table are the `table_files` of its
-- store
abbrev pub names_at : List Mount → List (List ℕ)
names_at mounts = map.keys (file_names mounts)
