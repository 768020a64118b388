-- So far the same files.
use Rattle.std.proofs.Common.{◌≡◌, take}
use Rattle.disk_memory.proofs.mem_files.copies.Given as goal

abbrev pub invariant-loop-file : goal.invariant-loop-file
invariant-loop-file l = l.all.items ≡ take l.file-index l.files
