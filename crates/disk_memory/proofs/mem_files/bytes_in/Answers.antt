-- The file at the place is the first of the name, and where there is no place there is no such file.
use Rattle.std.proofs.Common.{sym, ap, ◌∙◌}
use Rattle.disk_memory.proofs.Named.{IsFirst-position, IsMissing-position, bytes_of-first, bytes_of-missing}
use Rattle.disk_memory.proofs.mem_files.bytes_in.Goals as goal

pub returns-in-Some : goal.returns-in-Some
returns-in-Some c =
    let first = IsFirst-position c.args.files.now c.args.name.now c.in-Some.place (sym c.in-Some.ensures) in
    c.bytes.ensures ∙ ap (λ f. f.bytes) c.index-files-place.is
    ∙ sym (bytes_of-first _ _ _ c.index-files-place.result first)

pub returns-in-None : goal.returns-in-None
returns-in-None c =
    sym (bytes_of-missing _ _ (IsMissing-position c.args.files.now c.args.name.now (sym c.in-None.ensures)))
