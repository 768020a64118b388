-- A write changes the first file of the name, and where there is none it makes one.
use Rattle.std.proofs.Common.{length, sym, ap, ◌∙◌, arith}
use Rattle.std.proofs.lemmas.Result.{on_ok_weaker}
use Rattle.kdb_outside.specs.Files.{written}
use Rattle.disk_memory.proofs.Named.{IsFirst-position, IsMissing-position, bytes_of-found, bytes_of-missing, written_new, ChangesTo-set, ChangesTo-push}
use Rattle.disk_memory.proofs.mem_files.write_in.Goals as goal

pub write-requires : goal.write-requires
write-requires c =
    let first = IsFirst-position c.args.files.now.items c.args.name.now c.in-Some.place (rw c.deref.ensures.value at (sym c.in-Some.ensures)) in
    omega (arith, ap length (bytes_of-found _ _ _ c.index_mut.result.now _ first c.index_mut.ensures.value))

pub returns-in-Some-clause-ok : goal.returns-in-Some-clause-ok
returns-in-Some-clause-ok c =
    let first = IsFirst-position c.args.files.now.items c.args.name.now c.in-Some.place (rw c.deref.ensures.value at (sym c.in-Some.ensures)) in
    on_ok_weaker c.write.result
    (ChangesTo-set _ _ _ c.index_mut.result.now _ c.write.new.self (λ bytes. written bytes c.args.at c.args.piece.now) first c.index_mut.ensures.value)
    c.write.ensures.ok

pub returns-in_ok-push-in-None-clause-ok : goal.returns-in_ok-push-in-None-clause-ok
returns-in_ok-push-in-None-clause-ok c =
    let missing = IsMissing-position c.args.files.now.items c.args.name.now (rw c.deref.ensures.value at (sym c.in-None.ensures)) in
    rw c.in_ok-push-in-None.ensures.items (ChangesTo-push _ _ c.new-file.result _ missing (ap (λ f. f.name) c.new-file.ensures ∙ c.in_ok-copy-in-None.ensures)
    (ap (λ f. f.bytes) c.new-file.ensures ∙ c.in_ok-from_slice-in-None.ensures.items ∙ written_new _ c.args.at c.args.piece.now (bytes_of-missing _ _ missing) c.requires))
