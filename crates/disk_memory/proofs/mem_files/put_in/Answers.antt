-- The bytes become those of the first file of the name, and where there is none it is made.
use Rattle.std.proofs.Common.{sym, ap, ◌∙◌}
use Rattle.disk_memory.proofs.Named.{IsFirst-position, IsMissing-position, ChangesTo-set, ChangesTo-push}
use Rattle.disk_memory.proofs.mem_files.put_in.Goals as goal

pub returns-in-Some : goal.returns-in-Some
returns-in-Some c =
    let first = IsFirst-position c.args.files.now.items c.args.name.now c.in-Some.place (rw c.deref.ensures.value at (sym c.in-Some.ensures)) in
    ChangesTo-set _ _ _ c.index_mut.result.now _ c.put.new.self (λ _. c.args.bytes.items) first c.index_mut.ensures.value c.put.ensures

pub returns-in_ok-push-in-None : goal.returns-in_ok-push-in-None
returns-in_ok-push-in-None c =
    let missing = IsMissing-position c.args.files.now.items c.args.name.now (rw c.deref.ensures.value at (sym c.in-None.ensures)) in
    rw c.in_ok-push-in-None.ensures.items (ChangesTo-push _ _ c.new.result _ missing (ap (λ f. f.name) c.new.ensures ∙ c.in_ok-copy-in-None.ensures) (ap (λ f. f.bytes) c.new.ensures))
