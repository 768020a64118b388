use Rattle.std.proofs.Common.{◌≡◌, [], sym, subst, ◌∙◌}
use Rattle.disk_memory.specs.DiskState.{seen_of}
use Rattle.store_cases.proofs.DiskLemmas.{no_bytes, calm_without_journal}
use Rattle.store_cases.proofs.stores.first_disk.Goals as goal

pub returns-then-is_empty-2 : goal.returns-then-is_empty-2
returns-then-is_empty-2 c =
    let disk = c.in_ok-disk.disk in
    let former = sym c.bytes.ensures ∙ no_bytes c.bytes.result.now (sym c.is_empty.ensures ∙ c.if-is_empty.true) in
    let journal = sym c.bytes-then-is_empty.ensures ∙ no_bytes c.bytes-then-is_empty.result.now (sym c.is_empty-then-is_empty.ensures ∙ c.if-is_empty-2.true) in
    calm_without_journal disk c.in_ok-disk.ensures
    (subst (λ name. seen_of disk name ≡ []) c.in_ok-former.ensures former)
    (subst (λ name. seen_of disk name ≡ []) c.in_ok-journal.ensures journal)
