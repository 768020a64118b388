-- The first bad mount is told.
use Rattle.std.proofs.Common.{ℕ, cond, get_or, Some, None, sym, ap, ◌∙◌}
use Rattle.std.proofs.lemmas.Option.{slice_get-get_or}
use Rattle.general_words.proofs.Searches.{first_some-found, first_some-next}
use Rattle.store_verdict.specs.BadMounts.{bad_at}
use Rattle.store_verdict.proofs.getting.first_bad_of.Goals as goal

pub returns-then-is_bad : goal.returns-then-is_bad
returns-then-is_bad c =
    let m : ℕ = get_or c.args.mounts.now c.loop-mount.mount-index 0 in
    sym (first_some-found (bad_at c.args.files.now) c.args.mounts.now c.loop-mount.mount-index m m
    (sym (slice_get-get_or c.args.mounts.now c.loop-mount.mount-index 0 c.loop-mount-test.true))
    c.loop-mount.invariant (ap (λ b. cond b (Some m) None) (sym c.is_bad.ensures ∙ c.if-is_bad.true)))

pub loop-mount-preserved : goal.loop-mount-preserved
loop-mount-preserved c =
    let m : ℕ = get_or c.args.mounts.now c.loop-mount.mount-index 0 in
    first_some-next (bad_at c.args.files.now) c.args.mounts.now c.loop-mount.mount-index m
    (sym (slice_get-get_or c.args.mounts.now c.loop-mount.mount-index 0 c.loop-mount-test.true))
    c.loop-mount.invariant (ap (λ b. cond b (Some m) None) (sym c.is_bad.ensures ∙ c.if-is_bad.false))
