-- The first that is of the mount is told.
use Rattle.std.proofs.Common.{cond, get_or, Some, None, sym, ap, eq-eqb}
use Rattle.std.proofs.lemmas.Bool.{ne_eqb}
use Rattle.std.proofs.lemmas.Option.{slice_get-get_or}
use Rattle.general_words.proofs.Searches.{first_some-found, first_some-next}
use Rattle.store_verdict.specs.PreparedView.{if_mount}
use Rattle.store_verdict.specs.declared.prepared.Seen.{Seen}
use Rattle.store_verdict.proofs.prepared.front_of.Goals as goal

pub returns-then-mount-one : goal.returns-then-mount-one
returns-then-mount-one c =
    let d : Seen = record { mount = 0; front = 0 } in
    let one : Seen = get_or c.args.seen.now c.loop-one.one-index d in
    sym (first_some-found (if_mount c.args.mount) c.args.seen.now c.loop-one.one-index one one.front
    (sym (slice_get-get_or c.args.seen.now c.loop-one.one-index d c.loop-one-test.true))
    c.loop-one.invariant (ap (λ b. cond b (Some one.front) None) (eq-eqb c.args.mount one.mount c.if-mount-one.true)))

pub loop-one-preserved : goal.loop-one-preserved
loop-one-preserved c =
    let d : Seen = record { mount = 0; front = 0 } in
    let one : Seen = get_or c.args.seen.now c.loop-one.one-index d in
    first_some-next (if_mount c.args.mount) c.args.seen.now c.loop-one.one-index one
    (sym (slice_get-get_or c.args.seen.now c.loop-one.one-index d c.loop-one-test.true))
    c.loop-one.invariant (ap (λ b. cond b (Some one.front) None) (ne_eqb c.args.mount one.mount c.if-mount-one.false))
