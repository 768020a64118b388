-- The first blocked mount is told.
use Rattle.std.proofs.Common.{ℕ, ◌≤◌, List, get_or, length, slice_get, sym, ap, arith, ◌∙◌}
use Rattle.std.specs.Option.{option_map}
use Rattle.std.proofs.lemmas.List.{take_all}
use Rattle.std.proofs.lemmas.Option.{slice_get-get_or}
use Rattle.general_words.specs.Searches.{first_some}
use Rattle.general_words.proofs.Searches.{first_some-found, first_some-next}
use Rattle.model_store.specs.Verdicts.{Conflict, conflict_at}
use Rattle.store_verdict.specs.PreparedView.{prepared_of}
use Rattle.store_verdict.proofs.judging.first_block.Goals as goal

pub returns-in-Some : goal.returns-in-Some
returns-in-Some c = λ store are.
    let m : ℕ = get_or c.as_slice-mount-items.result.now c.loop-mount.mount-index 0 in
    sym (first_some-found (conflict_at store c.args.history.now.commits (prepared_of c.args.set.now)) c.args.set.now.touched c.loop-mount.mount-index m (Conflict m c.in-Some.by)
    (sym (slice_get-get_or c.as_slice-mount-items.result.now c.loop-mount.mount-index 0 c.loop-mount-test.true) ∙ ap (λ ms. slice_get ms c.loop-mount.mount-index) c.as_slice-mount-items.ensures)
    (c.loop-mount.invariant store are) (sym (c.blocking.ensures store are) ∙ ap (option_map (Conflict m)) c.in-Some.is))

pub loop-mount-preserved : goal.loop-mount-preserved
loop-mount-preserved c = λ store are.
    let m : ℕ = get_or c.as_slice-mount-items.result.now c.loop-mount.mount-index 0 in
    first_some-next (conflict_at store c.args.history.now.commits (prepared_of c.args.set.now)) c.args.set.now.touched c.loop-mount.mount-index m
    (sym (slice_get-get_or c.as_slice-mount-items.result.now c.loop-mount.mount-index 0 c.loop-mount-test.true) ∙ ap (λ ms. slice_get ms c.loop-mount.mount-index) c.as_slice-mount-items.ensures)
    (c.loop-mount.invariant store are) (sym (c.blocking.ensures store are) ∙ ap (option_map (Conflict m)) c.in_default.is)

pub returns : goal.returns
returns c = λ store are.
    let touched : List ℕ = c.args.set.now.touched in
    let all : length touched ≤ c.loop-mount.mount-index = omega (arith, c.loop-mount-test.false, ap length c.as_slice-mount-items.ensures) in
    sym (ap (first_some (conflict_at store c.args.history.now.commits (prepared_of c.args.set.now))) (sym (take_all c.loop-mount.mount-index touched all)) ∙ c.loop-mount.invariant store are)
