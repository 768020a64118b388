-- Each mount adds what is kept of it.
use Rattle.std.proofs.Common.{List, ℕ, get_or, sym, ap, ◌∙◌}
use Rattle.std.specs.FinMap as map
use Rattle.std.proofs.lemmas.Option.{slice_get-get_or}
use Rattle.kdb_handle.proofs.RemakeLemmas.{kept-next}
use Rattle.model_maps.specs.KeyMap.{KeyMap}
use Rattle.set_split.proofs.UnionLemmas.{IsUnion-none}
use Rattle.store_verdict.specs.RecordView.{record_of}
use Rattle.kdb_handle.proofs.merging.kept_of.Goals as goal

pub loop-mount-init : goal.loop-mount-init
loop-mount-init c name = ap (λ (k : KeyMap). map.get k name) c.new-keys.ensures ∙ IsUnion-none name

pub loop-mount-preserved : goal.loop-mount-preserved
loop-mount-preserved c =
    let items : List ℕ = c.as_slice-mount-items.result.now in
    let i : ℕ = c.loop-mount.mount-index in
    kept-next (record_of c.args.rec.now) items i (get_or items i 0) c.loop-mount.keys c.add_kept.new.keys (sym (slice_get-get_or items i 0 c.loop-mount-test.true)) c.loop-mount.invariant c.in_ok-add_kept.ensures
