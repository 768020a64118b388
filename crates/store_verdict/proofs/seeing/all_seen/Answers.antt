-- Each turn sees one more mount, or finds one that was not fetched.
use Rattle.std.proofs.Common.{◌≡◌, ℕ, List, [], ◌∷◌, ◌++◌, get_or, take, map as over, slice_get, Option, Some, refl, sym, ap, ap₂, ◌∙◌}
use Rattle.std.proofs.lemmas.List.{map-append}
use Rattle.std.proofs.lemmas.Option.{slice_get-get_or}
use Rattle.general_words.proofs.Lists.{take-next}
use Rattle.general_words.proofs.Searches.{first_some-found, first_some-next}
use Rattle.model_store.specs.Fitting.{NotFetched}
use Rattle.model_store.specs.Sets.{front_in}
use Rattle.model_store.specs.Verdicts.{if_unseen}
use Rattle.store_verdict.specs.RecordView.{record_of}
use Rattle.store_verdict.specs.declared.prepared.Seen.{Seen}
use Rattle.store_verdict.proofs.seeing.all_seen.Goals as goal

abbrev pair : Seen → ℕ × Option ℕ
pair one = (one.mount, Some one.front)

pub loop-mount-init : goal.loop-mount-init
loop-mount-init c = record { seen = ap (over pair) c.in_ok-seen.ensures.items; none = refl }

pub returns-in-None : goal.returns-in-None
returns-in-None c =
    let m : ℕ = get_or c.args.mounts.now c.loop-mount.mount-index 0 in
    first_some-found (λ n. if_unseen n (front_in (record_of c.args.rec.now) n)) c.args.mounts.now c.loop-mount.mount-index m (NotFetched m)
    (sym (slice_get-get_or c.args.mounts.now c.loop-mount.mount-index 0 c.loop-mount-test.true))
    c.loop-mount.invariant.none (ap (if_unseen m) (sym c.fetched.ensures ∙ c.in-None.is))

pub loop-mount-preserved : goal.loop-mount-preserved
loop-mount-preserved c =
    let m : ℕ = get_or c.args.mounts.now c.loop-mount.mount-index 0 in
    let rec = record_of c.args.rec.now in
    let front : Option ℕ = front_in rec m in
    let told : ℕ → ℕ × Option ℕ = λ n. (n, front_in rec n) in
    let there : Some m ≡ slice_get c.args.mounts.now c.loop-mount.mount-index = sym (slice_get-get_or c.args.mounts.now c.loop-mount.mount-index 0 c.loop-mount-test.true) in
    record {
      seen =
          ap (over pair) c.in_ok-push-in-Some.ensures.items
          ∙ map-append pair c.loop-mount.seen.items (record { mount = m; front = c.in-Some.front } ∷ [])
          ∙ ap₂ (λ (xs : List (ℕ × Option ℕ)) (o : Option ℕ). xs ++ (m, o) ∷ []) c.loop-mount.invariant.seen (sym c.in-Some.is ∙ c.fetched.ensures)
          ∙ sym (ap (over told) (take-next c.args.mounts.now c.loop-mount.mount-index m there) ∙ map-append told (take c.loop-mount.mount-index c.args.mounts.now) (m ∷ []));
      none = first_some-next (λ n. if_unseen n (front_in rec n)) c.args.mounts.now c.loop-mount.mount-index m there c.loop-mount.invariant.none (ap (if_unseen m) (sym c.fetched.ensures ∙ c.in-Some.is));
    }
