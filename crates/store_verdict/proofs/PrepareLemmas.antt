-- What is made or refused of a set, from what is seen, wanted and written.
use Rattle.std.proofs.Common.{◌≡◌, ℕ, List, map as over, Some, None, refl, sym, ap, subst, ◌∙◌}
use Rattle.journal_codec.specs.declared.files.FileText.{FileText}
use Rattle.model_files.specs.Texts.{as_entry, texts_at}
use Rattle.model_maps.specs.KeyMap.{KeyMap}
use Rattle.model_names.specs.Name.{Name}
use Rattle.model_store.specs.Fitting.{NotFetched}
use Rattle.model_store.specs.Records.{Record}
use Rattle.model_store.specs.Sets as model
use Rattle.model_store.specs.Sets.{prepared, wants}
use Rattle.model_store.specs.Store.{Store, Formats, points_of}
use Rattle.model_store.specs.Verdicts.{IsEarly}
use Rattle.set_split.specs.Involved.{involved_in}
use Rattle.set_split.specs.Seen.{numbered}
use Rattle.store_verdict.specs.Filing.{HasTexts, IsAsked}
use Rattle.store_verdict.specs.Preparing.{IsMade, IsRefused, IsRefusedSet, fault_of}
use Rattle.store_verdict.specs.PreparedView.{front_of, prepared_of}
use Rattle.store_verdict.specs.Seeing.{AreSeen, unseen}
use Rattle.store_verdict.specs.Wanting.{IsWanted}
use Rattle.store_verdict.specs.declared.faults.PrepareFault.{PrepareFault}
use Rattle.store_verdict.specs.declared.prepared.Prepared.{Prepared}
use Rattle.store_verdict.specs.declared.prepared.Seen.{Seen}
use Rattle.store_verdict.specs.declared.wanting.Wanted.{Wanted}
use Rattle.store_verdict.proofs.SetLemmas.{all-seen, not_fetched-is, seen-fronts, seen-mounts, set-is, touched-only, unseen-early}

module _ (formats : Formats) (store : Store) (handle : ℕ) (rec : Record) (parent : Name) (keys : KeyMap) (mounts : List ℕ) (involved : mounts ≡ involved_in (points_of store) parent) where
  abbrev the_set : model.Prepared
  the_set = prepared (points_of store) handle rec parent keys

  module _ (seen : List Seen) (are_seen : AreSeen rec mounts seen) (wanted : Wanted) (is_wanted : IsWanted (points_of store) rec parent keys wanted) where
    well_seen : AreSeen rec (involved_in (points_of store) parent) seen
    well_seen = subst (λ (ms : List ℕ). AreSeen rec ms seen) involved are_seen

    asked : IsAsked store mounts keys (numbered wanted.parts) the_set
    asked = record {
      fetched = not_fetched-is (points_of store) rec parent keys handle ∙ all-seen rec seen (involved_in (points_of store) parent) well_seen;
      involved = sym involved;
      keys_are = refl;
      parts_are = is_wanted.parts ∙ ap (over {B = ℕ × KeyMap} (λ m. (m, wants (points_of store) keys m))) (sym (touched-only (points_of store) rec parent keys));
    }

    pub made-from : (texts : List FileText)
        → (IsAsked store mounts keys (numbered wanted.parts) the_set → HasTexts formats store the_set texts)
        → IsMade formats store handle rec parent keys (record { handle = handle; committed = rec.committed; seen = seen; keys = keys; touched = wanted.touched; wanted = wanted.parts; changes = wanted.changes; aside = wanted.aside; texts = texts })
    made-from texts told =
        let has = told asked in
        let one : Prepared = record { handle = handle; committed = rec.committed; seen = seen; keys = keys; touched = wanted.touched; wanted = wanted.parts; changes = wanted.changes; aside = wanted.aside; texts = texts } in
        let same : prepared_of one ≡ the_set = set-is (points_of store) rec parent keys handle (over (λ s. s.mount) seen) (front_of seen) wanted.touched wanted.changes wanted.aside
        (seen-mounts rec seen (involved_in (points_of store) parent) well_seen) (seen-fronts rec seen (involved_in (points_of store) parent) well_seen) is_wanted.touched is_wanted.changes is_wanted.aside in
        record {
          is = same;
          early = subst (λ (s : model.Prepared). IsEarly formats store s None) (sym same) has.early;
          wanted = is_wanted.parts ∙ ap (over {B = ℕ × KeyMap} (λ m. (m, wants (points_of store) keys m))) (sym is_wanted.touched);
          texts = λ own. has.are ∙ ap (λ (ts : List ℕ). as_entry (texts_at formats store keys ts)) (touched-only (points_of store) rec parent keys ∙ sym is_wanted.touched);
        }

    pub refused-from : (why : PrepareFault)
        → (IsAsked store mounts keys (numbered wanted.parts) the_set → IsRefusedSet formats store the_set why)
        → IsRefused formats store handle rec parent keys why
    refused-from why told = told asked

  pub unfetched-from : (m : ℕ) (why : PrepareFault) → unseen rec mounts ≡ Some (NotFetched m)
      → fault_of store.mounts (NotFetched m) ≡ Some why → IsRefused formats store handle rec parent keys why
  unfetched-from m why none told = record {
    early = NotFetched m;
    refused = unseen-early formats store the_set (NotFetched m) (not_fetched-is (points_of store) rec parent keys handle ∙ ap (unseen rec) (sym involved) ∙ none);
    is = told;
  }
