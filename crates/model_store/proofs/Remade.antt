-- The texts of the files that a set touches can be made anew of the map after it, where nothing blocks it; those of
-- mounts by their backends are the ones that were wanted.
use Rattle.std.proofs.Common.{◌≡◌, ℕ, true, false, Option, Some, None, sym, ap, subst, ◌∙◌}
use Rattle.model_history.specs.Changes.{after}
use Rattle.model_history.specs.History.{replay}
use Rattle.model_maps.specs.KeyMap.{KeyMap}
use Rattle.model_store.specs.Cores.{Core, accepts}
use Rattle.model_store.specs.Fitting.{IsStorableAt, too_heavy}
use Rattle.model_store.specs.Promise.{IsSet, Stands}
use Rattle.model_store.specs.Records.{IsRecord, Record, record_of}
use Rattle.model_store.specs.Remaking.{CanRemake}
use Rattle.model_store.specs.Sets.{Prepared, wants}
use Rattle.model_store.specs.Store.{Store, Formats, counts_keys, points_of}
use Rattle.model_store.specs.Verdicts.{conflict}
use Rattle.model_store.specs.Worlds.{World, set_now}
use Rattle.model_store.proofs.Committing.{backend_fits, short_after, storable_after, stored_at}
use Rattle.model_store.proofs.Judged.{HasPassed, has_passed}
use Rattle.model_store.proofs.Kept.{record-own, record-whole}
use Rattle.model_store.proofs.Members.{all_among}
use Rattle.model_store.proofs.Present.{IsPresent, present_set}

-- the set of a number of a core that stands for a world, where its handle's record accepts it
module _ (formats : Formats) (store : Store) (world : World) (core : Core) (st : Stands formats store world core) (r p : ℕ) (set : Prepared) (is_set : core.sets p ≡ Some set) (ok : accepts (core.records r) r set ≡ true) where
  -- it is the set of what was asked, now
  pub present : IsPresent formats store world r p set
  present =
      present_set formats store world r p set (subst (λ (o : Option Prepared). IsSet formats store world.history (world.asked p) o) is_set (st.sets p))
      (ap (λ (rec : Record). accepts rec r set) (sym (record-whole store world.history r (world.fronts r) (core.records r) (st.records r))) ∙ ok)

  abbrev now : Prepared
  now = set_now store world r present.asked.parent present.asked.keys

  record_now : IsRecord store world.history r (world.fronts r) (record_of store world.history r (world.fronts r))
  record_now = let known = st.records r in record-own store world.history r (world.fronts r) known.within known.good

  passed : HasPassed formats store (set_now store world r present.asked.parent present.asked.keys)
  passed = has_passed formats store (set_now store world r present.asked.parent present.asked.keys) present.early

  remake_now : conflict store world.history (set_now store world r present.asked.parent present.asked.keys) ≡ None
      → CanRemake formats store (replay store.start world.history) (set_now store world r present.asked.parent present.asked.keys)
  remake_now free = record {
    storable =
        all_among (IsStorableAt formats store (wants (points_of store) (after (replay store.start world.history) now.changes))) now.touched
        (storable_after formats store world.history r (world.fronts r) present.asked.parent present.asked.keys record_now st.legal.each passed free st.sound);
    short = short_after formats store world.history r (world.fronts r) present.asked.parent present.asked.keys record_now st.legal.each passed free st.sound;
    light =
        all_among (λ m. counts_keys store m ≡ false → too_heavy store (wants (points_of store) (after (replay store.start world.history) now.changes)) m ≡ None) now.touched
        (λ m among backend. let fits = backend_fits formats store world.history r (world.fronts r) present.asked.parent present.asked.keys record_now st.legal.each passed free m among backend in fits.light);
    wanted = stored_at formats store world.history r (world.fronts r) present.asked.parent present.asked.keys record_now st.legal.each passed free;
  }

  pub can_remake : conflict store core.history set ≡ None → CanRemake formats store core.keys set
  can_remake free =
      let free_now : conflict store world.history (set_now store world r present.asked.parent present.asked.keys) ≡ None =
      sym (ap (λ commits. conflict store commits set) st.history ∙ ap (conflict store world.history) present.is) ∙ free in
      subst (λ (keys : KeyMap). CanRemake formats store keys set) (sym st.keys)
      (subst (λ (s : Prepared). CanRemake formats store (replay store.start world.history) s) (sym present.is) (remake_now free_now))
