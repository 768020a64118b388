-- What a get gives the handle of a command, and what its record keeps then.
use Rattle.std.proofs.Common.{◌≡◌, ◌⊎◌, ◌≤◌, inl, inr, ℕ, Bool, true, false, cond, List, length, Option, Some, None, option_and_then, Result, Ok, Err, refl, sym, ap, ap₂, subst, ◌∙◌, arith}
use Rattle.std.specs.FinMap as map
use Rattle.std.specs.List.{sum_by}
use Rattle.general_words.specs.Memory.{UnlessMemory}
use Rattle.key_set.specs.WithAll.{with_all}
use Rattle.model_maps.specs.KeyMap.{KeyMap, heaviest_map, no_keys, weight}
use Rattle.model_maps.specs.Limits.{IsLimited}
use Rattle.model_names.specs.Name.{Name}
use Rattle.model_store.specs.Cores as cores
use Rattle.model_store.specs.Cores.{keeping}
use Rattle.model_store.specs.Events as event
use Rattle.model_store.specs.Events.{first_bad, put, shows_proc}
use Rattle.model_store.specs.Records as model
use Rattle.model_store.specs.Sets as sets
use Rattle.model_store.specs.Sets.{wants}
use Rattle.model_store.specs.Records.{no_record}
use Rattle.model_store.specs.Store.{points_of}
use Rattle.model_store.specs.Worlds.{first_world}
use Rattle.model_store.proofs.Members.{itself_number}
use Rattle.mounted_files.specs.Short.{HaveShortTexts}
use Rattle.mounted_files.specs.Sound.{AreSound}
use Rattle.mounted_files.specs.Weighed.{visible_weight}
use Rattle.mounted_files.specs.Whole.{relative}
use Rattle.mounted_files.specs.declared.files.MountedFile.{MountedFile}
use Rattle.mounted_files.specs.declared.refusals.GetFault.{GetFault}
use Rattle.mounted_files.specs.declared.refusals.GetFault.TheVariants as fault
use Rattle.mounted_files.proofs.ChangeLemmas.{short-kept}
use Rattle.mounted_files.proofs.LightLemmas.{kept-weight, limited-below, visible-light, visible-short}
use Rattle.set_split.specs.Involved.{involved_in}
use Rattle.set_split.specs.Parts.{in_reach, is_reached}
use Rattle.store_core.specs.Cores.{StandsIn, core_with}
use Rattle.store_core.specs.Gets.{HasGot, fault_at}
use Rattle.store_core.specs.declared.cores.Core.{Core}
use Rattle.store_core.specs.declared.getting.Got.{Got}
use Rattle.store_core.proofs.VisibleLemmas.{with_none}
use Rattle.store_verdict.specs.RecordView.{handle_of, places_of, record_of}
use Rattle.store_verdict.specs.declared.records.Record.{Record}
use Rattle.tool_single.specs.Alone.{got_alone, store_alone, the_handle, unless_bad}
use Rattle.tool_single.specs.Serving.{HasFetched, IsNew}
use Rattle.tool_single.specs.Sets.{formats}

module _ (files : List MountedFile) (parent : Name) where
  -- the keys that a get gives where no mount is bad
  abbrev gets : KeyMap
  gets = event.got (store_alone files) (store_alone files).start the_handle parent

  pub alone-good : first_bad (store_alone files) parent ≡ None → got_alone files parent ≡ Ok gets
  alone-good good = ap (λ (o : Option ℕ). unless_bad (option_and_then (fault_at files) o) gets) good

  pub alone-bad : (m : ℕ) (why : GetFault) → first_bad (store_alone files) parent ≡ Some m → fault_at files m ≡ Some why
      → got_alone files parent ≡ Err why
  alone-bad m why bad is =
      ap (λ (o : Option GetFault). unless_bad o gets) (ap (option_and_then (fault_at files)) bad ∙ is)

  -- they are the visible keys in reach, since the handle has none in `proc`
  alone-reached : gets ≡ in_reach (points_of (store_alone files)) parent (store_alone files).start
  alone-reached = by (shows_proc parent.namespace)
    where
      reached : KeyMap
      reached = in_reach (points_of (store_alone files)) parent (store_alone files).start

      by : (b : Bool) → cond b (with_all no_keys reached) reached ≡ reached
      by true = with_none reached
      by false = refl

  -- at or below the parent they are within the limits of a file
  pub alone-limited : (keys found : KeyMap) → HaveShortTexts files
      → sum_by (λ file. visible_weight file.state) files ≤ heaviest_map → got_alone files parent ≡ Ok keys
      → found ≡ relative parent keys → AreSound parent found → IsLimited found
  alone-limited keys found short light got is sound =
      let visible = (store_alone files).start in
      let reached = is_reached (points_of (store_alone files)) parent in
      let ways : found ≡ relative parent (map.retain_keys visible reached) = is ∙ ap (relative parent) (by (option_and_then (fault_at files) (first_bad (store_alone files) parent)) got ∙ alone-reached) in
      let few : weight (map.retain_keys visible reached) ≤ heaviest_map = omega (arith, kept-weight visible reached, visible-light files light) in
      subst (λ (k : KeyMap). IsLimited k) (sym ways)
      (limited-below parent (map.retain_keys visible reached) (short-kept visible reached (visible-short files short)) few (subst (λ (k : KeyMap). AreSound parent k) ways sound))
    where
      by : (o : Option GetFault) → unless_bad o gets ≡ Ok keys → keys ≡ gets
      by None e = cc
      by (Some why) e = absurd cc

-- ---- the answer to the get

module _ {D P : Type 0} (files : List MountedFile) (core : Core D P) (parent : Name) (old new : Record) (here : StandsIn formats (store_alone files) core (λ r. no_record) (λ p. None) first_world) (is_new : IsNew files old)
    (handle : handle_of new ≡ handle_of old) (places : places_of new ≡ places_of old) where
  abbrev no_records : ℕ → model.Record
  no_records r = no_record

  abbrev no_sets : ℕ → Option sets.Prepared
  no_sets p = None

  abbrev HasGotAlone : Result Got GetFault → Type 0
  HasGotAlone result = HasGot formats (store_alone files) files core no_records no_sets parent old new result

  keys_are : core.keys ≡ (store_alone files).start
  keys_are = here.stands.keys

  abbrev MadeAs : event.Answer → Type 0
  MadeAs answer =
      cores.Made formats (store_alone files) (core_with core no_records no_sets) (event.Get (handle_of old) parent) answer (core_with core (put (handle_of old) (record_of new) no_records) no_sets)

  pub fetched : (got_keys : Got) → HasGotAlone (Ok got_keys) → HasFetched files parent new
  fetched got_keys has =
      let made = subst MadeAs has.is_answer has.made in
      let moved : put (handle_of old) (record_of new) no_records (handle_of old) ≡ put (handle_of old) (keeping (involved_in (points_of (store_alone files)) parent) (length core.history.commits) (wants (points_of (store_alone files)) core.keys) (no_records (handle_of old))) no_records (handle_of old) = ap (λ (c : cores.Core). c.records (handle_of old)) made.next_is in
      record {
        good = made.good;
        handle = handle ∙ is_new.handle;
        is = sym (itself (record_of new)) ∙ moved ∙ itself _ ∙ ap₂ (λ (n : ℕ) (k : KeyMap). keeping (involved_in (points_of (store_alone files)) parent) n (wants (points_of (store_alone files)) k) no_record) (ap length here.stands.history) keys_are;
        places = places ∙ is_new.places;
      }
    where
      itself : (rec : model.Record) → put (handle_of old) rec no_records (handle_of old) ≡ rec
      itself rec = ap (λ b. cond b rec (no_records (handle_of old))) (itself_number (handle_of old))

  pub keys_shown : (got_keys : Got) → HasGotAlone (Ok got_keys) → got_alone files parent ≡ Ok got_keys.keys
  keys_shown got_keys has =
      let made = subst MadeAs has.is_answer has.made in
      alone-good files parent made.good
      ∙ ap Ok (sym (made.keys_are ∙ ap₂ (λ (k : KeyMap) (h : ℕ). event.got (store_alone files) k h parent) keys_are is_new.handle))

  pub fault_shown : (why : GetFault) → HasGotAlone (Err why)
      → UnlessMemory fault.Memory (got_alone files parent ≡ Err why) why
  fault_shown why has = λ no_memory. by has.is_answer no_memory
    where
      by : ((why ≡ fault.Memory) × (has.answer ≡ event.Memory))
          ⊎ ((m : ℕ) × (fault_at files m ≡ Some why) × (has.answer ≡ event.Bad m))
          → (why ≡ fault.Memory → ⊥) → got_alone files parent ≡ Err why
      by (inl memory) no_memory = absurd (no_memory memory.0)
      by (inr bad) no_memory = alone-bad files parent bad.0 why (subst MadeAs bad.2 has.made).0 bad.1
