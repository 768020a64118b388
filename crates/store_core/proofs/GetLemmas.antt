-- What each answer to a get leaves, as the definitions have it.
use Rattle.std.proofs.Common.{◌≡◌, ◌⊎◌, inl, inr, ℕ, Bool, true, false, cond, List, [], ◌∷◌, length, Option, Some, None, Ok, Err, refl, sym, ap, ap₂, subst, ◌∙◌}
use Rattle.std.specs.Option.{option_or}
use Rattle.general_words.specs.Searches.{first_some}
use Rattle.general_words.proofs.Lists.{some_is}
use Rattle.model_maps.specs.KeyMap.{KeyMap}
use Rattle.model_names.specs.Name.{Name}
use Rattle.model_store.specs.Cores.{keeping}
use Rattle.model_store.specs.Events.{Bad, Memory, first_bad, if_bad, put}
use Rattle.model_store.specs.Events as event
use Rattle.model_store.specs.Records as model
use Rattle.model_store.specs.Sets as sets
use Rattle.model_store.specs.Sets.{wants}
use Rattle.model_store.specs.Store.{Store, Formats, points_of}
use Rattle.mounted_files.specs.declared.files.MountedFile.{MountedFile}
use Rattle.mounted_files.specs.declared.refusals.GetFault.{GetFault}
use Rattle.mounted_files.specs.declared.refusals.GetFault.TheVariants as fault
use Rattle.set_split.specs.Involved.{involved_in}
use Rattle.store_core.specs.Cores.{core_with}
use Rattle.store_core.specs.Gets.{HasGot, fault_at}
use Rattle.store_core.specs.declared.cores.Core.{Core}
use Rattle.store_core.proofs.AnswerLemmas.{put-same}
use Rattle.store_verdict.specs.Gets.{Gets}
use Rattle.store_verdict.specs.RecordView.{handle_of, record_of}
use Rattle.store_verdict.specs.declared.records.Record.{Record}

-- the first bad mount is bad
pub bad_is : (store : Store) (m : ℕ) (ms : List ℕ) → first_some (if_bad store) ms ≡ Some m → store.is_bad m ≡ true
bad_is store m [] e = absurd cc
bad_is store m (n ∷ ms) e = by (store.is_bad n) refl e (bad_is store m ms)
  where
    by : (b : Bool) → store.is_bad n ≡ b → option_or (cond b (Some n) None) (first_some (if_bad store) ms) ≡ Some m
        → (first_some (if_bad store) ms ≡ Some m → store.is_bad m ≡ true) → store.is_bad m ≡ true
    by true is h rest = ap store.is_bad (sym (some_is n m h)) ∙ is
    by false is h rest = rest h

module _ (formats : Formats) (store : Store) (files : List MountedFile) {D P : Type 0} (core : Core D P) (records : ℕ → model.Record) (prepared : ℕ → Option sets.Prepared) (parent : Name) (old new : Record) (is : records (handle_of old) ≡ record_of old) where
  kept : record_of new ≡ record_of old
      → core_with core (put (handle_of old) (record_of new) records) prepared ≡ core_with core records prepared
  kept same =
      let each : (n : ℕ) → put (handle_of old) (record_of new) records n ≡ records n = put-same (handle_of old) (record_of new) records (is ∙ sym same) in
      λ i. record { history = core.history.commits; keys = core.keys; records = λ n. each n i; sets = prepared }

  pub keys_got : (front : ℕ) (keys : KeyMap) → front ≡ length core.history.commits
      → Gets store core.keys front parent old new keys
      → HasGot formats store files core records prepared parent old new (Ok (record { front = front; keys = keys }))
  keys_got front keys front_is gets =
      let moved : record_of new ≡ keeping (involved_in (points_of store) parent) (length core.history.commits) (wants (points_of store) core.keys) (records (handle_of old)) =
      gets.record_is ∙ ap₂ (λ (n : ℕ) (rec : model.Record). keeping (involved_in (points_of store) parent) n (wants (points_of store) core.keys) rec) front_is (sym is) in
      record {
        answer = event.Got front keys;
        is_answer = refl;
        made = record {
          good = gets.good;
          front_is = front_is;
          keys_are = gets.keys_are;
          next_is = λ i. record { history = core.history.commits; keys = core.keys; records = put (handle_of old) (moved i) records; sets = prepared };
        };
      }

  pub nothing_got : record_of new ≡ record_of old
      → HasGot formats store files core records prepared parent old new (Err fault.Memory)
  nothing_got same = record { answer = Memory; is_answer = inl (refl, refl); made = kept same }

  pub refused : (m : ℕ) (why : GetFault) → record_of new ≡ record_of old → first_bad store parent ≡ Some m
      → (why ≡ fault.Memory) ⊎ (fault_at files m ≡ Some why)
      → HasGot formats store files core records prepared parent old new (Err why)
  refused m why same bad (inl e) =
      subst (λ (w : GetFault). HasGot formats store files core records prepared parent old new (Err w)) (sym e) (nothing_got same)
  refused m why same bad (inr e) = record { answer = Bad m; is_answer = inr (m, e, refl); made = (bad, kept same) }
