-- A set that a record accepts is one that it makes.
use Rattle.std.proofs.Common.{◌≡◌, ℕ, true, List, ◌++◌, sym, subst, ◌∙◌}
use mathlib.Core.List.{IsPrefix}
use Rattle.kdb_handle.specs.Opened.{store_at}
use Rattle.kdb_handle.specs.Turns.{IsPrepared}
use Rattle.model_history.specs.History.{Commit}
use Rattle.model_maps.specs.KeyMap.{KeyMap}
use Rattle.model_names.specs.Name.{Name}
use Rattle.model_store.specs.Cores.{accepts}
use Rattle.model_store.specs.Records.{IsRecord, Record}
use Rattle.model_store.specs.Sets as sets
use Rattle.model_store.specs.Sets.{front_in, prepared}
use Rattle.model_store.specs.Store.{Formats, points_of}
use Rattle.model_store.proofs.Accepting.{accepted_record}
use Rattle.mounted_files.specs.declared.files.MountedFile.{MountedFile}
use Rattle.store_verdict.specs.Preparing.{IsMade}
use Rattle.store_verdict.specs.PreparedView.{prepared_of}
use Rattle.store_verdict.specs.declared.prepared.Prepared.{Prepared}

module _ (formats : Formats) (files : List MountedFile) (earlier later : List Commit) (number handle : ℕ) (before rec : Record) (parent : Name) (keys : KeyMap) (set : Prepared)
    (begins : IsPrefix earlier later) (was : IsRecord (store_at files) earlier handle (front_in before) before) (is : IsRecord (store_at files) later number (front_in rec) rec)
    (made : IsMade formats (store_at files) handle before parent keys set) (ok : accepts rec number (prepared_of set) ≡ true) where
  accepted : accepts rec number (prepared (points_of (store_at files)) handle before parent keys) ≡ true
  accepted = subst (λ (s : sets.Prepared). accepts rec number s ≡ true) made.is ok

  is_longer : IsRecord (store_at files) (earlier ++ begins.0) number (front_in rec) rec
  is_longer = subst (λ (l : List Commit). IsRecord (store_at files) l number (front_in rec) rec) (sym begins.1) is

  same_set : prepared (points_of (store_at files)) handle before parent keys
      ≡ prepared (points_of (store_at files)) number rec parent keys
  same_set =
      accepted_record (store_at files) earlier begins.0 number handle (front_in before) (front_in rec) before rec parent keys was is_longer accepted

  pub still_prepared : IsPrepared formats files number rec set
  still_prepared =
      record {
        parent = parent;
        keys = keys;
        made = record { is = made.is ∙ same_set; early = made.early; wanted = made.wanted; texts = made.texts };
      }
