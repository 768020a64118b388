-- A prepared set that its record accepts may be committed.
use Rattle.std.proofs.Common.{◌≡◌, ℕ, ◌≤◌, true, length, map as over, Option, Some, sym, ap, ◌∙◌}
use Rattle.model_files.specs.Texts.{as_entry, texts_at}
use Rattle.model_maps.specs.KeyMap.{KeyMap}
use Rattle.model_names.specs.Name.{Name}
use Rattle.model_store.specs.Cores.{accepts}
use Rattle.model_store.specs.Records as model
use Rattle.model_store.specs.Sets as sets
use Rattle.model_store.specs.Sets.{wants}
use Rattle.model_store.specs.Store.{Store, Formats, points_of}
use Rattle.model_store.specs.Worlds.{World}
use Rattle.store_core.specs.Cores.{StandsIn}
use Rattle.store_core.specs.Joined.{BelongsIn}
use Rattle.store_core.specs.declared.cores.Core.{Core}
use Rattle.store_verdict.specs.Preparing.{IsMade}
use Rattle.store_verdict.specs.PreparedView.{prepared_of}
use Rattle.store_verdict.specs.RecordView.{handle_of, places_of, record_of}
use Rattle.store_verdict.specs.declared.prepared.Prepared.{Prepared}
use Rattle.store_verdict.specs.declared.records.Record.{Record}

pub belongs_made : (formats : Formats) {D P : Type 0} (store : Store) (core : Core D P) (records : ℕ → model.Record)
    (made : ℕ → Option sets.Prepared) (world : World) (p : ℕ) (rec : Record) (set : Prepared) (handle : ℕ)
    (before : model.Record) (parent : Name) (keys : KeyMap)
    → StandsIn formats store core records made world → records (handle_of rec) ≡ record_of rec
    → length store.mounts ≤ places_of rec → made p ≡ Some (prepared_of set)
    → accepts (record_of rec) (handle_of rec) (prepared_of set) ≡ true
    → IsMade formats store handle before parent keys set → BelongsIn formats store core records made world p rec set
belongs_made formats store core records made world p rec set handle before parent keys stands record_is places set_is accepted is_made =
    let same : keys ≡ set.keys = sym (ap (λ (s : sets.Prepared). s.keys) is_made.is) in
    record {
      stands = stands;
      record_is = record_is;
      places = places;
      set_is = set_is;
      accepted = accepted;
      wanted = is_made.wanted ∙ ap (λ (k : KeyMap). over (λ m. (m, wants (points_of store) k m)) set.touched) same;
      texts = is_made.texts stands.files.own ∙ ap (λ (k : KeyMap). as_entry (texts_at formats store k set.touched)) same;
    }
