-- In its turn a handle's record and its set belong to the core.
use Rattle.std.proofs.Common.{◌≡◌, ◌≤◌, ℕ, true, List, length, map as over, Option, Some, refl, sym, ap, ap₂, subst, ◌∙◌, arith}
use Rattle.std.proofs.lemmas.List.{length-map, take_all}
use Rattle.std.specs.Coded.{Coded}
use Rattle.kdb_outside.specs.declared.disks.Disk.{Ghosts}
use Rattle.kdb_handle.specs.Opened.{store_at}
use Rattle.kdb_handle.specs.Story.{Told, commits_of}
use Rattle.kdb_handle.specs.Turns.{MayCommit}
use Rattle.kdb_handle.proofs.RecordLemmas.{record-none}
use Rattle.model_store.proofs.Accepting.{accepts-own, put-here}
use Rattle.model_files.specs.Files.{HaveFiles}
use Rattle.model_history.specs.History.{Commit, replay}
use Rattle.model_maps.specs.KeyMap.{no_keys}
use Rattle.model_store.specs.Cores.{accepts}
use Rattle.model_store.specs.Events.{put}
use Rattle.model_store.specs.Legal.{IsLegal}
use Rattle.model_store.specs.Sound.{IsSound}
use Rattle.model_store.specs.Records as model
use Rattle.model_store.specs.Records.{Fronts, IsRecord, no_fronts}
use Rattle.model_store.specs.Sets as sets
use Rattle.model_store.specs.Sets.{front_in, prepared}
use Rattle.model_store.specs.Store.{Formats, points_of}
use Rattle.model_store.specs.Worlds.{World}
use Rattle.model_store.proofs.Kept.{put-each, record-whole}
use Rattle.mounted_files.specs.Visible.{visible_keys}
use Rattle.mounted_files.specs.declared.files.MountedFile.{MountedFile}
use Rattle.store_core.specs.Cores.{StandsIn}
use Rattle.store_core.specs.Joined.{BelongsIn, IsReady}
use Rattle.store_core.specs.declared.cores.Core.{Core}
use Rattle.store_core.proofs.MadeLemmas.{belongs_made}
use Rattle.store_verdict.specs.PreparedView.{prepared_of}
use Rattle.store_verdict.specs.RecordView.{handle_of, record_of}
use Rattle.store_verdict.specs.declared.prepared.Prepared.{Prepared}
use Rattle.store_verdict.specs.declared.records.Record.{Record}

module _ (formats : Formats) {D P : Type 0} (g : Ghosts D) (code : Coded D) (refused : P → ℕ) (files : List MountedFile) (core : Core D P) (entries : ℕ) (log : List Told) (rec : Record) (set : Prepared) (may : MayCommit formats g code refused files core entries log rec set) where
  abbrev pub history : List Commit
  history = commits_of log

  -- of all handles the core asks for this one alone; the others have fetched nothing
  abbrev pub others : ℕ → model.Record
  others n = model.record_of (store_at files) history n no_fronts

  abbrev pub records : ℕ → model.Record
  records = put (handle_of rec) (record_of rec) others

  abbrev pub known : ℕ → Option sets.Prepared
  known p = Some (prepared_of set)

  abbrev pub world : World
  world = record {
    history = history;
    fronts = put (handle_of rec) (front_in (record_of rec)) (λ n. no_fronts);
    asked = λ p. Some (record { handle = handle_of rec; fronts = front_in (record_of rec); found = length history; parent = may.prepared.parent; keys = may.prepared.keys });
  }

  pub rest_is : commits_of may.shared.rest ≡ history
  rest_is = sym (ap commits_of may.shared.log_is)

  whole : length history ≤ length history
  whole = omega arith

  -- what the record of the handle makes of a history
  abbrev set_in : List Commit → sets.Prepared
  set_in found =
      sets.set_of (store_at files) found (handle_of rec) (front_in (record_of rec)) may.prepared.parent may.prepared.keys

  set_is : prepared_of set
      ≡ prepared (points_of (store_at files)) (handle_of rec) (model.record_of (store_at files) history (handle_of rec) (front_in (record_of rec))) may.prepared.parent may.prepared.keys
  set_is =
      may.prepared.made.is
      ∙ ap (λ (f : model.Record). prepared (points_of (store_at files)) (handle_of rec) f may.prepared.parent may.prepared.keys) (record-whole (store_at files) history (handle_of rec) (front_in (record_of rec)) (record_of rec) may.keeps)

  pub stands_in : StandsIn formats (store_at files) core records known world
  stands_in = record {
    files = subst (λ (fs : List MountedFile). HaveFiles (over (λ file. file.mount) fs)) may.opening may.shared.files;
    start = may.shared.start ∙ ap visible_keys may.opening;
    stands = record {
      history = may.shared.history ∙ rest_is;
      keys = may.shared.keys ∙ ap₂ (λ (fs : List MountedFile) (cs : List Commit). replay (visible_keys fs) cs) may.opening rest_is;
      sound = subst (λ (fs : List MountedFile). IsSound formats (store_at fs)) may.opening may.shared.sound;
      legal = subst (λ (cs : List Commit). IsLegal formats (store_at files) cs) rest_is (subst (λ (fs : List MountedFile). IsLegal formats (store_at fs) (commits_of may.shared.rest)) may.opening may.shared.legal);
      records =
          put-each (λ (n : ℕ) (f : Fronts) (r : model.Record). IsRecord (store_at files) history n f r) (handle_of rec) (front_in (record_of rec)) (record_of rec) (λ n. no_fronts) others may.keeps
          (λ n other. record-none (store_at files) history n);
      sets = λ p. record { found = whole; within = may.keeps.within; is = set_is ∙ ap set_in (sym (take_all (length history) history whole)); passed = may.prepared.made.early };
    };
  }

  pub belongs_in : BelongsIn formats (store_at files) core records known world 0 rec set
  belongs_in =
      belongs_made formats (store_at files) core records known world 0 rec set (handle_of rec) (record_of rec) may.prepared.parent may.prepared.keys stands_in
      (put-here (handle_of rec) (record_of rec) others) (omega (arith, length-map files (λ (file : MountedFile). file.mount), may.places)) refl
      (subst (λ (s : sets.Prepared). accepts (record_of rec) (handle_of rec) s ≡ true) (sym may.prepared.made.is) (accepts-own (points_of (store_at files)) (handle_of rec) (record_of rec) may.prepared.parent may.prepared.keys))
      may.prepared.made

  pub is_ready : IsReady formats files core rec set
  is_ready =
      record { procs = λ r. no_keys; records = records; made = known; world = world; number = 0; belongs = belongs_in }
