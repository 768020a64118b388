-- What each event leaves, from the clause of its call.
use Rattle.std.proofs.Common.{◌≡◌, ◌≢◌, inl, inr, ℕ, ◌<◌, ◌≤◌, Bool, true, false, cond, nat_eq, List, length, slice_get, Option, Some, None, option_and_then, Result, Ok, Err, IfOk, IfErr, OnErr, get_or, refl, sym, ap, ap₂, subst, ◌∙◌, eqb-true, arith}
use Rattle.std.proofs.lemmas.List.{length-map, length-set, set-get_or}
use Rattle.std.proofs.lemmas.Option.{slice_get-get_or}
use Rattle.std.proofs.Math.ListN.{set}
use Rattle.std.specs.Option.{option_map, option_map_or}
use Rattle.general_words.proofs.Lists.{some_is}
use Rattle.general_words.specs.Memory.{UnlessMemory}
use Rattle.kdb_outside.specs.declared.disks.Disk.{Ghosts}
use Rattle.model_crashes.specs.Runs.{Run}
use Rattle.model_maps.specs.KeyMap.{KeyMap}
use Rattle.model_names.specs.Name.{Name}
use Rattle.model_store.proofs.Accepting.{put-here}
use Rattle.model_store.specs.Cores as cores
use Rattle.model_store.specs.Cores.{Made, accepts, set_made}
use Rattle.model_store.specs.Events as event
use Rattle.model_store.specs.Events.{put}
use Rattle.model_store.specs.Records as model
use Rattle.model_store.specs.Sets as sets
use Rattle.model_store.specs.Store.{Store, Formats, points_of, store_of}
use Rattle.model_store.specs.Verdicts.{IsEarly}
use Rattle.model_store.specs.Worlds.{World}
use Rattle.model_store.proofs.Owning.{follows}
use Rattle.mounted_files.specs.declared.files.MountedFile.{MountedFile}
use Rattle.mounted_files.specs.declared.refusals.GetFault.{GetFault}
use Rattle.store_core.specs.Committing.{IsCommitted, RunsOn}
use Rattle.store_core.specs.Cores.{core_with}
use Rattle.store_core.specs.Gets.{HasGot}
use Rattle.store_core.specs.Joined.{Belongs, BelongsIn, HasAnswered}
use Rattle.store_core.specs.declared.committing.CommitFault.{CommitFault}
use Rattle.store_core.specs.declared.committing.Done.{Done}
use Rattle.store_core.specs.declared.cores.Core.{Core}
use Rattle.store_core.specs.declared.getting.Got.{Got}
use Rattle.store_core.proofs.CommitLemmas.{stands_committed}
use Rattle.store_core.proofs.MadeLemmas.{belongs_made}
use Rattle.store_play.specs.Handles.{Holds, IsHandle, AreHandles, IsHeld, AreHeld, records_of, held_at, held_in}
use Rattle.store_play.specs.Plays.{Stepped, IsKeptBack, IsSkipped}
use Rattle.store_play.specs.Stages.{stage_of, Stage}
use Rattle.store_play.specs.declared.events.Answer.TheVariants as told
use Rattle.store_play.specs.declared.events.Event.{Event}
use Rattle.store_play.specs.declared.events.Event.TheVariants as asked
use Rattle.store_play.specs.declared.events.Skip.{Skip}
use Rattle.store_play.specs.declared.events.Skip.TheVariants as skip
use Rattle.store_play.proofs.PlaceLemmas.{set-cases, records_of-set, held_in-set}
use Rattle.store_verdict.specs.Preparing.{IsMade, IsRefused}
use Rattle.store_verdict.specs.PreparedView.{prepared_of}
use Rattle.store_verdict.specs.RecordView.{handle_of, places_of, proc_of, record_of}
use Rattle.store_verdict.specs.declared.faults.PrepareFault.{PrepareFault}
use Rattle.store_verdict.specs.declared.faults.PrepareFault.TheVariants as fault
use Rattle.store_verdict.specs.declared.prepared.Prepared.{Prepared}
use Rattle.store_verdict.specs.declared.records.Record.{Record}

-- a record moved and is still that of its handle
pub record Moves (old new : Record) : Type 0 where
  pub handle : handle_of new ≡ handle_of old
  pub places : places_of new ≡ places_of old
  pub proc : proc_of new ≡ proc_of old

-- a get writes nothing
reads_on : (formats : Formats) (store : Store) (core next : cores.Core) (run : Run) (r : ℕ) (parent : Name)
    (answer : event.Answer) → Made formats store core (event.Get r parent) answer next
    → RunsOn formats store core.keys run None answer run
reads_on formats store core next run r parent event.Memory made = refl
reads_on formats store core next run r parent (event.Bad m) made = refl
reads_on formats store core next run r parent (event.Got front keys) made = refl
reads_on formats store core next run r parent (event.Refused why) made = absurd made
reads_on formats store core next run r parent event.Ready made = absurd made
reads_on formats store core next run r parent (event.Judged front late) made = absurd made
reads_on formats store core next run r parent (event.Failed front) made = absurd made

put-other : (n m : ℕ) (o : Option sets.Prepared) (f : ℕ → Option sets.Prepared) → m ≢ n → put n o f m ≡ f m
put-other n m o f ne = elim (nat_eq m n) as (λ b. nat_eq m n ≡ b → cond b o (f m) ≡ f m) [
  | true ↦ λ e. absurd (ne (eqb-true m n e))
  | false ↦ λ e. refl
] refl

module _ (formats : Formats) {D P : Type 0} (g : Ghosts D) (files : List MountedFile) (procs : ℕ → KeyMap) (opened : D) (core : Core D P) (records : List Record) (places : List (Option Prepared)) (known : ℕ → Option sets.Prepared) (world : World) (run : Run)
    (h : Holds formats g files procs opened core records places known world run) where
  abbrev store : Store
  store = store_of files procs

  abbrev first : Stage
  first = stage_of core records places known run

  pub skipped : (event : Event) (why : Skip) → IsSkipped first event why
      → Stepped formats g files procs opened first event (told.Skipped why) core records places
  skipped event why is = record { known = known; world = world; run = run; does = (is, refl); holds = h }

  -- a record stands in its place
  pub record_at : (r : ℕ) (rec : Record) → slice_get records r ≡ Some rec → records_of records r ≡ record_of rec
  record_at r rec there = ap (λ (o : Option Record). option_map_or record_of o model.no_record) there

  pub record_is : (r : ℕ) (rec : Record) → slice_get records r ≡ Some rec
      → records_of records (handle_of rec) ≡ record_of rec
  record_is r rec there = ap (records_of records) (h.handles r rec there).number ∙ record_at r rec there

  moved : (r : ℕ) (old new : Record) → slice_get records r ≡ Some old → r < length records → Moves old new
      → AreHandles files procs (set records r new)
  moved r old new there lt moves n rec =
      set-cases (λ (o : Option Record). o ≡ Some rec → IsHandle (length files) procs n rec) records r n new lt
      (λ same e.
      let is = h.handles r old there in
      subst (λ (x : Record). IsHandle (length files) procs n x) (some_is new rec e) (record {
        number = moves.handle ∙ is.number ∙ sym same;
        places = subst (λ k. length files ≤ k) (sym moves.places) is.places;
        proc = ap procs same ∙ is.proc ∙ sym moves.proc;
      }))
      (λ other e. h.handles n rec e)

  -- ---- a get

  pub got : (r : ℕ) (parent : Name) (old new : Record) (result : Result Got GetFault) → slice_get records r ≡ Some old
      → r < length records → Moves old new
      → HasGot formats store files core (records_of records) known parent old new result
      → Stepped formats g files procs opened first (asked.Get r parent) (told.Got result) core (set records r new) places
  got r parent old new result there lt moves has =
      let number : handle_of old ≡ r = (h.handles r old there).number in
      let next : cores.Core = core_with core (records_of (set records r new)) known in
      let made : Made formats store first.core (event.Get r parent) has.answer next =
      subst (λ (c : cores.Core). Made formats store first.core (event.Get r parent) has.answer c) (ap (λ (rs : ℕ → model.Record). core_with core rs known) (records_of-set records r new lt))
      (subst (λ n. Made formats store first.core (event.Get n parent) has.answer (core_with core (put n (record_of new) (records_of records)) known)) number has.made) in
      let goes = follows formats store world first.core (event.Get r parent) has.answer next h.stands.here.stands made in
      record {
        known = known;
        world = goes.after;
        run = run;
        does = record {
          answer = has.answer;
          tells = has.is_answer;
          made = made;
          runs_on = reads_on formats store first.core next run r parent has.answer made;
          held = refl;
          handles = length-set records r new;
          places = refl;
        };
        holds = record {
          stands = record { here = record { files = h.stands.here.files; start = h.stands.here.start; stands = goes.stands }; on_disk = h.stands.on_disk; names = h.stands.names; entries = h.stands.entries };
          handles = moved r old new there lt moves;
          held = h.held;
        };
      }

  -- ---- a prepare

  module _ (r p : ℕ) (parent : Name) (keys : KeyMap) (rec : Record) (there : slice_get records r ≡ Some rec) where
    -- the set of the handle's record is that of its number
    set_is : sets.prepared (points_of store) (handle_of rec) (record_of rec) parent keys
        ≡ set_made store first.core r parent keys
    set_is =
        ap₂ (λ (n : ℕ) (x : model.Record). sets.prepared (points_of store) n x parent keys) (h.handles r rec there).number (sym (record_at r rec there))

    pub readied : (done : Unit {0}) (new : Prepared) → p < length places
        → IsMade formats store (handle_of rec) (record_of rec) parent keys new
        → Stepped formats g files procs opened first (asked.Prepare r p parent keys) (told.Prepared (Ok done)) core records (set places p (Some new))
    readied done new lt is_made =
        let is : prepared_of new ≡ set_made store first.core r parent keys = is_made.is ∙ set_is in
        let later : ℕ → Option sets.Prepared = put p (Some (prepared_of new)) known in
        let next : cores.Core = core_with core (records_of records) later in
        let made : Made formats store first.core (event.Prepare r p parent keys) event.Ready next = record {
          early = subst (λ (s : sets.Prepared). IsEarly formats store s None) is is_made.early;
          next_is = ap (λ (s : sets.Prepared). core_with core (records_of records) (put p (Some s) known)) is;
        } in
        let goes = follows formats store world first.core (event.Prepare r p parent keys) event.Ready next h.stands.here.stands made in
        record {
          known = later;
          world = goes.after;
          run = run;
          does = record {
            answer = event.Ready;
            tells = refl;
            made = made;
            runs_on = refl;
            held = sym (held_in-set places p (Some new) lt) ∙ ap (λ (o : Option sets.Prepared). put p o (held_in places)) (sym (put-here p (Some (prepared_of new)) known));
            handles = refl;
            places = length-set places p (Some new);
          };
          holds = record {
            stands = record { here = record { files = h.stands.here.files; start = h.stands.here.start; stands = goes.stands }; on_disk = h.stands.on_disk; names = h.stands.names; entries = h.stands.entries };
            handles = h.handles;
            held = held_with new lt is_made;
          };
        }
      where
        held_with : (new : Prepared) → p < length places
            → IsMade formats store (handle_of rec) (record_of rec) parent keys new
            → AreHeld formats store (put p (Some (prepared_of new)) known) (set places p (Some new))
        held_with new lt is_made n one =
            set-cases (λ (o : Option (Option Prepared)). option_and_then (λ s. s) o ≡ Some one → IsHeld formats store (put p (Some (prepared_of new)) known n) one) places p n (Some new) lt
            (λ same e. subst (λ (x : Prepared). IsHeld formats store (put p (Some (prepared_of new)) known n) x) (some_is new one e) (record {
              is = ap (put p (Some (prepared_of new)) known) same ∙ put-here p (Some (prepared_of new)) known;
              was_made = record { handle = handle_of rec; before = record_of rec; parent = parent; keys = keys; made = is_made };
            }))
            (λ other e. subst (λ (o : Option sets.Prepared). IsHeld formats store o one) (sym (put-other p n (Some (prepared_of new)) known other)) (h.held n one e))

    -- a set that isn't prepared changes nothing
    unready_for : (why : PrepareFault) → IsRefused formats store (handle_of rec) (record_of rec) parent keys why
        → Stepped formats g files procs opened first (asked.Prepare r p parent keys) (told.Prepared (Err why)) core records places
    unready_for why refused = record {
      known = known;
      world = world;
      run = run;
      does = record {
        answer = event.Refused refused.early;
        tells = inr (refused.early, refused.is, refl);
        made = record { early = subst (λ (s : sets.Prepared). IsEarly formats store s (Some refused.early)) set_is refused.refused; next_is = refl };
        runs_on = refl;
        held = refl;
        handles = refl;
        places = refl;
      };
      holds = h;
    }

    pub unready : (why : PrepareFault)
        → UnlessMemory fault.Memory (IsRefused formats store (handle_of rec) (record_of rec) parent keys why) why
        → Stepped formats g files procs opened first (asked.Prepare r p parent keys) (told.Prepared (Err why)) core records places
    unready (fault.NotFetched mount) refused = unready_for (fault.NotFetched mount) (refused (λ e. cc))
    unready (fault.ValueTooLong key bytes) refused = unready_for (fault.ValueTooLong key bytes) (refused (λ e. cc))
    unready (fault.NotStorable mount key) refused = unready_for (fault.NotStorable mount key) (refused (λ e. cc))
    unready (fault.FileTooLarge mount bytes) refused = unready_for (fault.FileTooLarge mount bytes) (refused (λ e. cc))
    unready (fault.BadTable why) refused = unready_for (fault.BadTable why) (refused (λ e. cc))
    unready fault.Memory refused = record {
      known = known;
      world = world;
      run = run;
      does = record { answer = event.Memory; tells = inl (refl, refl); made = refl; runs_on = refl; held = refl; handles = refl; places = refl };
      holds = h;
    }

    -- what became of a prepare, by its answer
    pub prepared_so : (result : Result (Unit {0}) PrepareFault) (place d : Option Prepared) → p < length places
        → IfOk result (λ done. (new : Prepared) × (place ≡ Some new) × ((of : ℕ → KeyMap) → IsMade formats (store_of files of) (handle_of rec) (record_of rec) parent keys new))
        → IfErr result (λ why. UnlessMemory fault.Memory ((of : ℕ → KeyMap) → IsRefused formats (store_of files of) (handle_of rec) (record_of rec) parent keys why) why)
        → OnErr result (place ≡ get_or places p d)
        → Stepped formats g files procs opened first (asked.Prepare r p parent keys) (told.Prepared result) core records (set places p place)
    prepared_so (Ok done) place d lt made refused same =
        subst (λ (o : Option Prepared). Stepped formats g files procs opened first (asked.Prepare r p parent keys) (told.Prepared (Ok done)) core records (set places p o)) (sym made.1) (readied done made.0 lt (made.2 procs))
    prepared_so (Err why) place d lt made refused same =
        subst (λ (ps : List (Option Prepared)). Stepped formats g files procs opened first (asked.Prepare r p parent keys) (told.Prepared (Err why)) core records ps) (sym (ap (set places p) same ∙ set-get_or places p d))
        (unready why (λ ne. refused ne procs))

  -- ---- a commit

  -- the set in a place that is there
  held_there : (p : ℕ) (d : Option Prepared) → p < length places → held_at places p ≡ get_or places p d
  held_there p d lt = ap (λ (o : Option (Option Prepared)). option_and_then (λ s. s) o) (slice_get-get_or places p d lt)

  kept_back : (r p : ℕ) (rec : Record) (place : Option Prepared) (why : Skip) → slice_get records r ≡ Some rec
      → held_at places p ≡ place → IsKeptBack rec place why → IsSkipped first (asked.Commit r p) why
  kept_back r p rec place skip.NoHandle there is kept = absurd kept
  kept_back r p rec place skip.NoPlace there is kept = absurd kept
  kept_back r p rec place skip.NoSet there is kept = ap (λ (o : Option Prepared). option_map prepared_of o) (is ∙ kept)
  kept_back r p rec None skip.NotAccepted there is kept = absurd kept
  kept_back r p rec (Some one) skip.NotAccepted there is kept = record {
    set = prepared_of one;
    is_held = ap (λ (o : Option Prepared). option_map prepared_of o) is;
    declined = subst (λ n. accepts (records_of records r) n (prepared_of one) ≡ false) (h.handles r rec there).number
        (subst (λ (x : model.Record). accepts x (handle_of rec) (prepared_of one) ≡ false) (sym (record_at r rec there)) kept);
  }

  pub declined : (r p : ℕ) (rec : Record) (place d : Option Prepared) (why : Skip) → slice_get records r ≡ Some rec
      → p < length places → IsKeptBack rec (get_or places p d) why → place ≡ get_or places p d
      → Stepped formats g files procs opened first (asked.Commit r p) (told.Skipped why) core records (set places p place)
  declined r p rec place d why there lt kept same =
      subst (λ (ps : List (Option Prepared)). Stepped formats g files procs opened first (asked.Commit r p) (told.Skipped why) core records ps) (sym (ap (set places p) same ∙ set-get_or places p d))
      (skipped (asked.Commit r p) why (kept_back r p rec (get_or places p d) why there (held_there p d lt) kept))

  pub held_by : (p : ℕ) (d : Option Prepared) (prepared : Prepared) → p < length places
      → get_or places p d ≡ Some prepared → held_at places p ≡ Some prepared
  held_by p d prepared lt is = held_there p d lt ∙ is

  module _ (r p : ℕ) (old : Record) (prepared : Prepared) (there : slice_get records r ≡ Some old) (is_held : held_at places p ≡ Some prepared) (accepted : accepts (record_of old) (handle_of old) (prepared_of prepared) ≡ true) where
    pub belongs_here : BelongsIn formats store core (records_of records) known world p old prepared
    belongs_here =
        let is = h.held p prepared is_held in
        let made = is.was_made in
        belongs_made formats store core (records_of records) known world p old prepared made.handle made.before made.parent made.keys h.stands.here (record_is r old there)
        (omega (arith, length-map files (λ (file : MountedFile). file.mount), (h.handles r old there).places)) is.is accepted made.made

    pub belongs : Belongs formats g store opened core (records_of records) known world run p old prepared
    belongs = record { here = belongs_here; on_disk = h.stands.on_disk; names = h.stands.names }

    committed : (after : Core D P) (new : Record) (risen : Bool) (result : Result Done CommitFault) → r < length records
        → p < length places → Moves old new
        → HasAnswered formats g store opened core after (records_of records) known run p old new prepared risen result
        → Stepped formats g files procs opened first (asked.Commit r p) (told.Committed result) after (set records r new) (set places p None)
    committed after new risen result lt free moves has =
        let next : ℕ → model.Record = records_of (set records r new) in
        let done : IsCommitted formats g store opened core after (records_of records) next known run has.later r p has.answer =
        subst (λ (rs : ℕ → model.Record). IsCommitted formats g store opened core after (records_of records) rs known run has.later r p has.answer) (records_of-set records r new lt)
        (subst (λ n. IsCommitted formats g store opened core after (records_of records) (put n (record_of new) (records_of records)) known run has.later n p has.answer) (h.handles r old there).number has.committed) in
        let stands = stands_committed formats store g opened core after (records_of records) next known world run has.later r p h.stands has.answer done in
        record {
          known = known;
          world = stands.0;
          run = has.later;
          does = record {
            answer = has.answer;
            tells = record { found = length core.history.commits; set = prepared_of prepared; risen = risen; is = has.is_answer };
            made = done.made;
            runs_on = done.runs_on;
            held = sym (held_in-set places p None free);
            handles = length-set records r new;
            places = length-set places p None;
          };
          holds = record { stands = stands.2; handles = moved r old new there lt moves; held = held_without free };
        }
      where
        held_without : p < length places → AreHeld formats store known (set places p None)
        held_without free n one =
            set-cases (λ (o : Option (Option Prepared)). option_and_then (λ s. s) o ≡ Some one → IsHeld formats store (known n) one) places p n None free
            (λ same e. absurd cc)
            (λ other e. h.held n one e)

    pub committed_so : (after : Core D P) (new : Record) (risen : Bool) (result : Result Done CommitFault)
        (place : Option Prepared) → place ≡ None → r < length records → p < length places → Moves old new
        → HasAnswered formats g store opened core after (records_of records) known run p old new prepared risen result
        → Stepped formats g files procs opened first (asked.Commit r p) (told.Committed result) after (set records r new) (set places p place)
    committed_so after new risen result place free lt there_is moves has =
        subst (λ (o : Option Prepared). Stepped formats g files procs opened first (asked.Commit r p) (told.Committed result) after (set records r new) (set places p o)) (sym free) (committed after new risen result lt there_is moves has)
