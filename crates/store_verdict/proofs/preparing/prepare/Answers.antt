-- What is seen, wanted and written makes the set, or refuses it.
use Rattle.std.proofs.Common.{◌≡◌, ℕ, ◌<◌, List, length, map as over, Some, sym, ap, subst, ◌∙◌, arith}
use Rattle.std.specs.List.{AllByRecursion}
use Rattle.std.proofs.lemmas.List.{length-map}
use Rattle.model_maps.specs.KeyMap.{KeyMap}
use Rattle.model_names.specs.Name.{Name}
use Rattle.model_store.specs.Fitting.{NotFetched}
use Rattle.model_store.specs.Records.{Record}
use Rattle.model_store.specs.Sets.{differs, kept, prepared, wants}
use Rattle.model_store.specs.Store.{Formats, formats_of, points_at, store_of}
use Rattle.model_store.proofs.Members.{among-filter}
use Rattle.mount_table.specs.declared.mounts.Mount.{Mount}
use Rattle.mounted_files.specs.Setting.{first_long_in}
use Rattle.mounted_files.specs.Short.{AreShort}
use Rattle.mounted_files.specs.declared.files.MountedFile.{MountedFile}
use Rattle.set_split.specs.Involved.{involved_in}
use Rattle.set_split.specs.Seen.{numbered}
use Rattle.set_split.specs.declared.parts.Part.{Part}
use Rattle.store_verdict.specs.Filing.{IsAsked}
use Rattle.store_verdict.specs.Preparing.{IsMade, fault_of}
use Rattle.store_verdict.specs.RecordView.{handle_of, record_of}
use Rattle.store_verdict.specs.Seeing.{AreSeen, IsSeeing, unseen}
use Rattle.store_verdict.specs.Wanting.{IsWanted, touched_at}
use Rattle.store_verdict.specs.declared.prepared.Prepared.{Prepared}
use Rattle.store_verdict.specs.declared.seeing.Seeing.{Seeing}
use Rattle.store_verdict.proofs.PrepareLemmas.{made-from, refused-from, unfetched-from}
use Rattle.store_verdict.proofs.SetLemmas.{among-within, involved-within, parts-short, unseen-among}
use Rattle.store_verdict.proofs.preparing.prepare.Goals as goal

-- the mountpoints of mounted files
abbrev points_in : List MountedFile → List Name
points_in files = points_at (over (λ (file : MountedFile). file.mount) files)

-- the mounts that were asked are those that the parent involves
asked : (points told : List Name) (parent : Name) (slice mounts : List ℕ) → slice ≡ mounts
    → mounts ≡ involved_in told parent → told ≡ points → slice ≡ involved_in points parent
asked points told parent slice mounts is involved are =
    is ∙ involved ∙ ap (λ (ps : List Name). involved_in ps parent) are

pub not_fetched-requires : goal.not_fetched-requires
not_fetched-requires g c =
    let table : List Mount = c.table-table.result.now in
    let points : List Name = c.points.result.now in
    let rec : Record = record_of c.args.rec.now in
    let mounts : List ℕ = c.as_slice.result.now in
    let m : ℕ = c.in-Missing.mount in
    let none : unseen rec mounts ≡ Some (NotFetched m) = subst (λ (s : Seeing). IsSeeing rec mounts s) c.in-Missing.is c.in_ok-seen.ensures in
    among-within (length table) mounts m
    (subst (λ (ms : List ℕ). AllByRecursion (λ n. n < length table) ms) (sym (c.as_slice.ensures ∙ c.in_ok-mounts.ensures))
    (involved-within points c.args.parent.now (length table) (omega (arith, ap length c.points.ensures.points, length-map table (λ (mount : Mount). mount.at)))))
    (unseen-among rec mounts m none)

pub returns-in-Missing-clause-refused : goal.returns-in-Missing-clause-refused
returns-in-Missing-clause-refused g c = λ _ procs.
    let files : List MountedFile = c.args.mounted.now in
    let rec : Record = record_of c.args.rec.now in
    let parent : Name = c.args.parent.now in
    let mounts : List ℕ = c.as_slice.result.now in
    let none : unseen rec mounts ≡ Some (NotFetched c.in-Missing.mount) = subst (λ (s : Seeing). IsSeeing rec mounts s) c.in-Missing.is c.in_ok-seen.ensures in
    unfetched-from (formats_of g.F.Formats) (store_of files procs) (handle_of c.args.rec.now) rec parent c.args.keys.now mounts
    (asked (points_in files) c.points.result.now parent mounts c.in_ok-mounts.mounts c.as_slice.ensures c.in_ok-mounts.ensures (c.points.ensures.points ∙ ap (over (λ (mount : Mount). mount.at)) c.table-table.ensures.mounts))
    c.in-Missing.mount c.in_ok-not_fetched-in-Missing.field-0 none
    (ap (λ (ms : List Mount). fault_of ms (NotFetched c.in-Missing.mount)) (sym c.table-table.ensures.mounts) ∙ c.in_ok-not_fetched-in-Missing.ensures)

pub texts_of-requires : goal.texts_of-requires
texts_of-requires g c = λ no_long.
    let points : List Name = points_in c.args.mounted.now in
    let parent : Name = c.args.parent.now in
    let keys : KeyMap = c.args.keys.now in
    let rec : Record = record_of c.args.rec.now in
    let made = c.in_ok-wanted.wanted in
    let are = asked points c.points.result.now parent c.as_slice-2.result.now c.in_ok-mounts.mounts c.as_slice-2.ensures c.in_ok-mounts.ensures (c.points.ensures.points ∙ ap (over (λ (mount : Mount). mount.at)) c.table-table.ensures.mounts) in
    let wanted : IsWanted points rec parent keys made = subst (λ (ps : List Name). IsWanted ps rec parent keys made) (c.points-2.ensures.points ∙ ap (over (λ (mount : Mount). mount.at)) c.table-table.ensures.mounts) c.in_ok-wanted.ensures in
    subst (λ (ps : List Part). AllByRecursion (λ (part : Part). AreShort part.keys) ps) (sym c.as_slice-3.ensures)
    (parts-short points keys (involved_in points parent) (ap (λ (ms : List ℕ). first_long_in points ms keys) (sym are) ∙ no_long) made.parts (touched_at points rec parent keys) wanted.parts
    (λ m among. (among-filter (differs (kept rec) (wants points keys)) (involved_in points parent) m among).0))

pub returns-in-Err-clause-refused : goal.returns-in-Err-clause-refused
returns-in-Err-clause-refused g c = λ not_memory procs.
    let files : List MountedFile = c.args.mounted.now in
    let parent : Name = c.args.parent.now in
    let keys : KeyMap = c.args.keys.now in
    let rec : Record = record_of c.args.rec.now in
    let mounts : List ℕ = c.as_slice-2.result.now in
    let set = prepared (points_in files) (handle_of c.args.rec.now) rec parent keys in
    let made = c.in_ok-wanted.wanted in
    let are = asked (points_in files) c.points.result.now parent mounts c.in_ok-mounts.mounts c.as_slice-2.ensures c.in_ok-mounts.ensures (c.points.ensures.points ∙ ap (over (λ (mount : Mount). mount.at)) c.table-table.ensures.mounts) in
    let seen : AreSeen rec c.as_slice.result.now c.in-All.seen = subst (λ (s : Seeing). IsSeeing rec c.as_slice.result.now s) c.in-All.is c.in_ok-seen.ensures in
    let wanted : IsWanted (points_in files) rec parent keys made = subst (λ (ps : List Name). IsWanted ps rec parent keys made) (c.points-2.ensures.points ∙ ap (over (λ (mount : Mount). mount.at)) c.table-table.ensures.mounts) c.in_ok-wanted.ensures in
    refused-from (formats_of g.F.Formats) (store_of files procs) (handle_of c.args.rec.now) rec parent keys mounts are c.in-All.seen
    (subst (λ (ms : List ℕ). AreSeen rec ms c.in-All.seen) (c.as_slice.ensures ∙ sym c.as_slice-2.ensures) seen)
    made wanted c.in-Err.why
    (λ asks. c.in-Err.ensures.refused not_memory procs set (subst (λ (ps : List Part). IsAsked (store_of files procs) mounts keys (numbered ps) set) (sym c.as_slice-3.ensures) asks))

pub returns-clause-made : goal.returns-clause-made
returns-clause-made g c = λ procs.
    let formats : Formats = formats_of g.F.Formats in
    let files : List MountedFile = c.args.mounted.now in
    let parent : Name = c.args.parent.now in
    let keys : KeyMap = c.args.keys.now in
    let rec : Record = record_of c.args.rec.now in
    let mounts : List ℕ = c.as_slice-2.result.now in
    let set = prepared (points_in files) (handle_of c.args.rec.now) rec parent keys in
    let made = c.in_ok-wanted.wanted in
    let are = asked (points_in files) c.points.result.now parent mounts c.in_ok-mounts.mounts c.as_slice-2.ensures c.in_ok-mounts.ensures (c.points.ensures.points ∙ ap (over (λ (mount : Mount). mount.at)) c.table-table.ensures.mounts) in
    let seen : AreSeen rec c.as_slice.result.now c.in-All.seen = subst (λ (s : Seeing). IsSeeing rec c.as_slice.result.now s) c.in-All.is c.in_ok-seen.ensures in
    let wanted : IsWanted (points_in files) rec parent keys made = subst (λ (ps : List Name). IsWanted ps rec parent keys made) (c.points-2.ensures.points ∙ ap (over (λ (mount : Mount). mount.at)) c.table-table.ensures.mounts) c.in_ok-wanted.ensures in
    let handle : handle_of c.args.rec.now ≡ c.handle.result = sym c.handle.ensures in
    let committed : rec.committed ≡ c.committed.result = sym c.committed.ensures in
    let all : c.in-All.seen ≡ c.seen.inside.items.items = sym c.seen.view_is in
    let copied : keys ≡ c.in_ok-copy.field-0 = sym c.in_ok-copy.ensures in
    subst (λ (s : Prepared). IsMade formats (store_of files procs) (handle_of c.args.rec.now) rec parent keys s)
    (λ i. record { handle = handle i; committed = committed i; seen = all i; keys = copied i; touched = made.touched; wanted = made.parts; changes = made.changes; aside = made.aside; texts = c.in-Ok.texts })
    (made-from formats (store_of files procs) (handle_of c.args.rec.now) rec parent keys mounts are c.in-All.seen
    (subst (λ (ms : List ℕ). AreSeen rec ms c.in-All.seen) (c.as_slice.ensures ∙ sym c.as_slice-2.ensures) seen)
    made wanted c.in-Ok.texts
    (λ asks. c.in-Ok.ensures.texts procs set (subst (λ (ps : List Part). IsAsked (store_of files procs) mounts keys (numbered ps) set) (sym c.as_slice-3.ensures) asks)))
