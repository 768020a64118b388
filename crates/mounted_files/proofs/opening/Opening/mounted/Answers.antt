-- The own file is put back at its place among the others.
use Rattle.std.proofs.Common.{◌≡◌, ◌≤◌, ℕ, List, length, take, map as over, slice_get, Some, refl, sym, ap, subst, ◌∙◌, arith}
use Rattle.std.specs.List.{insert, remove, sum_by}
use Rattle.std.proofs.lemmas.List.{length-map, take_all}
use Rattle.std.proofs.lemmas.Option.{same_Some, slice_get_within}
use Rattle.model_maps.specs.KeyMap.{heaviest_map}
use Rattle.mount_table.specs.Table.{own_mount}
use Rattle.mount_table.specs.declared.mounts.Mount.{Mount}
use Rattle.mounted_files.specs.Begins.{Begins}
use Rattle.mounted_files.specs.Begun.{Begun, others}
use Rattle.mounted_files.specs.Weighed.{visible_weight}
use Rattle.mounted_files.specs.Writable.{AllCanBeWritten, CanBeWrittenSoFar}
use Rattle.mounted_files.specs.declared.files.FileState.{FileState}
use Rattle.mounted_files.specs.declared.files.MountedFile.{MountedFile}
use Rattle.mounted_files.proofs.BegunLemmas.{insert-remove, length-remove, over-insert}
use Rattle.mounted_files.proofs.LightLemmas.{all-light}
use Rattle.mounted_files.proofs.OpeningLemmas.{is-opened}
use Rattle.mounted_files.proofs.PointLemmas.{points-of_mounts}
use Rattle.mounted_files.proofs.WritableLemmas.{all-writable}
use Rattle.mounted_files.proofs.opening.Opening.mounted.Goals as goal

-- the own file, put in, under a mount that was found there
put_in : (files new : List MountedFile) (place : ℕ) (own : FileState) (mount found : Mount) → mount ≡ found
    → found ≡ own_mount → new ≡ insert files place (record { mount = mount; state = own })
    → new ≡ insert files place (record { mount = own_mount; state = own })
put_in files new place own mount found copied is made =
    made ∙ ap (λ m. insert files place (record { mount = m; state = own })) (copied ∙ is)

-- the files are those of all others
all_others : (table : List Mount) (place : ℕ) (files : List MountedFile)
    → over (λ (file : MountedFile). file.mount) files ≡ take (length files) (remove table place)
    → length files ≡ length (remove table place) → over (λ (file : MountedFile). file.mount) files ≡ remove table place
all_others table place files first counted =
    first ∙ take_all (length files) (remove table place) (omega (arith, counted))

-- with the own file put in, the mounts are those of the table
mounts_put : (table : List Mount) (place : ℕ) (own : FileState) (files : List MountedFile)
    → slice_get table place ≡ Some own_mount → over (λ (file : MountedFile). file.mount) files ≡ remove table place
    → over (λ (file : MountedFile). file.mount) (insert files place (record { mount = own_mount; state = own })) ≡ table
mounts_put table place own files own_there others =
    over-insert (λ (file : MountedFile). file.mount) files place (record { mount = own_mount; state = own })
    ∙ (ap (λ ms. insert ms place own_mount) others ∙ insert-remove table place own_mount own_there)

-- and their place is one among them
place_within : (table : List Mount) (place : ℕ) (files : List MountedFile) → slice_get table place ≡ Some own_mount
    → over (λ (file : MountedFile). file.mount) files ≡ remove table place → place ≤ length files
place_within table place files own_there others =
    let counted : length (over (λ (file : MountedFile). file.mount) files) ≡ length files = length-map files (λ (file : MountedFile). file.mount) in
    let same = ap length others in
    let one_more = length-remove table place own_mount own_there in
    let below = slice_get_within table place own_mount own_there in
    omega (arith, counted, same, one_more, below)

pub new-requires-clause-table : goal.new-requires-clause-table
new-requires-clause-table g c =
    let table = c.self.inside.table in
    let place = c.self.inside.place in
    let files = c.self.inside.files.items in
    let counted = subst (λ (b : Begun). length b.files ≡ length (others b)) (sym c.self.view_is) c.requires in
    let put = put_in files c.insert.new.self.items place c.self.inside.own c.in_ok-copy.field-0 c.in-Some.mount.now c.in_ok-copy.ensures (same_Some c.in-Some.mount.now own_mount (c.in-Some.ensures ∙ c.self.invariant.place)) c.in_ok-insert.ensures.items in
    ap (over (λ (file : MountedFile). file.mount)) put
    ∙ mounts_put table place c.self.inside.own files c.self.invariant.place (all_others table place files c.self.invariant.table counted)

pub new-requires-clause-light : goal.new-requires-clause-light
new-requires-clause-light g c =
    let table = c.self.inside.table in
    let place = c.self.inside.place in
    let own = c.self.inside.own in
    let files = c.self.inside.files.items in
    let counted = subst (λ (b : Begun). length b.files ≡ length (others b)) (sym c.self.view_is) c.requires in
    let put = put_in files c.insert.new.self.items place own c.in_ok-copy.field-0 c.in-Some.mount.now c.in_ok-copy.ensures (same_Some c.in-Some.mount.now own_mount (c.in-Some.ensures ∙ c.self.invariant.place)) c.in_ok-insert.ensures.items in
    subst (λ (all : List MountedFile). sum_by (λ (f : MountedFile). visible_weight f.state) all ≤ heaviest_map) (sym put)
    (all-light table place c.self.inside.sum own files c.self.invariant.ascending c.self.invariant.place (all_others table place files c.self.invariant.table counted) c.self.invariant.sum c.self.invariant.limit)

pub returns-clause-opened : goal.returns-clause-opened
returns-clause-opened g c = λ bytes_of begins.
    let table = c.self.inside.table in
    let place = c.self.inside.place in
    let own = c.self.inside.own in
    let files = c.self.inside.files.items in
    let begun : Begun = record { table = table; place = place; own = own; files = files } in
    let counted = subst (λ (b : Begun). length b.files ≡ length (others b)) (sym c.self.view_is) c.requires in
    let put = put_in files c.insert.new.self.items place own c.in_ok-copy.field-0 c.in-Some.mount.now c.in_ok-copy.ensures (same_Some c.in-Some.mount.now own_mount (c.in-Some.ensures ∙ c.self.invariant.place)) c.in_ok-insert.ensures.items in
    is-opened g.F.Formats.reads g.F.Formats.is_bad_at bytes_of begun
    (subst (λ (b : Begun). Begins g.F.Formats.reads g.F.Formats.is_bad_at bytes_of b) (sym c.self.view_is) begins)
    c.self.invariant.place c.self.invariant.ascending (all_others table place files c.self.invariant.table counted) c.new.result (c.new.ensures ∙ put)

pub returns-clause-storable : goal.returns-clause-storable
returns-clause-storable g c = λ so_far.
    let table = c.self.inside.table in
    let place = c.self.inside.place in
    let own = c.self.inside.own in
    let files = c.self.inside.files.items in
    let begun : Begun = record { table = table; place = place; own = own; files = files } in
    let counted = subst (λ (b : Begun). length b.files ≡ length (others b)) (sym c.self.view_is) c.requires in
    let put = put_in files c.insert.new.self.items place own c.in_ok-copy.field-0 c.in-Some.mount.now c.in_ok-copy.ensures (same_Some c.in-Some.mount.now own_mount (c.in-Some.ensures ∙ c.self.invariant.place)) c.in_ok-insert.ensures.items in
    let before = subst (λ (b : Begun). CanBeWrittenSoFar g.F.Formats.is_storable b) (sym c.self.view_is) so_far in
    let rest = all_others table place files c.self.invariant.table counted in
    let all : List MountedFile = insert files place (record { mount = own_mount; state = own }) in
    let points = ap (over (λ (mount : Mount). mount.at)) (sym (mounts_put table place own files c.self.invariant.place rest)) ∙ points-of_mounts all in
    subst (λ (found : List MountedFile). AllCanBeWritten g.F.Formats.is_storable found) (sym (c.new.ensures ∙ put))
    (all-writable g.F.Formats.is_storable begun all before (place_within table place files c.self.invariant.place rest) refl points)
