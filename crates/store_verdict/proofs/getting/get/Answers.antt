-- The record keeps what the involved mounts own.
use Rattle.std.proofs.Common.{◌≡◌, ℕ, ◌<◌, List, length, map as over, refl, sym, ap, ◌∙◌, arith}
use Rattle.std.proofs.lemmas.List.{length-map}
use Rattle.std.proofs.lemmas.List.Elements.{All-from_recursion}
use Rattle.model_names.specs.Name.{Name}
use Rattle.model_store.specs.Cores.{keeping}
use Rattle.model_store.specs.Sets.{wants}
use Rattle.model_store.specs.Store.{points_of, store_of}
use Rattle.mount_table.specs.declared.mounts.Mount.{Mount}
use Rattle.mounted_files.specs.declared.files.MountedFile.{MountedFile}
use Rattle.set_split.specs.Involved.{involved_in}
use Rattle.set_split.specs.Parts.{parts_of}
use Rattle.set_split.specs.declared.parts.Part.{Part}
use Rattle.store_verdict.specs.RecordView.{places_of, record_of}
use Rattle.store_verdict.proofs.SetLemmas.{involved-within, parts-within}
use Rattle.store_verdict.proofs.getting.get.Goals as goal

pub keep-requires : goal.keep-requires
keep-requires c =
    let points : List Name = c.points.result.now in
    let table : List Mount = over (λ (file : MountedFile). file.mount) c.args.mounted.now in
    let k : ℕ = places_of c.args.rec.now in
    All-from_recursion (λ (part : Part). part.mount < k) c.in_ok-parts.parts.parts
    (parts-within k (wants points c.args.keys.now) c.in_ok-parts.parts.parts (involved_in points c.args.parent.now) c.in_ok-parts.ensures.parts
    (involved-within points c.args.parent.now k (omega (arith, c.requires, ap length c.points.ensures.points, ap length (ap (over (λ (mount : Mount). mount.at)) c.table.ensures.mounts), length-map table (λ (mount : Mount). mount.at), length-map c.args.mounted.now (λ (file : MountedFile). file.mount)))))

pub returns-clause-got : goal.returns-clause-got
returns-clause-got c = λ procs proc.
    let store = store_of c.args.mounted.now procs in
    let points : c.points.result.now ≡ points_of store = c.points.ensures.points ∙ ap (over (λ (mount : Mount). mount.at)) c.table.ensures.mounts in
    record {
      good = sym (c.in_ok-mount.ensures procs) ∙ c.in_default.is;
      keys_are = c.in_ok-found.ensures store c.args.keys.now (c.in_ok-parts.ensures.parts ∙ ap (λ (ps : List Name). parts_of ps c.args.parent.now c.args.keys.now) points) proc;
      record_is =
          c.keep.ensures.kept (involved_in c.points.result.now c.args.parent.now) (wants c.points.result.now c.args.keys.now) c.in_ok-parts.ensures.parts
          ∙ ap (λ (ps : List Name). keeping (involved_in ps c.args.parent.now) c.args.front (wants ps c.args.keys.now) (record_of c.args.rec.now)) points;
    }

pub returns-in-Some-clause-got : goal.returns-in-Some-clause-got
returns-in-Some-clause-got c =
    λ procs proc. record { bad = sym (c.in_ok-mount.ensures procs) ∙ c.in-Some.is; same = refl }
