-- The files of the touched mounts can be made anew, and what is told of the files is told of the mounts.
use Rattle.std.proofs.Common.{◌≡◌, false, List, map as over, Some, None, sym, ap, subst, ◌∙◌}
use Rattle.std.specs.List.{AllByRecursion, list_any}
use Rattle.model_maps.specs.KeyMap.{KeyMap}
use Rattle.model_files.specs.Texts.{as_file}
use Rattle.model_store.specs.Store.{Formats, counts_in, formats_of, store_of}
use Rattle.model_store.specs.Verdicts.{TooLarge}
use Rattle.mount_table.specs.declared.mounts.Mount.{Mount}
use Rattle.mounted_files.specs.declared.files.MountedFile.{MountedFile}
use Rattle.store_verdict.specs.Filing.{IsSoundFile, by_name}
use Rattle.store_verdict.specs.Renewing.{AreAnew, IsRenewable}
use Rattle.store_verdict.specs.declared.files.FileToWrite.{FileToWrite}
use Rattle.store_verdict.specs.declared.renewing.Written.{Written}
use Rattle.store_verdict.specs.declared.renewing.Written.TheVariants.{All, TooLarge as Large}
use Rattle.store_verdict.proofs.RenewLemmas.{can-renew, files-are, large-is, mounts_in, owned_files, small-all, texts-are}
use Rattle.store_verdict.proofs.renewing.renew.Goals as goal

-- what was written of some files, of others that are these
of-files : (formats : Formats) (told mounts : List Mount) (made files : List FileToWrite) (all written : Written)
    → told ≡ mounts → made ≡ files → all ≡ written → AreAnew formats told made all
    → AreAnew formats mounts files written
of-files formats told mounts made files all written at are is anew =
    subst (AreAnew formats mounts files) is (subst (λ (fs : List FileToWrite). AreAnew formats mounts fs all) are (subst (λ (ms : List Mount). AreAnew formats ms made all) at anew))

pub returns-then-not-any_counts_by_key : goal.returns-then-not-any_counts_by_key
returns-then-not-any_counts_by_key g c = λ procs.
    let files : List MountedFile = c.args.mounted.now in
    let none : list_any (counts_in (mounts_in files)) c.args.touched.now ≡ false =
    ap (λ (ms : List Mount). list_any (counts_in ms) c.args.touched.now) (sym c.table-table.ensures.mounts) ∙ sym c.any_counts_by_key.ensures ∙ c.if-not-any_counts_by_key.true in
    (small-all (formats_of g.F.Formats) (store_of files procs) c.args.keys.now c.args.touched.now none, none)

pub write_anew-requires : goal.write_anew-requires
write_anew-requires g c =
    let formats : Formats = formats_of g.F.Formats in
    let files : List MountedFile = c.args.mounted.now in
    let keys : KeyMap = c.args.keys.now in
    let touched = c.args.touched.now in
    let points = c.points.ensures.points ∙ ap (over (λ (mount : Mount). mount.at)) c.table-table.ensures.mounts in
    let made : List FileToWrite = c.in_ok-files.files.items in
    let are = files-are files c.files.result.now keys touched c.deref-2.result.now made c.deref.result.now c.in_ok-parts.parts.items c.points.result.now
    c.deref-2.ensures.value c.in_ok-files.ensures.files c.files.ensures.files c.deref.ensures.value c.in_ok-parts.ensures points in
    let sound = subst (λ (ms : List Mount). AllByRecursion (IsSoundFile ms) made) (ap mounts_in c.files.ensures.files) c.in_ok-files.ensures.sound in
    let well = can-renew formats files keys touched c.files.ensures.short c.requires (subst (λ (fs : List FileToWrite). AllByRecursion (IsSoundFile (mounts_in files)) fs) (sym c.deref-2.ensures.value ∙ are) sound) in
    subst (λ (ms : List Mount). AllByRecursion (IsRenewable formats ms) c.deref-2.result.now) (sym c.table-table.ensures.mounts)
    (subst (λ (fs : List FileToWrite). AllByRecursion (IsRenewable formats (mounts_in files)) fs) (sym are) well)

pub returns-in-All : goal.returns-in-All
returns-in-All g c = λ procs.
    let formats : Formats = formats_of g.F.Formats in
    let files : List MountedFile = c.args.mounted.now in
    let keys : KeyMap = c.args.keys.now in
    let touched = c.args.touched.now in
    let points = c.points.ensures.points ∙ ap (over (λ (mount : Mount). mount.at)) c.table-table.ensures.mounts in
    let are = files-are files c.files.result.now keys touched c.deref-2.result.now c.in_ok-files.files.items c.deref.result.now c.in_ok-parts.parts.items c.points.result.now
    c.deref-2.ensures.value c.in_ok-files.ensures.files c.files.ensures.files c.deref.ensures.value c.in_ok-parts.ensures points in
    let anew = of-files formats c.table-table.result.now (mounts_in files) c.deref-2.result.now (owned_files files keys touched) c.in_ok-all.field-0 (All c.in-All.all) c.table-table.ensures.mounts are c.in-All.is c.in_ok-all.ensures in (
      large-is formats files keys touched procs None anew.0,
      λ own. texts-are formats files keys touched procs c.in-All.all.items c.in_ok-entry_of-in-All.field-0 anew.1
          (c.in_ok-entry_of-in-All.ensures ∙ ap (λ (ms : List Mount). over as_file (by_name ms c.in-All.all.items)) c.table-table.ensures.mounts),
    )

pub returns : goal.returns
returns g c = λ procs.
    let formats : Formats = formats_of g.F.Formats in
    let files : List MountedFile = c.args.mounted.now in
    let keys : KeyMap = c.args.keys.now in
    let touched = c.args.touched.now in
    let points = c.points.ensures.points ∙ ap (over (λ (mount : Mount). mount.at)) c.table-table.ensures.mounts in
    let are = files-are files c.files.result.now keys touched c.deref-2.result.now c.in_ok-files.files.items c.deref.result.now c.in_ok-parts.parts.items c.points.result.now
    c.deref-2.ensures.value c.in_ok-files.ensures.files c.files.ensures.files c.deref.ensures.value c.in_ok-parts.ensures points in
    let anew = of-files formats c.table-table.result.now (mounts_in files) c.deref-2.result.now (owned_files files keys touched) c.in_ok-all.field-0 (Large c.in-TooLarge.mount c.in-TooLarge.bytes)
    c.table-table.ensures.mounts are c.in-TooLarge.is c.in_ok-all.ensures in
    large-is formats files keys touched procs (Some (TooLarge c.in-TooLarge.mount c.in-TooLarge.bytes)) anew
