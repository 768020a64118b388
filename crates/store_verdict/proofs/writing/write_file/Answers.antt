-- A format is asked for what it may be asked for, and a key that it can't hold is one of the file's.
use Rattle.std.proofs.Common.{rules, ◌≡◌, slice_get, Some, subst}
use Rattle.model_maps.specs.KeyMap.{KeyMap}
use Rattle.model_names.specs.Name.{Name}
use Rattle.mount_table.specs.declared.mounts.Mount.{Mount}
use Rattle.storage_api.specs.Formats.{RefusesToWrite}
use Rattle.storage_api.specs.declared.refusals.WriteRefusal.{WriteRefusal}
use Rattle.storage_api.specs.declared.refusals.WriteRefusal.TheVariants as write
use Rattle.store_verdict.proofs.writing.write_file.Goals as goal

-- a refusal that tells a key is no want of memory
told : (Breaks : Name → Type 0) (key : Name) (refusal : WriteRefusal) → refusal ≡ write.NotStorable key
    → RefusesToWrite Breaks refusal → Breaks key
told Breaks key refusal is refuses =
    subst (λ (w : WriteRefusal). RefusesToWrite Breaks w) is refuses (λ memory. absurd cc)

pub not_storable-requires-clause-cascading : goal.not_storable-requires-clause-cascading
not_storable-requires-clause-cascading g c =
    let mount : Mount = c.in-Some.mount.now in
    let keys : KeyMap = c.args.file.now.contents in
    let key : Name = c.in-Err-NotStorable.key in
    let there : slice_get c.args.table.now c.args.file.now.mount ≡ Some mount = search rules in
    let breaks = told (g.F.Formats.breaks_at mount.kind keys) key c.in-Err-NotStorable.field-0 c.in-Err-NotStorable.field-0-is c.in-Err-NotStorable.ensures.text in
    let one = g.F.Formats.breaks_at_a_key mount.kind keys key breaks in
    ((c.requires mount there).0.each key one.0 one.1).cascading

pub not_storable-requires-clause-name : goal.not_storable-requires-clause-name
not_storable-requires-clause-name g c =
    let mount : Mount = c.in-Some.mount.now in
    let keys : KeyMap = c.args.file.now.contents in
    let key : Name = c.in-Err-NotStorable.key in
    let there : slice_get c.args.table.now c.args.file.now.mount ≡ Some mount = search rules in
    let breaks = told (g.F.Formats.breaks_at mount.kind keys) key c.in-Err-NotStorable.field-0 c.in-Err-NotStorable.field-0-is c.in-Err-NotStorable.ensures.text in
    let one = g.F.Formats.breaks_at_a_key mount.kind keys key breaks in
    (c.requires mount there).1 key one.0 one.1
