-- Metadata is copied where an earlier key has it and the present key hasn't.
use Rattle.std.proofs.Common.{refl, sym, ap, ◌∙◌}
use Rattle.std.specs.FinMap as map
use Rattle.key_set.specs.EntryView.{entry_of}
use Rattle.dump_storage.specs.ProgressView.{progress_of}
use Rattle.dump_storage.proofs.ProgressLemmas.{AddsNothing-no_source}
use Rattle.dump_storage.proofs.StepLemmas.{unchanged, copy_no_earlier, copy_no_meta, copy_refused, put_sound, copy_step, puts-renamed, cannot-renamed}
use Rattle.dump_storage.proofs.progress.Progress.copy_meta.Goals as goal

pub returns-in_default-clause-step : goal.returns-in_default-clause-step
returns-in_default-clause-step c =
    (refl, AddsNothing-no_source (progress_of c.args.self.now) c.args.source.now c.args.name.now (rw c.in_default.is at c.in_ok-source.ensures))

pub returns-in_default-lookup-clause-step : goal.returns-in_default-lookup-clause-step
returns-in_default-lookup-clause-step c =
    let key = c.in-Some-present in
    let spells = rw c.in-Some.is at c.in_ok-source.ensures in
    (unchanged c.args.self.now key.present key.is c.requires key.present refl, copy_no_earlier c.args.self.now key.present key.is c.requires c.args.source.now c.in-Some.source spells c.args.name.now (sym c.in_default-lookup.ensures))

pub returns-in_default-get-clause-step : goal.returns-in_default-get-clause-step
returns-in_default-get-clause-step c =
    let key = c.in-Some-present in
    let spells = rw c.in-Some.is at c.in_ok-source.ensures in
    let earlier = entry_of c.in-Some-lookup.earlier.now in
    let none = ap (map.get earlier.meta) (sym c.in-Some-meta_name_of.ensures.0) ∙ sym c.in_default-get.ensures in
    (unchanged c.args.self.now key.present key.is c.requires key.present refl, copy_no_meta c.args.self.now key.present key.is c.requires c.args.source.now c.in-Some.source spells c.args.name.now earlier (sym c.in-Some-lookup.ensures) none)

pub returns-in_default-2-clause-step : goal.returns-in_default-2-clause-step
returns-in_default-2-clause-step c =
    let key = c.in-Some-present in
    let spells = rw c.in-Some.is at c.in_ok-source.ensures in
    let earlier = entry_of c.in-Some-lookup.earlier.now in
    let has = ap (map.get earlier.meta) (sym c.in-Some-meta_name_of.ensures.0) ∙ sym c.in-Some-get.ensures in
    let stays = rw c.in_default-2.is at c.in_ok-weight.ensures in
    let refused = cannot-renamed key.present c.args.self.now.weight c.in-Some-meta_name_of.name.now c.in-Some-get.text.now c.args.name.now c.in-Some-get.text.now c.in-Some-meta_name_of.ensures.0 refl stays.1 in (
      unchanged c.args.self.now key.present key.is c.requires c.put.new.self stays.0,
      copy_refused c.args.self.now key.present key.is c.requires c.args.source.now c.in-Some.source spells c.args.name.now earlier c.in-Some-get.text.now (sym c.in-Some-lookup.ensures) has refused,
    )

pub returns-clause-sound : goal.returns-clause-sound
returns-clause-sound c =
    let key = c.in-Some-present in
    let put = rw c.in-Some-2.is at c.in_ok-weight.ensures in
    let puts = puts-renamed key.present c.put.new.self c.args.self.now.weight c.in-Some-2.weight c.in-Some-meta_name_of.name.now c.in-Some-get.text.now c.args.name.now c.in-Some-get.text.now c.in-Some-meta_name_of.ensures.0 refl put in
    put_sound c.args.self.now key.present key.is c.requires c.args.name.now c.in-Some-get.text.now c.in-Some-meta_name_of.ensures.1 c.put.new.self c.in-Some-2.weight puts

pub returns-clause-step : goal.returns-clause-step
returns-clause-step c =
    let key = c.in-Some-present in
    let spells = rw c.in-Some.is at c.in_ok-source.ensures in
    let earlier = entry_of c.in-Some-lookup.earlier.now in
    let has = ap (map.get earlier.meta) (sym c.in-Some-meta_name_of.ensures.0) ∙ sym c.in-Some-get.ensures in
    let put = rw c.in-Some-2.is at c.in_ok-weight.ensures in
    let puts = puts-renamed key.present c.put.new.self c.args.self.now.weight c.in-Some-2.weight c.in-Some-meta_name_of.name.now c.in-Some-get.text.now c.args.name.now c.in-Some-get.text.now c.in-Some-meta_name_of.ensures.0 refl put in
    copy_step c.args.self.now key.present key.is c.requires c.args.name.now c.in-Some-get.text.now c.in-Some-meta_name_of.ensures.1 c.put.new.self c.in-Some-2.weight puts c.args.source.now c.in-Some.source earlier spells (sym c.in-Some-lookup.ensures) has
