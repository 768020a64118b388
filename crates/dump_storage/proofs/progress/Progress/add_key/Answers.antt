-- A key has a reading where its name is new and it isn't too heavy.
use Rattle.std.proofs.Common.{length, refl, ap, ◌∙◌, arith, false}
use Rattle.std.specs.FinMap as map
use Rattle.model_maps.specs.Entry.{plain_entry}
use Rattle.dump_storage.specs.ProgressView.{progress_of}
use Rattle.dump_storage.proofs.ProgressLemmas.{AddsNothing-no_name}
use Rattle.dump_storage.proofs.StepLemmas.{key_heavy, key_step, key_sound, none-by_test}
use Rattle.dump_storage.proofs.progress.Progress.add_key.Goals as goal

pub returns-in_default-clause-step : goal.returns-in_default-clause-step
returns-in_default-clause-step c =
    (refl, AddsNothing-no_name (progress_of c.args.self.now) c.args.text.now c.args.value.now (rw c.in_default.is at c.in_ok-name.ensures))

pub returns-in_default-heavier-clause-step : goal.returns-in_default-heavier-clause-step
returns-in_default-heavier-clause-step c =
    let name = c.in-Some.name in
    let spells = rw c.in-Some.is at c.in_ok-name.ensures in
    (refl, key_heavy c.args.self.now c.requires c.args.text.now c.args.value.now name spells (omega (arith, c.in_default-heavier.ensures, c.path_bytes-own.ensures.bytes, ap length c.in-Some-value_of.ensures.0)))

pub returns-clause-sound : goal.returns-clause-sound
returns-clause-sound c =
    let name = c.in-Some.name in
    let spells = rw c.in-Some.is at c.in_ok-name.ensures in
    let is_new = none-by_test (map.get (progress_of c.args.self.now).keys name) false c.if-has.ensures refl in
    let plain = c.new-entry.ensures ∙ ap plain_entry (c.in_ok-value.ensures ∙ c.in-Some-value_of.ensures.0) in
    key_sound c.args.self.now c.requires c.args.text.now c.args.value.now name spells is_new c.pass_present.new.self.keys c.new-entry.result c.in-Some-heavier.weight c.in_ok-pass_present.ensures.keys plain
    (omega (arith, c.in-Some-heavier.ensures.0, c.path_bytes-own.ensures.bytes, ap length c.in-Some-value_of.ensures.0)) c.in-Some-heavier.ensures.1

pub returns-clause-step : goal.returns-clause-step
returns-clause-step c =
    let name = c.in-Some.name in
    let spells = rw c.in-Some.is at c.in_ok-name.ensures in
    let is_new = none-by_test (map.get (progress_of c.args.self.now).keys name) false c.if-has.ensures refl in
    let plain = c.new-entry.ensures ∙ ap plain_entry (c.in_ok-value.ensures ∙ c.in-Some-value_of.ensures.0) in
    key_step c.args.self.now c.requires c.args.text.now c.args.value.now name spells is_new c.pass_present.new.self.keys c.new-entry.result c.in-Some-heavier.weight c.in_ok-pass_present.ensures.keys plain
    (omega (arith, c.in-Some-heavier.ensures.0, c.path_bytes-own.ensures.bytes, ap length c.in-Some-value_of.ensures.0)) c.in-Some-heavier.ensures.1 c.in-Some-value_of.ensures.1
