-- A key has a reading where its name is new and below the mountpoint, and it isn't too heavy.
use Rattle.std.proofs.Common.{◌≡◌, None, length, ap, sym, subst, ◌∙◌, arith}
use Rattle.std.specs.FinMap as finite
use Rattle.model_maps.specs.Entry.{plain_entry}
use Rattle.model_maps.specs.KeyMap.{weight}
use Rattle.model_ini.specs.Ini.{AddsKey}
use Rattle.ini_storage.proofs.KeyLemmas.{heavy-not_added, key-added, weight-plain}
use Rattle.file_lines.proofs.Lookups.{new-by_test}
use Rattle.ini_storage.proofs.progress.add_key.Goals as goal

pub returns-in_default-clause-added : goal.returns-in_default-clause-added
returns-in_default-clause-added c = λ next adds. (rw c.in_default.is at c.in_ok-name.ensures) adds.name adds.spelled

pub returns-in_default-heavier-clause-added : goal.returns-in_default-heavier-clause-added
returns-in_default-heavier-clause-added c =
    let name = c.in-Some.name in
    let spells = rw c.in-Some.is at c.in_ok-name.ensures in
    heavy-not_added c.args.progress.now.keys c.args.text.now c.args.value.now name spells (omega (arith, c.in_default-heavier.ensures, c.text_bytes.ensures, ap length c.in-Some-value_of.ensures.0, c.requires))

pub returns-clause-sound : goal.returns-clause-sound
returns-clause-sound c =
    let name = c.in-Some.name in
    let keys = c.args.progress.now.keys in
    let spells = rw c.in-Some.is at c.in_ok-name.ensures in
    let is_new : finite.get keys name ≡ None = new-by_test _ _ _ c.lookup.ensures (sym c.is_some.ensures ∙ c.if-is_some.false) in
    let plain = c.in_ok-value.ensures ∙ c.in-Some-value_of.ensures.0 in
    let inserted : c.append.new.self ≡ finite.insert keys name (plain_entry c.args.value.now) = c.in_ok-append.ensures.ok ∙ ap (finite.insert keys name) (λ i. record { value = plain i; meta = c.new-meta.ensures i }) in
    omega (arith, ap weight inserted, weight-plain keys c.args.text.now c.args.value.now name spells is_new, c.in-Some-heavier.ensures.0, c.text_bytes.ensures, ap length c.in-Some-value_of.ensures.0, c.requires)

pub returns-clause-added : goal.returns-clause-added
returns-clause-added c =
    let name = c.in-Some.name in
    let keys = c.args.progress.now.keys in
    let spells = rw c.in-Some.is at c.in_ok-name.ensures in
    let is_new : finite.get keys name ≡ None = new-by_test _ _ _ c.lookup.ensures (sym c.is_some.ensures ∙ c.if-is_some.false) in
    let plain = c.in_ok-value.ensures ∙ c.in-Some-value_of.ensures.0 in
    let inserted : c.append.new.self ≡ finite.insert keys name (plain_entry c.args.value.now) = c.in_ok-append.ensures.ok ∙ ap (finite.insert keys name) (λ i. record { value = plain i; meta = c.new-meta.ensures i }) in
    subst (AddsKey keys c.args.text.now c.args.value.now) (sym inserted)
    (key-added keys c.args.text.now c.args.value.now name spells (λ none. c.if-len-eq0.false (c.len.ensures.parts ∙ none)) is_new c.in-Some-value_of.ensures.1 (omega (arith, c.in-Some-heavier.ensures.0, c.in-Some-heavier.ensures.1, c.text_bytes.ensures, ap length c.in-Some-value_of.ensures.0, c.requires)))
